-- What lies in the places, and what a call keeps of it.
use Rattle.std.specs.Prelude.{◌≡◌, ℕ, ◌+◌, ◌*◌, ◌<◌, ◌≤◌, true, false, List, map, length, take, drop, None, Option, MatchOption}
use Rattle.reckoning.specs.Enclosing as Enclosing
use Rattle.reckoning.specs.Operations.{Operations}
use Rattle.book.specs.declared.book.Book.{Book}
use Rattle.book.specs.declared.frame.Frame.{Frame}
use Rattle.book.specs.Declines.{too_many_levels}
use Rattle.book.specs.Levels.{kept}
use Rattle.book.specs.Listed.{listed}
use Rattle.book.specs.Places.{Places}
use Rattle.book.specs.declared.shown.Handed.{Handed}
use Rattle.book.specs.Plain.{Entry, Plain, scenarios, losses, with_entry}
use Rattle.book.specs.Refusals.{Sentences, first}
use Rattle.book.specs.Values.{value}
use Rattle.book.specs.Merging.{row_of}

-- rows are as they were, but for the first n places of each of the scenarios' rows of p places
pub record RowsOutside {V : Type 0} (scenarios p n : ℕ) (old new : List V) : Type 0 where
  pub each : (s : ℕ) → s < scenarios → drop n (row_of p s new) ≡ drop n (row_of p s old)
  pub rest : drop (scenarios * p) new ≡ drop (scenarios * p) old

-- every place outside n kept levels is as it was
pub record Outside {V : Type 0} (scenarios p n : ℕ) (old new : Places V) : Type 0 where
  pub levels : drop n new.levels ≡ drop n old.levels
  pub bounds : RowsOutside scenarios p n old.bounds new.bounds
  pub values : RowsOutside scenarios p n old.values new.values

-- a book and its places
pub record State (V : Type 0) : Type 0 where
  pub book : Book
  pub places : Places V

abbrev pub state : {V : Type 0} → Book → Places V → State V
state b x = record { book = b; places = x }

-- the places fit the book
pub record Room (b : Book) (h : Handed) : Type 0 where
  pub some : 1 ≤ h.levels
  pub same : h.levels ≡ b.places
  pub for_bounds : b.shares.count * b.places ≤ h.bounds
  pub for_values : b.shares.count * b.places ≤ h.values

-- the level places and one list of rows fit the book
abbrev pub RowsFit : Book → ℕ → ℕ → Type 0
RowsFit b levels rows = (levels ≡ b.places) × (b.shares.count * b.places ≤ rows)

-- the first n level places hold the kept levels, and there are no more of them
pub record LevelsHold (p : Plain) (n : ℕ) (levels : List ℕ) : Type 0 where
  pub count : n ≡ length (kept p.ceiling (losses p))
  pub each : take n levels ≡ kept p.ceiling (losses p)

-- the first n places of each scenario's row hold the values at the kept levels
abbrev pub RowsHold : {V : Type 0} → Operations V → Plain → ℕ → List V → Type 0
RowsHold ops p n rows =
    (s : ℕ) → s < scenarios p → take n (row_of p.places s rows) ≡ map (value ops p (s + 1)) (kept p.ceiling (losses p))

-- n places lay the list out
pub record Lays {V : Type 0} (ops : Operations V) (p : Plain) (n : ℕ) (x : Places V) : Type 0 where
  pub levels : LevelsHold p n x.levels
  pub bounds : RowsHold Enclosing.bounds p n x.bounds
  pub values : RowsHold ops p n x.values

-- the places hold what the book says
abbrev pub Holds : {V : Type 0} → Operations V → Book → Places V → Type 0
Holds ops b x = Lays ops (listed b) b.kept x

-- the list that a frame is of
pub record Framed (p : Plain) (frame : Frame) : Type 0 where
  pub ceiling : p.ceiling ≡ frame.ceiling
  pub scenarios : scenarios p ≡ frame.scenarios
  pub places : p.places ≡ frame.places

-- one contract more: none where that would keep too many levels, else the count of those that the places lay then
abbrev pub Extends : {V : Type 0} → Operations V → Plain → Entry → Option ℕ → Places V → Type 0
Extends ops p e r x =
    MatchOption r (too_many_levels p e.loss ≡ true) (λ n. (too_many_levels p e.loss ≡ false) × Lays ops (with_entry p e) n x)

-- the call answers by all of its sentences, and where it is accepted H holds
pub record AnswersAsListed (sentences : Sentences) (r : Option ℕ) (H : Type 0) : Type 0 where
  pub answer : r ≡ first sentences
  pub again : r ≡ None → H
