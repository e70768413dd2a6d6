-- What entering a contract does over places that hold anything.
use Rattle.std.specs.Prelude.{◌≡◌, ℕ, ◌+◌, ◌-◌, ◌*◌, ◌<◌, true, false, cond, List, length, Some, None, Option, MatchOption, nat_lt, slice_index}
use Rattle.reckoning.specs.Enclosing as Enclosing
use Rattle.reckoning.specs.Operations.{Operations}
use Rattle.book.specs.declared.book.Book.{Book}
use Rattle.book.specs.Places.{Places}
use Rattle.book.specs.Merging.{row_of}
use Rattle.book.specs.Told.{found_below}
use Rattle.book.specs.Turned.{turns, levels_turned, row_turned}

-- how many of the levels stay under the ceiling when they move up by w
abbrev pub moved_over : List ℕ → ℕ → ℕ → ℕ → ℕ
moved_over levels len ceiling w = found_below levels len (ceiling + 1 - w)

-- how many levels a contract of loss w leaves
abbrev pub count_over : List ℕ → ℕ → ℕ → ℕ → ℕ
count_over levels len ceiling w = turns (2 * len) levels len (moved_over levels len ceiling w) w

-- each scenario's row of p places once the contract is laid over it
abbrev pub RowsOver : {V : Type 0} → Operations V → List ℕ → ℕ → ℕ → ℕ → ℕ → List ℕ → List V → List V → Type 0
RowsOver ops levels len ceiling p w rates old new =
    (s : ℕ) → s < length rates →
    row_of p s new ≡ row_turned ops levels w (slice_index rates s) (count_over levels len ceiling w) (row_of p s old) len (moved_over levels len ceiling w)

-- the places once a contract of loss w and these rates is laid over them
pub record LaidOver {V : Type 0} (ops : Operations V) (len ceiling p w : ℕ) (rates : List ℕ) (old new : Places V) : Type 0 where
  pub levels : new.levels ≡ levels_turned (count_over old.levels len ceiling w) old.levels len (moved_over old.levels len ceiling w) w
  pub bounds : RowsOver Enclosing.bounds old.levels len ceiling p w rates old.bounds new.bounds
  pub values : RowsOver ops old.levels len ceiling p w rates old.values new.values

-- the count of the levels, none where they would be more than p
abbrev pub ExtendsOver : {V : Type 0} → Operations V → ℕ → ℕ → ℕ → ℕ → List ℕ → Option ℕ → Places V → Places V → Type 0
ExtendsOver ops len ceiling p w rates r old new =
    MatchOption r (nat_lt p (count_over old.levels len ceiling w) ≡ true)
    (λ n. (nat_lt p (count_over old.levels len ceiling w) ≡ false) × (n ≡ count_over old.levels len ceiling w) × LaidOver ops len ceiling p w rates old new)

-- an enter that no early sentence declines gets 13 exactly by this count, and is laid over what was there
pub record EntersOver {V : Type 0} (ops : Operations V) (b after : Book) (w : ℕ) (rates : List ℕ) (early r : Option ℕ) (old new : Places V) : Type 0 where
  pub thirteen : early ≡ None → r ≡ cond (nat_lt b.places (count_over old.levels b.kept b.ceiling w)) (Some 13) None
  pub kept : r ≡ None → after.kept ≡ count_over old.levels b.kept b.ceiling w
  pub laid : r ≡ None → LaidOver ops b.kept b.ceiling b.places w rates old new
