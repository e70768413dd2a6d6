-- The statement of a file: a table of levels, one line for each kept level of the book that it gives, or one refusal.
use Rattle.std.specs.Prelude.{◌≡◌, ℕ, Bool, true, false, List, [], ◌∷◌, ◌++◌, map, Ok, Err, Option, Result}
use Rattle.reckoning.specs.Counting.{counts}
use Rattle.book.specs.Places.{handed}
use Rattle.book.specs.Figures.{chance}
use Rattle.book.specs.Laid.{State}
use Rattle.book.specs.Levels.{kept}
use Rattle.book.specs.Listed.{listed}
use Rattle.book.specs.Plain.{Plain, losses, unopened}
use Rattle.tariff.specs.declared.reading.FileRead.{FileRead}
use Rattle.tariff.specs.declared.refusal.FileFault.{FileFault}
use Rattle.tariff.specs.Filed.{ReadsFile}
use Rattle.tariff.specs.Refusals.{telling}
use Rattle.rendering.specs.Printed.{level_text, refusal_text}

-- a level with its lower and upper chance
pub record Row : Type 0 where
  pub level : ℕ
  pub lower : ℕ
  pub upper : ℕ

abbrev pub table_text : List Row → List ℕ
table_text [] = []
table_text (r ∷ rs) = level_text r.level r.lower r.upper ++ table_text rs

abbrev pub Table : List ℕ → Type 0
Table text = (rows : List Row) × (text ≡ table_text rows)

abbrev pub Refused : List ℕ → Type 0
Refused text = (number : ℕ) × (place : ℕ) × (text ≡ refusal_text number place)

-- the row of a level, with its lower and upper chance in the mix
abbrev pub row_at : Plain → ℕ → Row
row_at p k = record { level = k; lower = (chance p 0 k).lower; upper = (chance p 0 k).upper }

-- the lines of levels
abbrev pub levels_text : Plain → List ℕ → List ℕ
levels_text p ks = table_text (map (row_at p) ks)

-- the table of a list: a line for each kept level, in rising order
abbrev pub table_of : Plain → List ℕ
table_of p = levels_text p (kept p.ceiling (losses p))

-- what a statement says of a read: the table of the list that it leaves, or its refusal
abbrev pub Says : Plain → Result FileRead FileFault → Bool → List ℕ → Type 0
Says p (Ok _) accepted text = (accepted ≡ true) × (text ≡ table_of p)
Says p (Err e) accepted text = (accepted ≡ false) × (text ≡ refusal_text (telling e).number (telling e).place)

-- the statement of a file, which is read into a book before open, over 256 level places
pub record Stated (file : List ℕ) (accepted : Bool) (text : List ℕ) : Type 0 where
  pub before : State (Option ℕ)
  pub after : State (Option ℕ)
  pub answer : Result FileRead FileFault
  pub empty : listed before.book ≡ unopened
  pub reads : ReadsFile counts (handed 256 2048 2048) file before after answer
  pub says : Says (listed after.book) answer accepted text
