-- The two round trips: a file read and written back, a book written and read back.
use Rattle.std.specs.Prelude.{◌≡◌, ℕ, ◌*◌, ◌≤◌, true, List, length, take, drop, is_ok, Ok, Result}
use Rattle.reckoning.specs.Operations.{Operations}
use Rattle.book.specs.declared.book.Book.{Book}
use Rattle.book.specs.declared.shown.Handed.{Handed}
use Rattle.book.specs.Laid.{State}
use Rattle.book.specs.Levels.{kept}
use Rattle.book.specs.Listed.{listed}
use Rattle.book.specs.Plain.{Plain, scenarios, losses}
use Rattle.tariff.specs.declared.reading.FileRead.{FileRead}
use Rattle.tariff.specs.declared.refusal.FileFault.{FileFault}
use Rattle.rendering.specs.declared.text.TooFew.{TooFew}
use Rattle.tariff.specs.Files.{file_text}
use Rattle.tariff.specs.Filed.{ReadsFile}
use Rattle.rendering.specs.Told.{Tells}

-- the file stands in front, its length is told, and the bytes behind it are as they were
pub record WrittenBack (file before after : List ℕ) (r : Result ℕ TooFew) : Type 0 where
  pub told : r ≡ Ok (length file)
  pub same : take (length file) after ≡ file
  pub behind : drop (length file) after ≡ drop (length file) before

-- a file read whole and written back is the same bytes
abbrev pub FilesComeBack : {V : Type 0} → Operations V → Type 0
FilesComeBack {V} ops =
    (h : Handed) (file : List ℕ) (x y : State V) (whole : FileRead) (before after : List ℕ) (r : Result ℕ TooFew) →
    ReadsFile ops h file x y (Ok whole) → Tells (file_text (listed y.book)) before after r → length file ≤ length before → WrittenBack file before after r

-- places enough for a list: a level place for each of its kept levels, and as many value places a scenario
pub record Enough (h : Handed) (p : Plain) : Type 0 where
  pub levels : length (kept p.ceiling (losses p)) ≤ h.levels
  pub most : h.levels ≤ 65536
  pub bounds : h.levels * scenarios p ≤ h.bounds
  pub values : h.levels * scenarios p ≤ h.values

-- the same list over other places
abbrev pub over_places : ℕ → Plain → Plain
over_places n p = record { ceiling = p.ceiling; shares = p.shares; places = n; contracts = p.contracts }

-- the read is accepted, and the book is the list again
pub record ReadBack {V : Type 0} (h : Handed) (p : Plain) (y : State V) (r : Result FileRead FileFault) : Type 0 where
  pub accepted : is_ok r ≡ true
  pub same : listed y.book ≡ over_places h.levels p

-- a book written, and read back over any places that are enough
abbrev pub BooksComeBack : {V : Type 0} → Operations V → Type 0
BooksComeBack {V} ops =
    (h : Handed) (b : Book) (before after : List ℕ) (k : ℕ) (x y : State V) (r : Result FileRead FileFault) →
    Enough h (listed b) → Tells (file_text (listed b)) before after (Ok k) → ReadsFile ops h (take k after) x y r → ReadBack h (listed b) y r
