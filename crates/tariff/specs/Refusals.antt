-- A file's refusal by its number, its byte place, and what the book declined inside it.
use Rattle.std.specs.Prelude.{ℕ, List, ◌++◌, Some, None, Option, codes, decimal}
use Rattle.book.specs.declared.refusal.Refusal.{Refusal}
use Rattle.book.specs.Refusals.{number_of}
use Rattle.tariff.specs.declared.refusal.LineFault.{LineFault}
use Rattle.tariff.specs.declared.refusal.BookFault.{BookFault}
use Rattle.tariff.specs.declared.refusal.LineFault.TheVariants.{Share, Contract}
use Rattle.tariff.specs.declared.refusal.FileFault.{FileFault}
use Rattle.tariff.specs.declared.refusal.FileFault.TheVariants.{Length, Trailer, Line, Shares, Count, Book}

pub record Telling : Type 0 where
  pub number : ℕ
  pub place : ℕ
  pub inner : Option Refusal

abbrev pub at : ℕ → ℕ → Telling
at n p = record { number = n; place = p; inner = None }

abbrev pub line_telling : LineFault → Telling
line_telling (Share p w) = at 2 p
line_telling (Contract p w) = at 3 p

abbrev pub book_telling : BookFault → Telling
book_telling f = record { number = number_of f.refusal; place = f.place; inner = Some f.refusal }

abbrev pub telling : FileFault → Telling
telling Length = at 1 0
telling (Trailer p) = at 1 p
telling (Line f) = line_telling f
telling (Shares p) = at 2 p
telling (Count p) = at 4 p
telling (Book f) = book_telling f

-- a file's refusal in words: its number and its byte place
abbrev pub refused_text : FileFault → List ℕ
refused_text e = codes "refused " ++ (decimal (telling e).number ++ (codes " at " ++ decimal (telling e).place))
