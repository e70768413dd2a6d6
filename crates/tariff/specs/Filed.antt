-- What a read answers, and what book and places hold after it.
use Rattle.std.specs.Prelude.{◌≡◌, ℕ, ◌+◌, ◌<◌, ◌⊎◌, List, ◌∷◌, ◌++◌, length, take, Some, None, Ok, Err, Option, Result, slice_index_or}
use Rattle.reckoning.specs.Operations.{Operations}
use Rattle.book.specs.declared.shown.Handed.{Handed}
use Rattle.book.specs.Declines.{open_sentences, enter_sentences}
use Rattle.book.specs.Laid.{State, Holds, Outside}
use Rattle.book.specs.Listed.{listed}
use Rattle.book.specs.Plain.{Entry, Plain, scenarios, opened, with_entries}
use Rattle.book.specs.Refusals.{number_of, first}
use Rattle.tariff.specs.declared.reading.FileRead.{FileRead}
use Rattle.tariff.specs.declared.refusal.BookFault.{BookFault}
use Rattle.tariff.specs.declared.refusal.FileFault.{FileFault}
use Rattle.tariff.specs.declared.refusal.FileFault.TheVariants.{Length, Trailer, Line, Shares, Count, Book}
use Rattle.lines.specs.declared.trailer.Trailer as trailers
use Rattle.tariff.specs.Files.{contracts_text, file_text}
use Rattle.tariff.specs.Forms.{trailer_at, Form, FormWrong}
use Rattle.tariff.specs.Refusals.{telling}

-- the number by which a contract is declined when it is entered, none where it is accepted
abbrev pub declines_entry : Handed → Plain → Entry → Option ℕ
declines_entry h p e = first (enter_sentences h p e.key e.loss e.rates)

-- the contracts are accepted in turn, each behind those before it
abbrev pub AllEnter : Handed → Plain → List Entry → Type 0
AllEnter h p entries = (i : ℕ) (d : Entry) → i < length entries → declines_entry h (with_entries p (take i entries)) (slice_index_or entries i d) ≡ None

-- a file of the right form, and a book that opens for it; p is the opened list
pub record Opens (h : Handed) (file : List ℕ) (t : trailers.Trailer) (shares : List ℕ) (entries : List Entry) (p : Plain) : Type 0 where
  pub form : Form file t shares entries
  pub accepted : first (open_sentences h t.ceiling shares) ≡ None
  pub list : p ≡ opened h.levels t.ceiling shares

-- after the opening x these contracts are entered, and book and places hold them: y; every place outside the kept levels is as it was
pub record EnteredAll {V : Type 0} (ops : Operations V) (h : Handed) (p : Plain) (entries : List Entry) (x y : State V) : Type 0 where
  pub enter : AllEnter h p entries
  pub list : listed y.book ≡ with_entries p entries
  pub holds : Holds ops y.book y.places
  pub outside : Outside (scenarios p) h.levels y.book.kept x.places y.places

-- the file is read whole: it is the one file of the book
pub record ReadWhole {V : Type 0} (ops : Operations V) (h : Handed) (file : List ℕ) (x y : State V) : Type 0 where
  pub trailer : trailers.Trailer
  pub shares : List ℕ
  pub entries : List Entry
  pub list : Plain
  pub opens : Opens h file trailer shares entries list
  pub entered : EnteredAll ops h list entries x y
  pub same : file_text (listed y.book) ≡ file

-- the form is right, but the book does not open: told at the trailer, and nothing is changed
pub record OpeningDeclined {V : Type 0} (h : Handed) (file : List ℕ) (x y : State V) (fault : BookFault) : Type 0 where
  pub trailer : trailers.Trailer
  pub shares : List ℕ
  pub entries : List Entry
  pub form : Form file trailer shares entries
  pub declined : first (open_sentences h trailer.ceiling shares) ≡ Some (number_of fault.refusal)
  pub place : fault.place ≡ trailer_at file
  pub unchanged : y ≡ x

-- the book opens, the contracts in front are entered, and the next one is declined: told at the first byte of its line
pub record LineDeclined {V : Type 0} (ops : Operations V) (h : Handed) (file : List ℕ) (x y : State V) (fault : BookFault) : Type 0 where
  pub trailer : trailers.Trailer
  pub shares : List ℕ
  pub front : List Entry
  pub next : Entry
  pub rest : List Entry
  pub list : Plain
  pub opens : Opens h file trailer shares (front ++ (next ∷ rest)) list
  pub entered : EnteredAll ops h list front x y
  pub declined : declines_entry h (with_entries list front) next ≡ Some (number_of fault.refusal)
  pub place : fault.place ≡ trailer.place + length (contracts_text front)

-- a form that is wrong changes nothing
pub record FormDeclined {V : Type 0} (file : List ℕ) (x y : State V) (e : FileFault) : Type 0 where
  pub wrong : FormWrong file e
  pub unchanged : y ≡ x

-- read into the state x, with so many places handed over, a file leaves y
abbrev pub ReadsFile : {V : Type 0} → Operations V → Handed → List ℕ → State V → State V → Result FileRead FileFault → Type 0
ReadsFile ops h file x y (Ok _) = ReadWhole ops h file x y
ReadsFile ops h file x y (Err Length) = FormDeclined file x y Length
ReadsFile ops h file x y (Err (Trailer p)) = FormDeclined file x y (Trailer p)
ReadsFile ops h file x y (Err (Line f)) = FormDeclined file x y (Line f)
ReadsFile ops h file x y (Err (Shares p)) = FormDeclined file x y (Shares p)
ReadsFile ops h file x y (Err (Count p)) = FormDeclined file x y (Count p)
ReadsFile ops h file x y (Err (Book f)) = OpeningDeclined h file x y f ⊎ LineDeclined ops h file x y f

-- two answers accept or decline alike, by one number at one byte
abbrev pub SameAnswer : Result FileRead FileFault → Result FileRead FileFault → Type 0
SameAnswer (Ok _) (Ok _) = Unit {0}
SameAnswer (Ok _) (Err f) = ⊥
SameAnswer (Err e) (Ok _) = ⊥
SameAnswer (Err e) (Err f) = ((telling e).number ≡ (telling f).number) × ((telling e).place ≡ (telling f).place)

-- two reads of one file into one state answer alike and leave the same list
abbrev pub OneAnswer : {V : Type 0} → Operations V → Type 0
OneAnswer {V} ops =
    (h : Handed) (file : List ℕ) (x y z : State V) (r s : Result FileRead FileFault) →
    ReadsFile ops h file x y r → ReadsFile ops h file x z s → SameAnswer r s × (listed y.book ≡ listed z.book)

-- the file is read whole
abbrev pub Accepted : Result FileRead FileFault → Type 0
Accepted (Ok _) = Unit {0}
Accepted (Err e) = ⊥

-- a file of the right form whose book opens and whose contracts are all accepted is read whole, and gives just these contracts
abbrev pub GoodIsRead : {V : Type 0} → Operations V → Type 0
GoodIsRead {V} ops =
    (h : Handed) (file : List ℕ) (t : trailers.Trailer) (shares : List ℕ) (entries : List Entry) (p : Plain) (x y : State V) (r : Result FileRead FileFault) →
    Opens h file t shares entries p → AllEnter h p entries → ReadsFile ops h file x y r → Accepted r × (listed y.book ≡ with_entries p entries)
