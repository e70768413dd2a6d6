-- What the parts of the file reader answer.
use Rattle.std.specs.Prelude.{◌≡◌, ℕ, ◌+◌, ◌-◌, ◌≤◌, List, [], ◌∷◌, ◌++◌, length, take, drop, Some, None, Ok, Err, Result}
use Rattle.reckoning.specs.Operations.{Operations}
use Rattle.book.specs.declared.shown.Handed.{Handed}
use Rattle.book.specs.Declines.{open_sentences}
use Rattle.book.specs.Laid.{State, Holds, Outside}
use Rattle.book.specs.Listed.{listed}
use Rattle.book.specs.Plain.{Entry, scenarios, opened, with_entry, with_entries}
use Rattle.book.specs.Refusals.{number_of, first}
use Rattle.tariff.specs.declared.refusal.LineFault.{LineFault}
use Rattle.tariff.specs.declared.refusal.LineFault.TheVariants.{Share, Contract}
use Rattle.tariff.specs.declared.refusal.BookFault.{BookFault}
use Rattle.tariff.specs.declared.refusal.FileFault.{FileFault}
use Rattle.tariff.specs.declared.refusal.FileFault.TheVariants.{Length, Trailer, Line, Shares, Count, Book}
use Rattle.tariff.specs.declared.reading.FileRead.{FileRead}
use Rattle.lines.specs.declared.trailer.Trailer as trailers
use Rattle.tariff.specs.Filed.{declines_entry, EnteredAll}
use Rattle.tariff.specs.Files.{numbers_of, contracts_text}
use Rattle.tariff.specs.Forms.{NoShare, TrailerOrContract, ContractsTo, NoContract, Form}
use Rattle.tariff.specs.Grammar.{Numbers, LinesFrom}
use Rattle.lines.specs.Reads.{LineAt, FaultInLine, ReadsLine}
use Rattle.tariff.specs.Refusals.{telling}
use Rattle.lines.specs.Texts.{line_text}

-- the S line at a place: its share and the place behind it, or there is no such line
abbrev pub ReadsShare : List ℕ → ℕ → Result (ℕ × ℕ) LineFault → Type 0
ReadsShare body place (Ok r) = ReadsLine body place 83 (r.0 ∷ []) (Ok r.1)
ReadsShare body place (Err (Share p w)) = (p ≡ place) × ((n : ℕ) → LineAt body place 83 (n ∷ []) → ⊥) × FaultInLine body place 83 1 w
ReadsShare body place (Err (Contract p w)) = ⊥

-- the same where one is due: a line beginning with C and the trailer are told at the trailer, where the body ends
abbrev pub ReadsDue : List ℕ → ℕ → Result (ℕ × ℕ) FileFault → Type 0
ReadsDue body place (Ok r) = ReadsLine body place 83 (r.0 ∷ []) (Ok r.1)
ReadsDue body place (Err Length) = ⊥
ReadsDue body place (Err (Trailer p)) = ⊥
ReadsDue body place (Err (Line (Share p w))) = (p ≡ place) × NoShare body place w
ReadsDue body place (Err (Line (Contract p w))) = ⊥
ReadsDue body place (Err (Shares p)) = (p ≡ length body) × TrailerOrContract body place
ReadsDue body place (Err (Count p)) = ⊥
ReadsDue body place (Err (Book f)) = ⊥

-- the C line at a place of the contract part, which begins at the byte base of the file, or what is wrong with a line that is none
abbrev pub ReadsContractLine : List ℕ → ℕ → ℕ → List ℕ → Result ℕ LineFault → Type 0
ReadsContractLine part base place ns (Ok next) = ReadsLine part place 67 ns (Ok next)
ReadsContractLine part base place ns (Err (Share p w)) = ⊥
ReadsContractLine part base place ns (Err (Contract p w)) =
    (p ≡ base + place) × ((ms : List ℕ) → length ms ≡ length ns → LineAt part place 67 ms → ⊥) × FaultInLine part place 67 (length ns) w

-- up to a place the contract part is so many C lines
abbrev pub ContractsCounted : List ℕ → ℕ → ℕ → ℕ → Type 0
ContractsCounted part n place many = (entries : List Entry) × ContractsTo part n place entries × (length entries ≡ many)

-- how many C lines the contract part is, or the first line that is none
abbrev pub Counts : List ℕ → ℕ → ℕ → Result ℕ LineFault → Type 0
Counts part base n (Ok many) = ContractsCounted part n (length part) many
Counts part base n (Err (Share p w)) = ⊥
Counts part base n (Err (Contract p w)) =
    (entries : List Entry) × ((place : ℕ) × ContractsTo part n place entries × NoContract part n place w × (p ≡ base + place))

-- a file of the right length whose contract part, from the trailer's place to the trailer, is C lines
pub record Formed (file : List ℕ) (t : trailers.Trailer) : Type 0 where
  pub least : 18 ≤ length file
  pub most : length file ≤ 21346
  pub few : t.scenarios ≤ 9
  pub inside : t.place ≤ length file - 18
  pub contracts : LinesFrom (take (length file - 18 - t.place) (drop t.place file)) 0 67 (2 + t.scenarios)

-- the form is right, with the shares that stand in the first places
abbrev pub FormedWith : List ℕ → List ℕ → trailers.Trailer → Type 0
FormedWith file shares t = (entries : List Entry) × Form file t (take t.scenarios shares) entries

-- a contract is entered
pub record EnteredOne {V : Type 0} (ops : Operations V) (h : Handed) (e : Entry) (x y : State V) : Type 0 where
  pub accepted : declines_entry h (listed x.book) e ≡ None
  pub list : listed y.book ≡ with_entry (listed x.book) e
  pub holds : Holds ops y.book y.places
  pub outside : Outside (scenarios (listed x.book)) h.levels y.book.kept x.places y.places

-- a contract is declined, which is told at a place
pub record DeclinedOne {V : Type 0} (h : Handed) (e : Entry) (place : ℕ) (x y : State V) (fault : BookFault) : Type 0 where
  pub declined : declines_entry h (listed x.book) e ≡ Some (number_of fault.refusal)
  pub told : fault.place ≡ place
  pub unchanged : y ≡ x

-- the C line of a contract stands at a place, and C lines follow it from the next place on
pub record LineOf (part : List ℕ) (n place next : ℕ) (e : Entry) : Type 0 where
  pub numbers : Numbers n (numbers_of e)
  pub line : LineAt part place 67 (numbers_of e)
  pub end : next ≡ place + length (line_text 67 (numbers_of e))
  pub inside : next ≤ length part
  pub rest : LinesFrom part next 67 n

-- what the entering of the line at a place answers and leaves
abbrev pub EntersLine : {V : Type 0} → Operations V → Handed → List ℕ → ℕ → ℕ → ℕ → State V → State V → Result ℕ FileFault → Type 0
EntersLine ops h part base n place x y (Ok next) = (e : Entry) × LineOf part n place next e × EnteredOne ops h e x y
EntersLine ops h part base n place x y (Err Length) = ⊥
EntersLine ops h part base n place x y (Err (Trailer p)) = ⊥
EntersLine ops h part base n place x y (Err (Line f)) = ⊥
EntersLine ops h part base n place x y (Err (Shares p)) = ⊥
EntersLine ops h part base n place x y (Err (Count p)) = ⊥
EntersLine ops h part base n place x y (Err (Book f)) = (e : Entry) × ((next : ℕ) × LineOf part n place next e × DeclinedOne h e (base + place) x y f)

-- the contracts of the whole part are entered
pub record PartEntered {V : Type 0} (ops : Operations V) (h : Handed) (part : List ℕ) (n : ℕ) (x y : State V) : Type 0 where
  pub entries : List Entry
  pub lines : ContractsTo part n (length part) entries
  pub entered : EnteredAll ops h (listed x.book) entries x y

-- the contracts in front are entered, and the next one is declined
pub record PartDeclined {V : Type 0} (ops : Operations V) (h : Handed) (part : List ℕ) (base n : ℕ) (x y : State V) (fault : BookFault) : Type 0 where
  pub front : List Entry
  pub next : Entry
  pub rest : List Entry
  pub lines : ContractsTo part n (length part) (front ++ (next ∷ rest))
  pub entered : EnteredAll ops h (listed x.book) front x y
  pub declined : declines_entry h (with_entries (listed x.book) front) next ≡ Some (number_of fault.refusal)
  pub told : fault.place ≡ base + length (contracts_text front)

-- what the entering of the contract part answers and leaves
abbrev pub EntersPart : {V : Type 0} → Operations V → Handed → List ℕ → ℕ → ℕ → State V → State V → Result FileRead FileFault → Type 0
EntersPart ops h part base n x y (Ok _) = PartEntered ops h part n x y
EntersPart ops h part base n x y (Err Length) = ⊥
EntersPart ops h part base n x y (Err (Trailer p)) = ⊥
EntersPart ops h part base n x y (Err (Line f)) = ⊥
EntersPart ops h part base n x y (Err (Shares p)) = ⊥
EntersPart ops h part base n x y (Err (Count p)) = ⊥
EntersPart ops h part base n x y (Err (Book f)) = PartDeclined ops h part base n x y f

-- the book is opened
pub record OpenedFor {V : Type 0} (ops : Operations V) (h : Handed) (ceiling : ℕ) (shares : List ℕ) (x y : State V) : Type 0 where
  pub accepted : first (open_sentences h ceiling shares) ≡ None
  pub list : listed y.book ≡ opened h.levels ceiling shares
  pub holds : Holds ops y.book y.places
  pub outside : Outside (length shares) h.levels 1 x.places y.places

-- the book does not open, which is told at a place
pub record NotOpened {V : Type 0} (h : Handed) (ceiling : ℕ) (shares : List ℕ) (place : ℕ) (x y : State V) (fault : BookFault) : Type 0 where
  pub declined : first (open_sentences h ceiling shares) ≡ Some (number_of fault.refusal)
  pub told : fault.place ≡ place
  pub unchanged : y ≡ x

-- the refusals that a read can get
pub record MayCome (most : ℕ) (e : FileFault) : Type 0 where
  pub from_1 : 1 ≤ (telling e).number
  pub to_13 : (telling e).number ≤ 13
  pub not_10 : (telling e).number ≡ 10 → ⊥
  pub place : (telling e).place ≤ most
