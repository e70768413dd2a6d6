-- The form of a file: when it is right, and what is wrong with it otherwise.
use Rattle.std.specs.Prelude.{◌≡◌, ℕ, ◌+◌, ◌-◌, ◌^◌, ◌<◌, ◌≤◌, ◌≢◌, ◌⊎◌, List, [], ◌∷◌, length, take, drop, slice_index, slice_index_or}
use Rattle.std.specs.List.{AllByRecursion}
use Rattle.book.specs.Plain.{Entry, Plain, size, scenarios, opened, with_entries}
use Rattle.lines.specs.declared.fault.Malformed.{Malformed}
use Rattle.tariff.specs.declared.refusal.LineFault.TheVariants.{Share, Contract}
use Rattle.tariff.specs.declared.refusal.FileFault.{FileFault}
use Rattle.tariff.specs.declared.refusal.FileFault.TheVariants.{Length, Trailer, Line, Shares, Count, Book}
use Rattle.lines.specs.declared.trailer.Trailer as trailers
use Rattle.tariff.specs.Files.{numbers_of, shares_text, contracts_text, file_text}
use Rattle.tariff.specs.Grammar.{Numbers}
use Rattle.lines.specs.Reads.{LineAt, FaultInLine}
use Rattle.tariff.specs.Refusals.{telling}
use Rattle.lines.specs.Trailers.{TrailerOf}

-- the trailer is the last 18 bytes; before it comes the body
abbrev pub trailer_at : List ℕ → ℕ
trailer_at file = length file - 18

abbrev pub body : List ℕ → List ℕ
body file = take (trailer_at file) file

-- from 18 to 21,346 bytes
pub record LengthRight (file : List ℕ) : Type 0 where
  pub least : 18 ≤ length file
  pub most : length file ≤ 21346

-- a file of a right length that ends in this trailer
pub record EndsIn (file : List ℕ) (t : trailers.Trailer) : Type 0 where
  pub long : LengthRight file
  pub trailer : TrailerOf (drop (trailer_at file) file) t.ceiling t.scenarios t.contracts t.place

-- up to a place the body is S lines of these shares
pub record SharesTo (body : List ℕ) (place : ℕ) (shares : List ℕ) : Type 0 where
  pub inside : place ≤ length body
  pub small : AllByRecursion (λ w. w < 2 ^ 32) shares
  pub text : take place body ≡ shares_text shares

-- the S lines are n, and end at a place
pub record SharesRight (body : List ℕ) (n place : ℕ) (shares : List ℕ) : Type 0 where
  pub lines : SharesTo body place shares
  pub count : length shares ≡ n

-- an S line is due at a place, behind fewer than n of them
pub record ShareDue (body : List ℕ) (n place : ℕ) (shares : List ℕ) : Type 0 where
  pub before : SharesTo body place shares
  pub fewer : length shares < n

-- a line that does not begin with C stands at a place, and is no S line
pub record NoShare (body : List ℕ) (place : ℕ) (wrong : Malformed) : Type 0 where
  pub some : place < length body
  pub first : slice_index_or body place 0 ≢ 67
  pub none : (w : ℕ) → LineAt body place 83 (w ∷ []) → ⊥
  pub fault : FaultInLine body place 83 1 wrong

-- the trailer or a line beginning with C stands at a place
abbrev pub TrailerOrContract : List ℕ → ℕ → Type 0
TrailerOrContract body place = (length body ≤ place) ⊎ ((place < length body) × (slice_index body place ≡ 67))

-- the S lines are n, but end elsewhere than they should
pub record SharesElsewhere (body : List ℕ) (n end place : ℕ) (shares : List ℕ) : Type 0 where
  pub lines : SharesRight body n place shares
  pub elsewhere : place ≢ end

-- what is wrong with the S lines, which should be n and end at a place: a line is told at its first byte, the rest at the trailer, where the body ends
abbrev pub SharesWrong : List ℕ → ℕ → ℕ → FileFault → Type 0
SharesWrong body n end Length = ⊥
SharesWrong body n end (Trailer p) = ⊥
SharesWrong body n end (Line (Share p w)) = (shares : List ℕ) × ShareDue body n p shares × NoShare body p w
SharesWrong body n end (Line (Contract p w)) = ⊥
SharesWrong body n end (Shares p) =
    (p ≡ length body)
    × ((shares : List ℕ) × ((place : ℕ) × ((ShareDue body n place shares × TrailerOrContract body place) ⊎ SharesElsewhere body n end place shares)))
SharesWrong body n end (Count p) = ⊥
SharesWrong body n end (Book f) = ⊥

-- the contract part runs from the trailer's place to the trailer
abbrev pub part : List ℕ → trailers.Trailer → List ℕ
part file t = take (trailer_at file - t.place) (drop t.place file)

-- up to a place the contract part is C lines of these contracts, with n numbers each
pub record ContractsTo (part : List ℕ) (n place : ℕ) (entries : List Entry) : Type 0 where
  pub inside : place ≤ length part
  pub each : AllByRecursion (λ e. Numbers n (numbers_of e)) entries
  pub text : take place part ≡ contracts_text entries

-- what stands at a place of the contract part is no C line of n numbers
pub record NoContract (part : List ℕ) (n place : ℕ) (wrong : Malformed) : Type 0 where
  pub some : place < length part
  pub none : (ns : List ℕ) → length ns ≡ n → LineAt part place 67 ns → ⊥
  pub fault : FaultInLine part place 67 n wrong

-- trailer and S lines are right: as many of them as the trailer has scenarios, and they end where it says
pub record Begins (file : List ℕ) (t : trailers.Trailer) (shares : List ℕ) : Type 0 where
  pub ends : EndsIn file t
  pub lines : SharesRight (body file) t.scenarios t.place shares

-- so is the contract part up to a place: C lines of these contracts, with key, loss and one rate a scenario
pub record GoesOn (file : List ℕ) (t : trailers.Trailer) (shares : List ℕ) (place : ℕ) (entries : List Entry) : Type 0 where
  pub before : Begins file t shares
  pub contracts : ContractsTo (part file t) (2 + t.scenarios) place entries

-- the form of the file is right: these shares, these contracts, and as many of them as the trailer says
pub record Form (file : List ℕ) (t : trailers.Trailer) (shares : List ℕ) (entries : List Entry) : Type 0 where
  pub whole : GoesOn file t shares (length (part file t)) entries
  pub count : length entries ≡ t.contracts

-- under its trailer the S lines are wrong
pub record SharesFault (file : List ℕ) (e : FileFault) : Type 0 where
  pub trailer : trailers.Trailer
  pub ends : EndsIn file trailer
  pub wrong : SharesWrong (body file) trailer.scenarios trailer.place e

-- behind C lines of these contracts stands what is no C line, told at its first byte
pub record ContractFault (file : List ℕ) (p : ℕ) (w : Malformed) : Type 0 where
  pub trailer : trailers.Trailer
  pub shares : List ℕ
  pub place : ℕ
  pub entries : List Entry
  pub before : GoesOn file trailer shares place entries
  pub wrong : NoContract (part file trailer) (2 + trailer.scenarios) place w
  pub told : p ≡ trailer.place + place

-- the contract part is C lines of these contracts, but not as many as the trailer says, told at the trailer
pub record CountFault (file : List ℕ) (p : ℕ) : Type 0 where
  pub trailer : trailers.Trailer
  pub shares : List ℕ
  pub entries : List Entry
  pub whole : GoesOn file trailer shares (length (part file trailer)) entries
  pub other : length entries ≢ trailer.contracts
  pub told : p ≡ trailer_at file

-- what is wrong with the form, the first thing that is
abbrev pub FormWrong : List ℕ → FileFault → Type 0
FormWrong file Length = (length file < 18) ⊎ (21346 < length file)
FormWrong file (Trailer p) =
    LengthRight file × (p ≡ trailer_at file) × ((c n m q : ℕ) → TrailerOf (drop (trailer_at file) file) c n m q → ⊥)
FormWrong file (Line (Share p w)) = SharesFault file (Line (Share p w))
FormWrong file (Shares p) = SharesFault file (Shares p)
FormWrong file (Line (Contract p w)) = ContractFault file p w
FormWrong file (Count p) = CountFault file p
FormWrong file (Book f) = ⊥

-- no file is both right and wrong in form
abbrev pub RightOrWrong : Type 0
RightOrWrong =
    (file : List ℕ) (t : trailers.Trailer) (shares : List ℕ) (entries : List Entry) (e : FileFault) →
    Form file t shares entries → FormWrong file e → ⊥

-- what is wrong with a form is told by one number at one byte
abbrev pub ToldOnce : Type 0
ToldOnce = (file : List ℕ) (e f : FileFault) → FormWrong file e → FormWrong file f → telling e ≡ telling f

-- the numbers of a list fit the fields of a file, and its one file is not too long
pub record FieldsFit (p : Plain) : Type 0 where
  pub low : p.ceiling < 100000
  pub few_scenarios : scenarios p < 10
  pub few_contracts : size p < 1000
  pub near : length (shares_text p.shares) < 1000
  pub small : AllByRecursion (λ w. w < 2 ^ 32) p.shares
  pub each : AllByRecursion (λ e. Numbers (2 + scenarios p) (numbers_of e)) p.contracts
  pub long : length (file_text p) ≤ 21346

-- the trailer of a list's one file
abbrev pub trailer_of : Plain → trailers.Trailer
trailer_of p = record { ceiling = p.ceiling; scenarios = scenarios p; contracts = size p; place = length (shares_text p.shares) }

-- the one file of a list whose numbers fit has the right form
abbrev pub FilesRight : Type 0
FilesRight = (p : Plain) → FieldsFit p → Form (file_text p) (trailer_of p) p.shares p.contracts

-- and a file of the right form is the one file of such a list
abbrev pub RightAreFiles : Type 0
RightAreFiles =
    (file : List ℕ) (t : trailers.Trailer) (shares : List ℕ) (entries : List Entry) (places : ℕ) → Form file t shares entries →
    FieldsFit (with_entries (opened places t.ceiling shares) entries) × (file_text (with_entries (opened places t.ceiling shares) entries) ≡ file)
