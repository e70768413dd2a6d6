-- What the readers of a number and of a line answer.
use Rattle.std.specs.Prelude.{◌≡◌, ℕ, ◌+◌, ◌-◌, ◌^◌, ◌<◌, ◌≤◌, cond, ◌⊎◌, List, [], ◌∷◌, ◌++◌, length, take, drop, Some, None, Option, Ok, Err, decimal, Result, ◌==◌, ◌≢◌, slice_index}
use Rattle.std.specs.Str.Parse.{AllDigits, digits_value}
use Rattle.std.specs.List.{AllByRecursion}
use Rattle.lines.specs.declared.fault.NumberFault.{NumberFault}
use Rattle.lines.specs.declared.fault.NumberFault.TheVariants.{Empty, LeadingZero, NoDigit, TooLarge}
use Rattle.lines.specs.declared.fault.Malformed.{Malformed}
use Rattle.lines.specs.declared.fault.Malformed.TheVariants.{Letter, NoSpace, Number, NoEnd}
use Rattle.lines.specs.declared.fault.LineKind.{LineKind}
use Rattle.lines.specs.declared.fault.LineKind.TheVariants.{Share, Contract, Trailer, Other}
use Rattle.lines.specs.Places.{Stands}
use Rattle.lines.specs.Texts.{line_text, numbers_text}

-- a field is the decimal digits of a number of 32 bits, with no leading zero
abbrev pub ReadsNumber : List ℕ → Result ℕ NumberFault → Type 0
ReadsNumber field (Ok n) = (n < 2 ^ 32) × (field ≡ decimal n)
ReadsNumber field (Err e) = (n : ℕ) → n < 2 ^ 32 → field ≢ decimal n

-- what is wrong with a field that is no number
abbrev pub FaultOf : List ℕ → NumberFault → Type 0
FaultOf field Empty = length field ≡ 0
FaultOf field LeadingZero = (slice_index field 0 ≡ 48) × (1 < length field)
FaultOf field NoDigit = (k : ℕ) × (k < length field) × ((slice_index field k < 48) ⊎ (57 < slice_index field k))
FaultOf field TooLarge = (10 < length field) ⊎ (2 ^ 32 ≤ digits_value 10 field)

-- the value of digits, leading zeros and all, or a byte that is no digit
abbrev pub ReadsValue : List ℕ → Option ℕ → Type 0
ReadsValue field (Some n) = AllDigits 10 field × (n ≡ digits_value 10 field)
ReadsValue field None = FaultOf field NoDigit

-- a field ends before a space or a line end
abbrev pub EndsField : ℕ → Type 0
EndsField b = (b ≡ 32) ⊎ (b ≡ 10)

-- the first byte that ends a field at or after a place, or the end of the bytes
pub record FieldEnd (bytes : List ℕ) (from end : ℕ) : Type 0 where
  pub within : end ≤ length bytes
  pub after : end < length bytes → from ≤ end
  pub inside : (k : ℕ) → from ≤ k → k < end → EndsField (slice_index bytes k) → ⊥
  pub stops : end < length bytes → EndsField (slice_index bytes end)

-- what a line is, by its first byte: S, C or T
abbrev pub kind_of : ℕ → LineKind
kind_of b = cond (b == 83) Share (cond (b == 67) Contract (cond (b == 84) Trailer Other))

-- a space, a number of 32 bits and a byte that ends it stand at a place
pub record EndedNumber (bytes : List ℕ) (place n : ℕ) : Type 0 where
  pub small : n < 2 ^ 32
  pub mark : ℕ
  pub ends : EndsField mark
  pub stands : Stands bytes place (32 ∷ (decimal n ++ (mark ∷ [])))

-- the number behind a space and the place behind it, and no other ended number stands there
abbrev pub ReadsSpaced : List ℕ → ℕ → Result (ℕ × ℕ) Malformed → Type 0
ReadsSpaced bytes place (Ok p) =
    (p.0 < 2 ^ 32) × Stands bytes place (32 ∷ decimal p.0) × (p.1 ≡ place + length (32 ∷ decimal p.0)) × (p.1 ≤ length bytes)
    × ((m : ℕ) → EndedNumber bytes place m → m ≡ p.0)
ReadsSpaced bytes place (Err e) = (m : ℕ) → EndedNumber bytes place m → ⊥

-- what is wrong where a number behind a space is due: no space, or the field behind it is no number
abbrev pub SpacedFault : List ℕ → ℕ → Malformed → Type 0
SpacedFault bytes place Letter = ⊥
SpacedFault bytes place NoSpace = Stands bytes place (32 ∷ []) → ⊥
SpacedFault bytes place (Number e) = Stands bytes place (32 ∷ []) × ((end : ℕ) × FieldEnd bytes (place + 1) end × FaultOf (take (end - (place + 1)) (drop (place + 1) bytes)) e)
SpacedFault bytes place NoEnd = ⊥

-- a line's letter and so many numbers stand at a place, and behind them comes the next place
pub record FrontAt (bytes : List ℕ) (place letter count next : ℕ) : Type 0 where
  pub numbers : List ℕ
  pub counted : length numbers ≡ count
  pub stands : Stands bytes place (letter ∷ numbers_text numbers)
  pub behind : next ≡ place + length (letter ∷ numbers_text numbers)

-- what is wrong with a line of so many numbers: its letter, a number behind fewer of them, its end
abbrev pub FaultInLine : List ℕ → ℕ → ℕ → ℕ → Malformed → Type 0
FaultInLine bytes place letter count Letter = Stands bytes place (letter ∷ []) → ⊥
FaultInLine bytes place letter count NoSpace = (i : ℕ) × (i < count) × ((at : ℕ) × FrontAt bytes place letter i at × SpacedFault bytes at NoSpace)
FaultInLine bytes place letter count (Number e) = (i : ℕ) × (i < count) × ((at : ℕ) × FrontAt bytes place letter i at × SpacedFault bytes at (Number e))
FaultInLine bytes place letter count NoEnd = (at : ℕ) × FrontAt bytes place letter count at × (Stands bytes at (10 ∷ []) → ⊥)

-- a line with these numbers, each of 32 bits, stands at a place
pub record LineAt (bytes : List ℕ) (place letter : ℕ) (ns : List ℕ) : Type 0 where
  pub small : AllByRecursion (λ n. n < 2 ^ 32) ns
  pub stands : Stands bytes place (line_text letter ns)

-- the line of these numbers and the place behind it, or no line with as many numbers
abbrev pub ReadsLine : List ℕ → ℕ → ℕ → List ℕ → Result ℕ Malformed → Type 0
ReadsLine bytes place letter ns (Ok next) =
    LineAt bytes place letter ns × (next ≡ place + length (line_text letter ns)) × (next ≤ length bytes)
ReadsLine bytes place letter ns (Err e) = (ms : List ℕ) → length ms ≡ length ns → LineAt bytes place letter ms → ⊥
