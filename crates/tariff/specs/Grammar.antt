-- Lines of one letter, one after the other.
use Rattle.std.specs.Prelude.{◌≡◌, ℕ, ◌^◌, ◌<◌, List, [], ◌∷◌, ◌++◌, length, drop}
use Rattle.std.specs.List.{AllByRecursion}
use Rattle.lines.specs.Texts.{line_text}

-- so many numbers, each of 32 bits
pub record Numbers (count : ℕ) (ns : List ℕ) : Type 0 where
  pub many : length ns ≡ count
  pub small : AllByRecursion (λ n. n < 2 ^ 32) ns

-- the text of lines with these numbers
abbrev pub lines_text : ℕ → List (List ℕ) → List ℕ
lines_text letter [] = []
lines_text letter (ns ∷ nss) = line_text letter ns ++ lines_text letter nss

-- the bytes are lines of this letter, with so many numbers each
pub record Lines (bytes : List ℕ) (letter count : ℕ) (nss : List (List ℕ)) : Type 0 where
  pub each : AllByRecursion (Numbers count) nss
  pub text : bytes ≡ lines_text letter nss

-- from a place on, the bytes are such lines
abbrev pub LinesFrom : List ℕ → ℕ → ℕ → ℕ → Type 0
LinesFrom bytes place letter count = (nss : List (List ℕ)) × Lines (drop place bytes) letter count nss
