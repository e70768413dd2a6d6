-- The trailer of a file, and what its reader answers.
use Rattle.std.specs.Prelude.{◌≡◌, ℕ, ◌^◌, ◌<◌, List, ◌∷◌, Some, None, Option}
use Rattle.lines.specs.declared.trailer.Trailer.{Trailer}
use Rattle.lines.specs.Places.{Stands}
use Rattle.lines.specs.Texts.{padded, trailer_text}

-- the bytes are a trailer of these numbers, each with its count of digits
pub record TrailerOf (bytes : List ℕ) (ceiling scenarios contracts place : ℕ) : Type 0 where
  pub ceiling_fits : ceiling < 100000
  pub scenarios_fit : scenarios < 10
  pub contracts_fit : contracts < 1000
  pub place_fits : place < 1000
  pub text : bytes ≡ trailer_text ceiling scenarios contracts place

-- the trailer that the bytes are, or they are none
abbrev pub ReadsTrailer : List ℕ → Option Trailer → Type 0
ReadsTrailer bytes (Some t) = TrailerOf bytes t.ceiling t.scenarios t.contracts t.place
ReadsTrailer bytes None = (ceiling scenarios contracts place : ℕ) → TrailerOf bytes ceiling scenarios contracts place → ⊥

-- the number that so many digits behind a space at a place write, leading zeros and all
abbrev pub ReadsSpacedDigits : List ℕ → ℕ → ℕ → Option ℕ → Type 0
ReadsSpacedDigits bytes place count (Some n) = (n < 10 ^ count) × Stands bytes place (32 ∷ padded count n)
ReadsSpacedDigits bytes place count None = (n : ℕ) → n < 10 ^ count → Stands bytes place (32 ∷ padded count n) → ⊥
