-- The texts of a tariff file, as bytes.
use Rattle.std.specs.Prelude.{ℕ, zero, suc, ◌+◌, ◌/◌, ◌%◌, List, [], ◌∷◌, ◌++◌, codes, decimal}

-- each number in decimal digits, with a space before it
abbrev pub numbers_text : List ℕ → List ℕ
numbers_text [] = []
numbers_text (n ∷ ns) = 32 ∷ (decimal n ++ numbers_text ns)

-- a line: its letter, its numbers, the line end
abbrev pub line_text : ℕ → List ℕ → List ℕ
line_text letter ns = letter ∷ (numbers_text ns ++ (10 ∷ []))

-- the last k decimal digits of a number, with leading zeros
abbrev pub padded : ℕ → ℕ → List ℕ
padded zero n = []
padded (suc k) n = padded k (n / 10) ++ ((48 + n % 10) ∷ [])

-- the last line of a file: ceiling, scenarios, contracts, and the place of the first contract
abbrev pub trailer_text : ℕ → ℕ → ℕ → ℕ → List ℕ
trailer_text ceiling scenarios contracts place =
    codes "T " ++ (padded 5 ceiling ++ (32 ∷ (padded 1 scenarios ++ (32 ∷ (padded 3 contracts ++ (32 ∷ (padded 3 place ++ (10 ∷ []))))))))
