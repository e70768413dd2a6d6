-- The lines that are told of a book, as bytes.
use Rattle.std.specs.Prelude.{ℕ, List, [], ◌∷◌, ◌++◌, codes, decimal}

-- a level with its lower and upper chance
abbrev pub level_text : ℕ → ℕ → ℕ → List ℕ
level_text level lower upper = decimal level ++ (32 ∷ (decimal lower ++ (32 ∷ (decimal upper ++ (10 ∷ [])))))

-- the number of a refusal, and the place in the file that it speaks of
abbrev pub refusal_text : ℕ → ℕ → List ℕ
refusal_text number place = codes "refused " ++ (decimal number ++ (codes " at " ++ (decimal place ++ (10 ∷ []))))
