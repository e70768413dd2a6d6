-- Answers in words.
use Rattle.std.specs.Prelude.{ℕ, List, ◌∷◌, ◌++◌, Some, None, codes, decimal, Option, Ok, Err, Result}
use Rattle.book.specs.declared.refusal.Refusal.{Refusal}
use Rattle.book.specs.Refusals.{number_of}
use Rattle.law.specs.declared.call.Answer.{Answer}
use Rattle.law.specs.declared.call.Answer.TheVariants.{Done, Bounds, Value, Chance, Reserve, Layer}

-- a level, or beyond
abbrev pub level_said : Option ℕ → List ℕ
level_said (Some k) = decimal k
level_said None = codes "beyond"

-- a count of claims, or none
abbrev pub count_said : Option ℕ → List ℕ
count_said (Some n) = decimal n
count_said None = codes "none"

-- a refusal by its number
abbrev pub refusal_said : ℕ → List ℕ
refusal_said n = codes "refused " ++ decimal n

-- two texts with a space between them
abbrev pub both_said : List ℕ → List ℕ → List ℕ
both_said a b = a ++ (32 ∷ b)

-- a refusal, or an answer
abbrev pub said : Result (Answer (Option ℕ)) Refusal → List ℕ
said (Ok Done) = codes "ok"
said (Ok (Bounds g)) = both_said (decimal g.lower) (decimal g.upper)
said (Ok (Value v)) = count_said v
said (Ok (Chance a b)) = both_said (decimal a) (decimal b)
said (Ok (Reserve a b)) = both_said (level_said a) (level_said b)
said (Ok (Layer a b)) = both_said (decimal a) (decimal b)
said (Err e) = refusal_said (number_of e)

-- a wrong line by its number, and what is wrong with it where that has words
abbrev pub fault_said : ℕ → Option (List ℕ) → Option (List ℕ)
fault_said line (Some what) = Some (codes "line " ++ (decimal line ++ (codes ": " ++ what)))
fault_said line None = None
