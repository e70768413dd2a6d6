-- The list of all outcomes: each outcome stands in it once.
use Rattle.std.specs.Prelude.{◌≡◌, ℕ, Bool, true, false, cond, not, ◌&&◌, [], ◌∷◌, length}
use Rattle.std.specs.List.{AllByRecursion}
use Rattle.reckoning.specs.Outcomes.{Outcome, Family, outcomes, summed}

-- whether two outcomes say the same of each contract
abbrev pub same_claim : Bool → Bool → Bool
same_claim true b = b
same_claim false b = not b

abbrev pub same_outcome : Outcome → Outcome → Bool
same_outcome [] [] = true
same_outcome [] (c ∷ cs) = false
same_outcome (b ∷ bs) [] = false
same_outcome (b ∷ bs) (c ∷ cs) = same_claim b c && same_outcome bs cs

-- how often an outcome stands in a family
abbrev pub times : Outcome → Family → ℕ
times o os = summed (λ p. cond (same_outcome o p) 1 0) os

-- every outcome of n contracts is in the list once, and no other is
pub record EachOnce : Type 0 where
  pub once : (n : ℕ) (o : Outcome) → length o ≡ n → times o (outcomes n) ≡ 1
  pub only : (n : ℕ) → AllByRecursion (λ o. length o ≡ n) (outcomes n)
