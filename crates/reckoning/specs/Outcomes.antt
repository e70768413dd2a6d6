-- Outcomes over the contracts of a book in order of entry: their losses, their weights, and families of them.
use Rattle.std.specs.Prelude.{ℕ, zero, suc, ◌+◌, ◌-◌, ◌*◌, Bool, true, false, not, ◌&&◌, leb, List, [], ◌∷◌, ◌++◌, filter, nat_le, nat_lt}

-- says of each contract whether it claims
abbrev pub Outcome : Type 0
Outcome = List Bool

-- a list of outcomes over the same contracts
abbrev pub Family : Type 0
Family = List Outcome

-- what a contract of this loss brings to an outcome's loss
abbrev pub lost : ℕ → Bool → ℕ
lost w true = w
lost w false = 0

-- the sum of the losses that claim
abbrev pub loss : List ℕ → Outcome → ℕ
loss [] bs = 0
loss (w ∷ ws) [] = 0
loss (w ∷ ws) (b ∷ bs) = lost w b + loss ws bs

-- what a contract of this rate, in millionths, brings to an outcome's weight
abbrev pub odds : ℕ → Bool → ℕ
odds r true = r
odds r false = 1000000 - r

-- the product over the contracts; an outcome of more or fewer contracts than there are weighs nothing
abbrev pub weight : List ℕ → Outcome → ℕ
weight [] [] = 1
weight [] (b ∷ bs) = 0
weight (r ∷ rs) [] = 0
weight (r ∷ rs) (b ∷ bs) = odds r b * weight rs bs

-- each outcome with one contract more, which claims or not
abbrev pub extended : Bool → Family → Family
extended b [] = []
extended b (o ∷ os) = (o ++ (b ∷ [])) ∷ extended b os

-- the outcomes of us where the new contract does not claim, then those of vs where it does
abbrev pub either : Family → Family → Family
either us vs = extended false us ++ extended true vs

-- every outcome of n contracts, each once
abbrev pub outcomes : ℕ → Family
outcomes zero = [] ∷ []
outcomes (suc n) = either (outcomes n) (outcomes n)

-- those of loss at most k
abbrev pub within : ℕ → List ℕ → Family → Family
within k ws os = filter (λ o. leb (loss ws o) k) os

-- the sum of f over a list
abbrev pub summed : {X : Type 0} → (X → ℕ) → List X → ℕ
summed f [] = 0
summed f (x ∷ xs) = f x + summed f xs

-- the weights of a family's outcomes, summed
abbrev pub total : List ℕ → Family → ℕ
total rates family = summed (weight rates) family

-- outside of the range from low to high
abbrev pub outside : ℕ → ℕ → ℕ → Bool
outside low high n = not (nat_le low n && nat_le n high)

-- no loss that a contract can have
abbrev pub loss_wrong : ℕ → Bool
loss_wrong w = outside 1 65535 w

-- more than a million millionths
abbrev pub rate_wrong : ℕ → Bool
rate_wrong r = nat_lt 1000000 r
