-- Bounds: a pair of grain counts that encloses the chance of a family.
use Rattle.std.specs.Prelude.{ℕ, ◌+◌, ◌*◌, ◌^◌, ◌≤◌, Bool, true, false, cond, List, [], ◌∷◌, length, nat_le}
use Rattle.reckoning.specs.declared.grains.Grains.{Grains}
use Rattle.reckoning.specs.Outcomes.{Family, odds, summed, total}
use Rattle.reckoning.specs.Operations.{Operations}
use Rattle.reckoning.specs.Rounding.{pair, rounded_out, Encloses}

abbrev pub Ranged : Grains → Type 0
Ranged g = (g.lower ≤ g.upper) × (g.upper ≤ 1000000000000)

-- a place's pair as it is read: out of range it says nothing, from impossible to certain
abbrev pub checked : Grains → Grains
checked g = cond (nat_le g.lower g.upper) (cond (nat_le g.upper 1000000000000) g (pair 0 1000000000000)) (pair 0 1000000000000)

-- whether the new contract claims
abbrev pub both : List Bool
both = false ∷ true ∷ []

-- u without the claim and v with it, each by the odds of that, in millionths
abbrev pub ways : ℕ → ℕ → ℕ → ℕ
ways r u v = summed (λ b. odds r b * cond b v u) both

abbrev pub blended : ℕ → Grains → Grains → Grains
blended r u v = rounded_out 1000000 (odds r) (λ b. cond b (checked v) (checked u)) both

abbrev pub bounds : Operations Grains
bounds = record { nothing = pair 0 0; whole = pair 1000000000000 1000000000000; blended = blended }

-- the family's weight, as a part of all weight, is enclosed, with at most a grain for each contract between the counts
pub record Stands (g : Grains) (rates : List ℕ) (family : Family) : Type 0 where
  pub ranged : Ranged g
  pub encloses : Encloses g.lower g.upper (total rates family) (1000000 ^ length rates)
  pub narrow : g.upper ≤ g.lower + length rates
