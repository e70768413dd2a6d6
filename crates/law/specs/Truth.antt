-- A plain list is true to its outcomes: what the figures told of it have to do with the exact ones.
use Rattle.std.specs.Prelude.{◌≡◌, ℕ, ◌+◌, ◌-◌, ◌*◌, ◌<◌, ◌≤◌, ◌≢◌, List, Some}
use Rattle.reckoning.specs.Outcomes.{Family, summed}
use Rattle.reckoning.specs.Operations.{Operations}
use Rattle.reckoning.specs.Rounding.{Encloses}
use Rattle.reckoning.specs.Enclosing.{bounds, Stands}
use Rattle.book.specs.Plain.{Plain, size, scenarios, rates}
use Rattle.book.specs.Values.{value}
use Rattle.book.specs.Figures.{chance}
use Rattle.book.specs.Pricing.{mix_lower, mix_upper, reserve_low, reserve_high, levels_of, layer_low, layer_high}
use Rattle.law.specs.Exact.{family, exact, exact_mix, all, all_mix, quantile, premium_mix}
use Rattle.book.specs.Least.{NotAbove}
use Rattle.law.specs.WellFormed.{WellFormed}
use Rattle.book.specs.declared.book.Book.{Book}
use Rattle.book.specs.Listed.{listed}

-- a scenario, from 1, and a level of the book
pub record Inside (p : Plain) (s k : ℕ) : Type 0 where
  pub from_one : 1 ≤ s
  pub to_last : s ≤ scenarios p
  pub under : k ≤ p.ceiling

-- a confidence in millionths, above zero
pub record Confidence (c : ℕ) : Type 0 where
  pub from_one : 1 ≤ c
  pub to_certain : c ≤ 1000000

-- a layer of the book
pub record Layer (p : Plain) (d t : ℕ) : Type 0 where
  pub some : d < t
  pub under : t ≤ p.ceiling + 1

-- e / all is at most n grains above c millionths, and at most n below
pub record Near (n c e all : ℕ) : Type 0 where
  pub above : e * 1000000000000 ≤ (c * 1000000 + n) * all
  pub below : c * 1000000 * all ≤ e * 1000000000000 + n * all

-- what holds of a list; `stands` is the meaning of the reckoning that the book keeps beside the bounds
pub record TrueToOutcomes {V : Type 0} (ops : Operations V) (stands : V → List ℕ → Family → Type 0) (p : Plain) : Type 0 where
  -- a value told stands for exactly the outcomes of no greater loss
  pub value_stands : (s k : ℕ) → Inside p s k → stands (value ops p s k) (rates p s) (family p k)
  -- and so do the bounds
  pub bounds_stand : (s k : ℕ) → Inside p s k → Stands (value bounds p s k) (rates p s) (family p k)
  -- the bounds of a chance enclose the exact one
  pub chance_enclosed : (s k : ℕ) → Inside p s k → Encloses (chance p s k).lower (chance p s k).upper (exact p s k) (all p)
  -- and differ by at most a grain for each contract
  pub chance_narrow : (s k : ℕ) → Inside p s k → (chance p s k).upper ≤ (chance p s k).lower + size p
  -- the bounds of the mix enclose its exact chance
  pub mix_enclosed : (k : ℕ) → k ≤ p.ceiling → Encloses (mix_lower p k) (mix_upper p k) (exact_mix p k) (all_mix p)
  -- and differ by at most one grain more
  pub mix_narrow : (k : ℕ) → k ≤ p.ceiling → mix_upper p k ≤ mix_lower p k + (size p + 1)
  -- the low end of a reserve is not above the exact quantile
  pub reserve_not_above : (c : ℕ) → Confidence c → NotAbove (reserve_low p c) (quantile p c)
  -- and the high end is not below it
  pub reserve_not_below : (c : ℕ) → Confidence c → NotAbove (quantile p c) (reserve_high p c)
  -- where the ends differ, the exact chance at the low end is near the confidence
  pub reserve_near : (c k : ℕ) → Confidence c → reserve_low p c ≢ reserve_high p c → reserve_low p c ≡ Some k → Near (size p + 1) c (exact_mix p k) (all_mix p)
  -- the bounds of a layer enclose its exact premium
  pub layer_enclosed : (d t : ℕ) → Layer p d t → Encloses (layer_low p d t) (layer_high p d t) (premium_mix p d t) (all_mix p)
  -- which is what the mix weighs above each of its levels
  pub premium_levels : (d t : ℕ) → Layer p d t → premium_mix p d t ≡ summed (λ k. all_mix p - exact_mix p k) (levels_of d t)
  -- they differ, on each of its levels, by what the bounds of the mix may
  pub layer_narrow : (d t : ℕ) → Layer p d t → layer_high p d t ≤ layer_low p d t + (t - d) * (size p + 1)

-- every well formed list is true to its outcomes
abbrev pub FiguresStand : {V : Type 0} → Operations V → (V → List ℕ → Family → Type 0) → Type 0
FiguresStand ops stands = (p : Plain) → WellFormed p → TrueToOutcomes ops stands p

-- and so is the list of every book, whatever calls were made on it and however it was filled
abbrev pub BooksTellTruth : {V : Type 0} → Operations V → (V → List ℕ → Family → Type 0) → Type 0
BooksTellTruth ops stands = (b : Book) → TrueToOutcomes ops stands (listed b)
