-- Pairs of grain counts, and sums of them rounded outward.
use Rattle.std.specs.Prelude.{ℕ, ◌+◌, ◌-◌, ◌*◌, ◌/◌, ◌≤◌, List}
use Rattle.reckoning.specs.declared.grains.Grains.{Grains}
use Rattle.reckoning.specs.Outcomes.{summed}

abbrev pub pair : ℕ → ℕ → Grains
pair a b = record { lower = a; upper = b }

-- the pairs g, each weighed by w, summed and divided by d: the lower count down, the upper up
abbrev pub rounded_out : {I : Type 0} → ℕ → (I → ℕ) → (I → Grains) → List I → Grains
rounded_out d w g is = pair (summed (λ i. w i * (g i).lower) is / d) ((summed (λ i. w i * (g i).upper) is + (d - 1)) / d)

-- the figure e / all lies between two counts of 10^-12, read over whole numbers
pub record Encloses (low high e all : ℕ) : Type 0 where
  pub above : low * all ≤ e * 1000000000000
  pub below : e * 1000000000000 ≤ high * all
