-- Exact figures, over whole numbers: each is a sum of weights, to be read over all weight.
use Rattle.std.specs.Prelude.{ℕ, ◌-◌, ◌*◌, ◌^◌, min, nat_le, Option}
use Rattle.reckoning.specs.Outcomes.{Family, loss, weight, outcomes, within, summed, total}
use Rattle.book.specs.Plain.{Plain, size, losses, rates}
use Rattle.book.specs.Figures.{numbered}
use Rattle.book.specs.Least.{least}

-- the outcomes of loss at most k
abbrev pub family : Plain → ℕ → Family
family p k = within k (losses p) (outcomes (size p))

-- what all outcomes of a scenario weigh together
abbrev pub all : Plain → ℕ
all p = 1000000 ^ size p

-- the chance at level k in scenario s, over all weight
abbrev pub exact : Plain → ℕ → ℕ → ℕ
exact p s k = total (rates p s) (family p k)

-- share times figure, summed over the scenarios
abbrev pub over_mix : Plain → (ℕ → ℕ) → ℕ
over_mix p f = summed (λ x. x.0 * f x.1) (numbered 1 p.shares)

-- what all outcomes of the mix weigh together: its shares come to a million
abbrev pub all_mix : Plain → ℕ
all_mix p = 1000000 * all p

-- the chance at level k in the mix, over all weight of the mix
abbrev pub exact_mix : Plain → ℕ → ℕ
exact_mix p k = over_mix p (λ s. exact p s k)

-- the least level whose chance in the mix is at least c millionths
abbrev pub quantile : Plain → ℕ → Option ℕ
quantile p c = least (λ k. nat_le (c * all_mix p) (exact_mix p k * 1000000)) p.ceiling

-- what a layer from d to t takes of a loss
abbrev pub taken : ℕ → ℕ → ℕ → ℕ
taken d t x = min x t - min x d

-- what the layer takes of each outcome's loss, by weight in scenario s
abbrev pub premium : Plain → ℕ → ℕ → ℕ → ℕ
premium p s d t = summed (λ o. weight (rates p s) o * taken d t (loss (losses p) o)) (outcomes (size p))

-- and by share in the mix
abbrev pub premium_mix : Plain → ℕ → ℕ → ℕ
premium_mix p d t = over_mix p (λ s. premium p s d t)
