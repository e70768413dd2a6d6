-- What reserve and layer tell, both from the chances of the mix.
use Rattle.std.specs.Prelude.{ℕ, ◌-◌, ◌*◌, Bool, List, nat_le, Option}
use Rattle.std.specs.List.{range_with_len}
use Rattle.reckoning.specs.Outcomes.{summed}
use Rattle.book.specs.Plain.{Plain}
use Rattle.book.specs.Figures.{chance}
use Rattle.book.specs.Least.{least}

-- the bounds of the mix at level k, each count alone
abbrev pub mix_lower : Plain → ℕ → ℕ
mix_lower p k = (chance p 0 k).lower

abbrev pub mix_upper : Plain → ℕ → ℕ
mix_upper p k = (chance p 0 k).upper

-- a count of grains that is at least c millionths
abbrev pub reaches : ℕ → ℕ → Bool
reaches c grains = nat_le (c * 1000000) grains

-- the ends of a reserve: the least level whose upper chance reaches the confidence, and whose lower chance does
abbrev pub reserve_low : Plain → ℕ → Option ℕ
reserve_low p c = least (λ k. reaches c (mix_upper p k)) p.ceiling

abbrev pub reserve_high : Plain → ℕ → Option ℕ
reserve_high p c = least (λ k. reaches c (mix_lower p k)) p.ceiling

-- the levels of a layer, from d to t - 1
abbrev pub levels_of : ℕ → ℕ → List ℕ
levels_of d t = range_with_len d (t - d)

-- what the upper, and the lower, chance leaves of certainty, summed over the layer's levels
abbrev pub layer_low : Plain → ℕ → ℕ → ℕ
layer_low p d t = summed (λ k. 1000000000000 - mix_upper p k) (levels_of d t)

abbrev pub layer_high : Plain → ℕ → ℕ → ℕ
layer_high p d t = summed (λ k. 1000000000000 - mix_lower p k) (levels_of d t)
