-- Every list that is well formed is true to its outcomes.
use Rattle.std.proofs.Common.{ℕ, ◌+◌, ◌^◌, ◌≤◌, List, arith}
use native.Mathlib.Nat.{one-le-pow}
use Rattle.reckoning.specs.Outcomes.{Family}
use Rattle.reckoning.specs.Operations.{Operations}
use Rattle.book.specs.Plain.{Plain, size}
use Rattle.book.specs.Pricing.{mix_lower, mix_upper}
use Rattle.law.specs.Exact.{exact_mix, all_mix}
use Rattle.law.specs.Truth.{FiguresStand}
use Rattle.law.proofs.Standings.{Meaning, value_stands}
use Rattle.law.proofs.Chances.{bounds_stand, chance_encloses, chance_narrow, mix_encloses, mix_narrow}
use Rattle.law.proofs.Reserves.{low_end_not_above, high_end_not_below, low_end_near}
use Rattle.law.proofs.Premiums.{premium_levels, layer_encloses, layer_narrow}

all_mix_some : (p : Plain) → 1 ≤ all_mix p
all_mix_some p = let h : 1 ≤ 1000000 ^ size p = one-le-pow (size p) 1000000 (omega arith) in omega arith

pub figures_stand_lem : {V : Type 0} (ops : Operations V) (stands : V → List ℕ → Family → Type 0) → Meaning ops stands → FiguresStand ops stands
figures_stand_lem ops stands law p formed =
    let n = p.ceiling in
    let wide = size p + 1 in
    let some = all_mix_some p in
    let encloses = mix_encloses p formed in
    let narrow = mix_narrow p formed in
    record {
      value_stands = λ s k _. value_stands p formed s ops stands law k;
      bounds_stand = λ s k _. bounds_stand p formed s k;
      chance_enclosed = λ s k inside. chance_encloses p formed s k inside.from_one;
      chance_narrow = λ s k inside. chance_narrow p formed s k inside.from_one;
      mix_enclosed = λ k _. encloses k;
      mix_narrow = λ k _. narrow k;
      reserve_not_above = λ c _. low_end_not_above n (all_mix p) wide (mix_lower p) (mix_upper p) (exact_mix p) some encloses narrow c;
      reserve_not_below = λ c _. high_end_not_below n (all_mix p) wide (mix_lower p) (mix_upper p) (exact_mix p) some encloses narrow c;
      reserve_near = λ c k _. low_end_near n (all_mix p) wide (mix_lower p) (mix_upper p) (exact_mix p) some encloses narrow c k;
      layer_enclosed = λ d t layer. let l = layer.some in layer_encloses p formed d t (omega arith);
      premium_levels = λ d t layer. let l = layer.some in premium_levels p formed d t (omega arith);
      layer_narrow = λ d t _. layer_narrow p formed d t;
    }
