-- Outward rounding of a sum of any number of weighed pairs, by any divisor.
use Rattle.std.specs.Prelude.{◌≡◌, ℕ, ◌+◌, ◌-◌, ◌*◌, ◌/◌, ◌<◌, ◌≤◌, List}
use Rattle.std.proofs.Common.{ap, mul-le-mul_right, div-mul-le_self, div-lt_iff_lt-mul, le-div_iff_mul-le, arith}
use Rattle.std.proofs.Math.Nat.{lt-div-mul-add}
use Rattle.std.specs.List.{AllByRecursion}
use Rattle.std.proofs.ByRecursion.{All-weaker}
use Rattle.reckoning.specs.declared.grains.Grains.{Grains}
use Rattle.reckoning.specs.Outcomes.{summed}
use Rattle.reckoning.specs.Rounding.{rounded_out, Encloses}
use Rattle.reckoning.specs.Enclosing.{Ranged}
use Rattle.reckoning.specs.Sums.{weighed_le, weighed_apart, weighed_zero}

module _ (d : ℕ) (some : 0 < d) where
  down_most : (x : ℕ) → x / d * d ≤ x
  down_most x = div-mul-le_self x d

  up_least : (x : ℕ) → x ≤ (x + (d - 1)) / d * d
  up_least x = let over : x + (d - 1) < (x + (d - 1)) / d * d + d = lt-div-mul-add some in omega arith

  -- a quotient rounded up is at most k where the number is at most k divisors
  up_most : (x k : ℕ) → x ≤ k * d → (x + (d - 1)) / d ≤ k
  up_most x k h =
      let within : x + (d - 1) < (k + 1) * d = omega arith in
      let below : (x + (d - 1)) / d < k + 1 = (div-lt_iff_lt-mul some).1 within in
      omega arith

  up_down : (x y n : ℕ) → y ≤ x + n * d → (y + (d - 1)) / d ≤ x / d + (n + 1)
  up_down x y n h =
      let over : x < x / d * d + d = lt-div-mul-add some in
      let within : y ≤ (x / d + (n + 1)) * d = omega arith in
      up_most y (x / d + (n + 1)) within

  down_up : (x y : ℕ) → x ≤ y → x / d ≤ (y + (d - 1)) / d
  down_up x y h =
      let under : x / d * d ≤ y + (d - 1) = omega (arith, div-mul-le_self x d) in
      (le-div_iff_mul-le some).1 under

module _ {I : Type 0} (d : ℕ) (some : 0 < d) (w : I → ℕ) (g : I → Grains) (is : List I) where
  -- pairs that each enclose a figure, over one scale, give a pair that encloses the weighed sum of the figures
  pub rounded_encloses : (e : I → ℕ) (scale : ℕ) → AllByRecursion (λ i. Encloses (g i).lower (g i).upper (e i) scale) is →
      Encloses (rounded_out d w g is).lower (rounded_out d w g is).upper (summed (λ i. w i * e i) is) (d * scale)
  rounded_encloses e scale h =
      let low = summed (λ i. w i * (g i).lower) is in
      let high = summed (λ i. w i * (g i).upper) is in
      let lows : low * scale ≤ summed (λ i. w i * e i) is * 1000000000000 =
      weighed_le w (λ i. (g i).lower) e scale 1000000000000 is (All-weaker _ _ (λ i x. x.above) is h) in
      let highs : summed (λ i. w i * e i) is * 1000000000000 ≤ high * scale =
      weighed_le w e (λ i. (g i).upper) 1000000000000 scale is (All-weaker _ _ (λ i x. x.below) is h) in
      record {
        above = omega (arith, mul-le-mul_right scale (down_most d some low));
        below = omega (arith, mul-le-mul_right scale (up_least d some high));
      }

  -- at most one count more lies between the ends than between those of the widest pair
  pub rounded_narrow : (n : ℕ) → summed w is ≡ d → AllByRecursion (λ i. (g i).upper ≤ (g i).lower + n) is → (rounded_out d w g is).upper ≤ (rounded_out d w g is).lower + (n + 1)
  rounded_narrow n whole h =
      up_down d some _ _ n (omega (arith, weighed_apart w (λ i. (g i).lower) (λ i. (g i).upper) n is h, ap (λ k. n * k) whole))

  pub rounded_ranged : summed w is ≡ d → AllByRecursion (λ i. Ranged (g i)) is → Ranged (rounded_out d w g is)
  rounded_ranged whole h =
      let ordered : AllByRecursion (λ i. (g i).lower * 1 ≤ (g i).upper * 1) is = All-weaker _ _ (λ i x. omega arith) is h in
      let certain : AllByRecursion (λ i. (g i).upper ≤ 0 + 1000000000000) is = All-weaker _ _ (λ i x. omega arith) is h in (
        down_up d some _ _ (omega (arith, weighed_le w (λ i. (g i).lower) (λ i. (g i).upper) 1 1 is ordered)),
        up_most d some _ 1000000000000 (omega (arith, weighed_apart w (λ _. 0) (λ i. (g i).upper) 1000000000000 is certain, weighed_zero w is, ap (λ k. 1000000000000 * k) whole)),
      )
