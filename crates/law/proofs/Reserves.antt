-- A reserve encloses the quantile.
use Rattle.std.proofs.Common.{◌≡◌, ℕ, ◌+◌, ◌*◌, ◌<◌, ◌≤◌, Bool, true, leb, ◌≢◌, ◌∙◌, inl, inr, mul-le-mul_right, le_of_mul-le-mul_right, arith, Some}
use Rattle.std.proofs.lemmas.Bool.{cases_lt, le-leb, lt-leb, leb-true, leb-false}
use Rattle.reckoning.specs.Rounding.{Encloses}
use Rattle.book.specs.Least.{least, NotAbove}
use Rattle.book.specs.Pricing.{reaches}
use Rattle.law.specs.Truth.{Near}
use Rattle.book.proofs.Leasts.{least_is, least_at, least_unique, least_not_above}

-- over any bounds low and high of the figures e / all at each level
module _ (n all wide : ℕ) (low high e : ℕ → ℕ) (some : 1 ≤ all) (encloses : (k : ℕ) → Encloses (low k) (high k) (e k) all) (narrow : (k : ℕ) → high k ≤ low k + wide) (c : ℕ) where
  abbrev by_high : ℕ → Bool
  by_high k = reaches c (high k)

  abbrev by_low : ℕ → Bool
  by_low k = reaches c (low k)

  abbrev exactly : ℕ → Bool
  exactly k = leb (c * all) (e k * 1000000)

  -- a figure that reaches the confidence does so by its upper bound, and does if its lower bound does
  exactly_by_high : (k : ℕ) → exactly k ≡ true → by_high k ≡ true
  exactly_by_high k t =
      let within = encloses k in
      let h : c * all ≤ e k * 1000000 = leb-true _ _ t in
      let g : c * 1000000 * all ≤ high k * all = omega arith in
      le-leb (c * 1000000) (high k) (le_of_mul-le-mul_right g some)

  by_low_exactly : (k : ℕ) → by_low k ≡ true → exactly k ≡ true
  by_low_exactly k t =
      let within = encloses k in
      let h : c * 1000000 ≤ low k = leb-true _ _ t in
      le-leb (c * all) (e k * 1000000) (omega (arith, mul-le-mul_right all h))

  pub low_end_not_above : NotAbove (least by_high n) (least exactly n)
  low_end_not_above = least_not_above exactly by_high n (λ k _. exactly_by_high k)

  pub high_end_not_below : NotAbove (least exactly n) (least by_low n)
  high_end_not_below = least_not_above by_low exactly n (λ k _. by_low_exactly k)

  ordered : (k : ℕ) → low k ≤ high k
  ordered k = let within = encloses k in let g : low k * all ≤ high k * all = omega arith in le_of_mul-le-mul_right g some

  -- below a level that the upper bound reaches first, the lower bound does not reach either
  low_fails_below : (k j : ℕ) → least by_high n ≡ Some k → j < k → low j < c * 1000000
  low_fails_below k j at less =
      let f = least_at by_high n k at in
      let fails : high j < c * 1000000 = leb-false _ _ (f.2 j less) in
      omega (arith, ordered j)

  -- where the ends differ, the lower bound at the low end does not reach the confidence
  low_fails_at : (k : ℕ) → least by_high n ≢ least by_low n → least by_high n ≡ Some k → low k < c * 1000000
  low_fails_at k differ at =
      elim (cases_lt (low k) (c * 1000000)) [
        | inl fails ↦ fails
        | inr holds ↦ absurd
            (differ
            (at
            ∙ least_unique by_low n (Some k) (least by_low n)
            ((least_at by_high n k at).0, le-leb (c * 1000000) (low k) holds, λ j less. lt-leb (c * 1000000) (low j) (low_fails_below k j at less))
            (least_is by_low n)))
      ]

  pub low_end_near : (k : ℕ) → least by_high n ≢ least by_low n → least by_high n ≡ Some k → Near wide c (e k) all
  low_end_near k differ at =
      let f = least_at by_high n k at in
      let within = encloses k in
      let close = narrow k in
      let fails = low_fails_at k differ at in
      let holds : c * 1000000 ≤ high k = leb-true _ _ f.1 in
      let x : high k ≤ c * 1000000 + wide = omega arith in
      let y : c * 1000000 ≤ low k + wide = omega arith in
      record { above = omega (arith, mul-le-mul_right all x); below = omega (arith, mul-le-mul_right all y) }
