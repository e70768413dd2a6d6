-- A layer's premium is what weighs above each of its levels, so its bounds enclose it.
use Rattle.std.proofs.Common.{◌≡◌, ℕ, zero, suc, ◌+◌, ◌-◌, ◌*◌, ◌^◌, ◌≤◌, cond, leb, List, [], ◌∷◌, ◌++◌, length, get_or, sym, refl, ap, ◌∙◌, subst, inl, inr, append_assoc, append-nil, mul-le-mul_right, pow-suc, add-one, arith}
use Rattle.std.specs.List.{range_with_len, AllByRecursion}
use Rattle.std.proofs.lemmas.List.FromFn.{length-range_with_len}
use Rattle.std.proofs.lemmas.List.{length_push, length-map}
use Rattle.std.proofs.lemmas.Bool.{cases_lt, cond-true, cond-false, le-leb, lt-leb}
use Rattle.reckoning.specs.Outcomes.{loss, weight, outcomes, summed, total}
use Rattle.reckoning.specs.Rounding.{Encloses}
use Rattle.reckoning.specs.Weights.{total_either}
use Rattle.book.specs.Plain.{Plain, size, losses, rates}
use Rattle.book.specs.Figures.{numbered}
use Rattle.book.specs.Pricing.{mix_lower, mix_upper, levels_of, layer_low, layer_high}
use Rattle.law.specs.Exact.{all, exact, over_mix, all_mix, exact_mix, taken, premium, premium_mix}
use Rattle.law.specs.WellFormed.{WellFormed}
use Rattle.book.proofs.Mixtures.{shares_numbered}
use Rattle.law.proofs.Standings.{rates_small}
use Rattle.law.proofs.Sums.{summed_same, summed_kept, weighed_split, summed_encloses, summed_narrow, exchanged}
use Rattle.law.proofs.Chances.{mix_encloses, mix_narrow}

-- ---- all outcomes weigh a million to the number of contracts
abbrev AllWeigh : List ℕ → Type 0
AllWeigh rs = total rs (outcomes (length rs)) ≡ 1000000 ^ length rs

all_weigh_push : (rs : List ℕ) (r : ℕ) → r ≤ 1000000 → AllWeigh rs → AllWeigh (rs ++ (r ∷ []))
all_weigh_push rs r small h =
    let os = outcomes (length rs) in
    let parts : 1000000 - r + r ≡ 1000000 = omega arith in
    rw (length_push, add-one, pow-suc) (omega (arith, total_either rs os os r, ap (λ (v : ℕ). total rs os * v) parts))

all_weigh_from : (front rs : List ℕ) → AllByRecursion (λ r. r ≤ 1000000) rs → AllWeigh front → AllWeigh (front ++ rs)
all_weigh_from front [] small h = rw append-nil h
all_weigh_from front (r ∷ rs) small h =
    subst AllWeigh (append_assoc front (r ∷ []) rs) (all_weigh_from (front ++ (r ∷ [])) rs small.1 (all_weigh_push front r small.0 h))

all_weigh : (rs : List ℕ) → AllByRecursion (λ r. r ≤ 1000000) rs → AllWeigh rs
all_weigh rs small = all_weigh_from [] rs small refl

-- ---- what a layer takes of a loss: one for each of its levels that the loss exceeds
abbrev exceeds : ℕ → ℕ → ℕ
exceeds x k = cond (leb x k) 0 1

taken_levels : (x d n : ℕ) → summed (exceeds x) (range_with_len d n) ≡ taken d (d + n) x
taken_levels x d zero = omega arith
taken_levels x d (suc n) =
    let rest = taken_levels x (d + 1) n in
    elim (cases_lt d x) [
      | inl over ↦ let e = cond-false {A = ℕ} (leb x d) 0 1 (lt-leb x d over) in omega arith
      | inr under ↦ let e = cond-true {A = ℕ} (leb x d) 0 1 (le-leb x d under) in omega arith
    ]

-- the rest of a figure that is enclosed
rest_encloses : (low high e rest all : ℕ) → rest + e ≡ all → Encloses low high e all → Encloses (1000000000000 - high) (1000000000000 - low) rest all
rest_encloses low high e rest all sum h =
    record {
      above = elim (cases_lt high 1000000000000) [
        | inl l ↦ let whole : (1000000000000 - high) + high ≡ 1000000000000 = omega arith in omega (arith, ap (λ (v : ℕ). v * all) whole)
        | inr l ↦ let none : 1000000000000 - high ≡ 0 = omega arith in omega (arith, ap (λ (v : ℕ). v * all) none)
      ];
      below = elim (cases_lt low 1000000000000) [
        | inl l ↦ let whole : (1000000000000 - low) + low ≡ 1000000000000 = omega arith in omega (arith, ap (λ (v : ℕ). v * all) whole)
        | inr l ↦ let most = mul-le-mul_right all l in omega arith
      ];
    }

module _ (p : Plain) (formed : WellFormed p) where
  all_weigh_in : (s : ℕ) → total (rates p s) (outcomes (size p)) ≡ all p
  all_weigh_in s =
      let n : length (rates p s) ≡ size p = length-map p.contracts (λ e. get_or e.rates (s - 1) 0) in
      subst (λ (v : ℕ). total (rates p s) (outcomes v) ≡ 1000000 ^ v) n (all_weigh (rates p s) (rates_small p formed s))

  -- what weighs above a level in a scenario
  abbrev above : ℕ → ℕ → ℕ
  above s k = summed (λ o. weight (rates p s) o * exceeds (loss (losses p) o) k) (outcomes (size p))

  above_exact : (s k : ℕ) → above s k + exact p s k ≡ all p
  above_exact s k = omega (arith, all_weigh_in s, summed_kept (weight (rates p s)) (λ o. leb (loss (losses p) o) k) (outcomes (size p)))

  premium_above : (s d n : ℕ) → premium p s d (d + n) ≡ summed (above s) (range_with_len d n)
  premium_above s d n =
      summed_same _ _ (λ o. ap (λ (v : ℕ). weight (rates p s) o * v) (sym (taken_levels (loss (losses p) o) d n))) (outcomes (size p))
      ∙ exchanged (weight (rates p s)) (λ o. exceeds (loss (losses p) o)) (outcomes (size p)) (range_with_len d n)

  -- and in the mix
  abbrev above_mix : ℕ → ℕ
  above_mix k = over_mix p (λ s. above s k)

  above_exact_mix : (k : ℕ) → above_mix k + exact_mix p k ≡ all_mix p
  above_exact_mix k =
      weighed_split (λ x. x.0) (λ x. above x.1 k) (λ x. exact p x.1 k) (all p) (λ x. above_exact x.1 k) (numbered 1 p.shares)
      ∙ ap (λ (v : ℕ). v * all p) (shares_numbered 1 p.shares ∙ formed.whole)

  premium_above_mix : (d n : ℕ) → premium_mix p d (d + n) ≡ summed above_mix (range_with_len d n)
  premium_above_mix d n =
      summed_same _ _ (λ x. ap (λ (v : ℕ). x.0 * v) (premium_above x.1 d n)) (numbered 1 p.shares)
      ∙ exchanged (λ x. x.0) (λ x. above x.1) (numbered 1 p.shares) (range_with_len d n)

  premium_levels_above : (d t : ℕ) → d ≤ t → premium_mix p d t ≡ summed above_mix (levels_of d t)
  premium_levels_above d t l =
      let end : d + (t - d) ≡ t = omega arith in
      subst (λ (v : ℕ). premium_mix p d v ≡ summed above_mix (levels_of d t)) end (premium_above_mix d (t - d))

  pub premium_levels : (d t : ℕ) → d ≤ t → premium_mix p d t ≡ summed (λ k. all_mix p - exact_mix p k) (levels_of d t)
  premium_levels d t l = premium_levels_above d t l ∙ summed_same _ _ (λ k. omega (arith, above_exact_mix k)) (levels_of d t)

  pub layer_encloses : (d t : ℕ) → d ≤ t → Encloses (layer_low p d t) (layer_high p d t) (premium_mix p d t) (all_mix p)
  layer_encloses d t l =
      subst (λ (v : ℕ). Encloses (layer_low p d t) (layer_high p d t) v (all_mix p)) (sym (premium_levels_above d t l))
      (summed_encloses (λ k. 1000000000000 - mix_upper p k) (λ k. 1000000000000 - mix_lower p k) above_mix (all_mix p)
      (λ k. rest_encloses (mix_lower p k) (mix_upper p k) (exact_mix p k) (above_mix k) (all_mix p) (above_exact_mix k) (mix_encloses p formed k))
      (levels_of d t))

  pub layer_narrow : (d t : ℕ) → layer_high p d t ≤ layer_low p d t + (t - d) * (size p + 1)
  layer_narrow d t =
      rw (length-range_with_len d (t - d)) at
      (summed_narrow (λ k. 1000000000000 - mix_upper p k) (λ k. 1000000000000 - mix_lower p k) (size p + 1) (λ k. omega (arith, mix_narrow p formed k)) (levels_of d t))
