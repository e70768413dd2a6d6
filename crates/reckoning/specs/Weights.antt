-- Weights where one contract more has entered.
use Rattle.std.specs.Prelude.{◌≡◌, ℕ, ◌+◌, ◌*◌, Bool, true, false, List, [], ◌∷◌, ◌++◌, refl}
use Rattle.std.proofs.Common.{sym, ap, ◌∙◌, mul_assoc, arith}
use Rattle.reckoning.specs.Outcomes.{Outcome, Family, odds, weight, total, extended, either}
use Rattle.reckoning.specs.Sums.{summed_append}

weight_longer : (o : Outcome) (b : Bool) → weight [] (o ++ (b ∷ [])) ≡ 0
weight_longer [] b = refl
weight_longer (x ∷ o) b = refl

weight_shorter : (rs : List ℕ) (r : ℕ) → weight (rs ++ (r ∷ [])) [] ≡ 0
weight_shorter [] r = refl
weight_shorter (x ∷ rs) r = refl

pub weight_push : (rs : List ℕ) (o : Outcome) (r : ℕ) (b : Bool) → weight (rs ++ (r ∷ [])) (o ++ (b ∷ [])) ≡ weight rs o * odds r b
weight_push [] [] r b = omega arith
weight_push [] (x ∷ o) r b = omega (arith, ap (λ k. odds r x * k) (weight_longer o b))
weight_push (x ∷ rs) [] r b = omega (arith, ap (λ k. odds x b * k) (weight_shorter rs r))
weight_push (x ∷ rs) (y ∷ o) r b = ap (λ k. odds x y * k) (weight_push rs o r b) ∙ sym (mul_assoc (odds x y) (weight rs o) (odds r b))

pub total_extended : (rs : List ℕ) (os : Family) (r : ℕ) (b : Bool) → total (rs ++ (r ∷ [])) (extended b os) ≡ total rs os * odds r b
total_extended rs [] r b = omega arith
total_extended rs (o ∷ os) r b = omega (arith, weight_push rs o r b, total_extended rs os r b)

pub total_either : (rs : List ℕ) (us vs : Family) (r : ℕ) → total (rs ++ (r ∷ [])) (either us vs) ≡ total rs us * odds r false + total rs vs * odds r true
total_either rs us vs r =
    summed_append (weight (rs ++ (r ∷ []))) (extended false us) (extended true vs) ∙ rw (total_extended rs us, total_extended rs vs)
