-- Chances told enclose the exact ones, narrowly.
use Rattle.std.proofs.Common.{◌≡◌, ℕ, ◌+◌, ◌-◌, ◌≤◌, eqb, List, [], ◌∷◌, length, get_or, sym, ◌∙◌, subst, arith}
use Rattle.std.specs.List.{AllByRecursion}
use Rattle.std.proofs.lemmas.List.{length-map}
use Rattle.std.proofs.lemmas.Bool.{ne_eqb, cond-false}
use Rattle.reckoning.specs.declared.grains.Grains.{Grains}
use Rattle.reckoning.specs.Rounding.{Encloses}
use Rattle.reckoning.specs.Enclosing.{bounds, Stands}
use Rattle.reckoning.specs.Enclosures.{blended_stands}
use Rattle.reckoning.specs.Roundings.{rounded_encloses, rounded_narrow}
use Rattle.book.specs.Plain.{Plain, size, rates}
use Rattle.book.specs.Values.{value}
use Rattle.book.specs.Figures.{numbered, mixed, chance}
use Rattle.book.specs.Pricing.{mix_lower, mix_upper}
use Rattle.law.specs.Exact.{family, exact, exact_mix, all, all_mix}
use Rattle.law.specs.WellFormed.{WellFormed}
use Rattle.book.proofs.Mixtures.{shares_numbered}
use Rattle.law.proofs.Standings.{Meaning, value_stands}

bounds_mean : Meaning bounds Stands
bounds_mean =
    record {
      nothing_stands = λ rates. record { ranged = omega arith; encloses = record { above = omega arith; below = omega arith }; narrow = omega arith };
      whole_stands = record { ranged = omega arith; encloses = record { above = omega arith; below = omega arith }; narrow = omega arith };
      blend_stands = λ r u v rates us vs small few su sv. blended_stands r small u v rates us vs su sv;
    }

-- what holds in every scenario holds of the numbered shares
each_numbered : (P : ℕ → Type 0) → ((s : ℕ) → P s) → (xs : List (ℕ × ℕ)) → AllByRecursion (λ x. P x.1) xs
each_numbered P h [] = tt
each_numbered P h (x ∷ xs) = (h x.1, each_numbered P h xs)

module _ (p : Plain) (formed : WellFormed p) where
  pub bounds_stand : (s k : ℕ) → Stands (value bounds p s k) (rates p s) (family p k)
  bounds_stand s k = value_stands p formed s bounds Stands bounds_mean k

  length_rates : (s : ℕ) → length (rates p s) ≡ size p
  length_rates s = length-map p.contracts (λ e. get_or e.rates (s - 1) 0)

  value_encloses : (s k : ℕ) → Encloses (value bounds p s k).lower (value bounds p s k).upper (exact p s k) (all p)
  value_encloses s k = rw (length_rates s) at (bounds_stand s k).encloses

  value_narrow : (s k : ℕ) → (value bounds p s k).upper ≤ (value bounds p s k).lower + size p
  value_narrow s k = rw (length_rates s) at (bounds_stand s k).narrow

  -- of a scenario, from 1
  module _ (s k : ℕ) (from_one : 1 ≤ s) where
    chance_is : value bounds p s k ≡ chance p s k
    chance_is = sym (cond-false (eqb s 0) (mixed p.shares (λ i. value bounds p i k)) (value bounds p s k) (ne_eqb s 0 (λ e. omega arith)))

    pub chance_encloses : Encloses (chance p s k).lower (chance p s k).upper (exact p s k) (all p)
    chance_encloses = subst (λ (g : Grains). Encloses g.lower g.upper (exact p s k) (all p)) chance_is (value_encloses s k)

    pub chance_narrow : (chance p s k).upper ≤ (chance p s k).lower + size p
    chance_narrow = subst (λ (g : Grains). g.upper ≤ g.lower + size p) chance_is (value_narrow s k)

  -- of the mix: the one rounding of a weighed sum, over the scenarios
  pub mix_encloses : (k : ℕ) → Encloses (mix_lower p k) (mix_upper p k) (exact_mix p k) (all_mix p)
  mix_encloses k =
      rounded_encloses 1000000 (omega arith) (λ x. x.0) (λ x. value bounds p x.1 k) (numbered 1 p.shares) (λ x. exact p x.1 k) (all p)
      (each_numbered (λ s. Encloses (value bounds p s k).lower (value bounds p s k).upper (exact p s k) (all p)) (λ s. value_encloses s k) (numbered 1 p.shares))

  pub mix_narrow : (k : ℕ) → mix_upper p k ≤ mix_lower p k + (size p + 1)
  mix_narrow k =
      rounded_narrow 1000000 (omega arith) (λ x. x.0) (λ x. value bounds p x.1 k) (numbered 1 p.shares) (size p) (shares_numbered 1 p.shares ∙ formed.whole)
      (each_numbered (λ s. (value bounds p s k).upper ≤ (value bounds p s k).lower + size p) (λ s. value_narrow s k) (numbered 1 p.shares))
