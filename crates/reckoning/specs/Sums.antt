-- Sums over a list.
use Rattle.std.specs.Prelude.{◌≡◌, ℕ, ◌+◌, ◌*◌, ◌<◌, ◌≤◌, List, [], ◌∷◌, ◌++◌, length, take, slice_index_or, refl}
use Rattle.std.proofs.Common.{ap, ◌∙◌, mul-le-mul_left, arith}
use Rattle.std.specs.List.{AllByRecursion}
use Rattle.std.proofs.lemmas.List.{take_more}
use Rattle.reckoning.specs.Outcomes.{summed}

pub summed_append : {X : Type 0} (f : X → ℕ) (xs ys : List X) → summed f (xs ++ ys) ≡ summed f xs + summed f ys
summed_append f [] ys = omega arith
summed_append f (x ∷ xs) ys = omega (arith, summed_append f xs ys)

pub summed_more : {X : Type 0} (f : X → ℕ) (xs : List X) (i : ℕ) (d : X) → i < length xs → summed f (take (i + 1) xs) ≡ summed f (take i xs) + f (slice_index_or xs i d)
summed_more f xs i d h = ap (summed f) (take_more xs i d h) ∙ summed_append f (take i xs) (slice_index_or xs i d ∷ []) ∙ omega arith

-- what holds of each figure over its scale holds of their weighed sum
pub weighed_le : {I : Type 0} (w f g : I → ℕ) (a b : ℕ) (is : List I) → AllByRecursion (λ i. f i * a ≤ g i * b) is → summed (λ i. w i * f i) is * a ≤ summed (λ i. w i * g i) is * b
weighed_le w f g a b [] h = omega arith
weighed_le w f g a b (i ∷ is) h = omega (arith, mul-le-mul_left (w i) h.0, weighed_le w f g a b is h.1)

-- figures that are nowhere more than n apart, weighed, are at most n times all weight apart
pub weighed_apart : {I : Type 0} (w f g : I → ℕ) (n : ℕ) (is : List I) → AllByRecursion (λ i. g i ≤ f i + n) is → summed (λ i. w i * g i) is ≤ summed (λ i. w i * f i) is + n * summed w is
weighed_apart w f g n [] h = omega arith
weighed_apart w f g n (i ∷ is) h = omega (arith, mul-le-mul_left (w i) h.0, weighed_apart w f g n is h.1)

pub weighed_zero : {I : Type 0} (w : I → ℕ) (is : List I) → summed (λ i. w i * 0) is ≡ 0
weighed_zero w [] = refl
weighed_zero w (i ∷ is) = omega (arith, weighed_zero w is)
