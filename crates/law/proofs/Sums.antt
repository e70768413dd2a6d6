-- Sums over lists: their parts, their order, and what holds of each term.
use Rattle.std.proofs.Common.{◌≡◌, ℕ, ◌+◌, ◌*◌, ◌≤◌, Bool, true, false, cond, List, [], ◌∷◌, length, filter, sym, refl, ap, arith}
use Rattle.reckoning.specs.Outcomes.{summed}
use Rattle.reckoning.specs.Rounding.{Encloses}

module _ {X : Type 0} where
  pub summed_same : (f g : X → ℕ) → ((x : X) → f x ≡ g x) → (xs : List X) → summed f xs ≡ summed g xs
  summed_same f g h [] = refl
  summed_same f g h (x ∷ xs) = omega (arith, h x, summed_same f g h xs)

  summed_zero : (xs : List X) → summed (λ _. 0) xs ≡ 0
  summed_zero [] = refl
  summed_zero (x ∷ xs) = omega (arith, summed_zero xs)

  summed_add : (f g : X → ℕ) (xs : List X) → summed (λ x. f x + g x) xs ≡ summed f xs + summed g xs
  summed_add f g [] = refl
  summed_add f g (x ∷ xs) = omega (arith, summed_add f g xs)

  summed_times : (c : ℕ) (f : X → ℕ) (xs : List X) → summed (λ x. c * f x) xs ≡ c * summed f xs
  summed_times c f [] = omega arith
  summed_times c f (x ∷ xs) = omega (arith, summed_times c f xs)

  -- what passes a test, and what fails it, come to all
  pub summed_kept : (f : X → ℕ) (t : X → Bool) (xs : List X) → summed f (filter t xs) + summed (λ x. f x * cond (t x) 0 1) xs ≡ summed f xs
  summed_kept f t [] = refl
  summed_kept f t (x ∷ xs) = omega (arith, one (t x), summed_kept f t xs)
    where
      one : (b : Bool) → summed f (cond b (x ∷ filter t xs) (filter t xs)) + f x * cond b 0 1 ≡ f x + summed f (filter t xs)
      one true = omega arith
      one false = omega arith

  -- two figures that everywhere come to the same, each weighed
  pub weighed_split : (w f g : X → ℕ) (all : ℕ) → ((x : X) → f x + g x ≡ all) → (xs : List X) → summed (λ x. w x * f x) xs + summed (λ x. w x * g x) xs ≡ summed w xs * all
  weighed_split w f g all h [] = omega arith
  weighed_split w f g all h (x ∷ xs) = omega (arith, ap (λ n. w x * n) (h x), weighed_split w f g all h xs)

  pub summed_encloses : (low high e : X → ℕ) (all : ℕ) → ((x : X) → Encloses (low x) (high x) (e x) all) → (xs : List X) → Encloses (summed low xs) (summed high xs) (summed e xs) all
  summed_encloses low high e all h [] = record { above = omega arith; below = omega arith }
  summed_encloses low high e all h (x ∷ xs) =
      let first = h x in
      let rest = summed_encloses low high e all h xs in
      record { above = omega arith; below = omega arith }

  pub summed_narrow : (low high : X → ℕ) (wide : ℕ) → ((x : X) → high x ≤ low x + wide) → (xs : List X) → summed high xs ≤ summed low xs + length xs * wide
  summed_narrow low high wide h [] = omega arith
  summed_narrow low high wide h (x ∷ xs) = omega (arith, h x, summed_narrow low high wide h xs)

-- a weighed sum of sums, the other way round
pub exchanged : {X Y : Type 0} (w : X → ℕ) (f : X → Y → ℕ) (xs : List X) (ys : List Y) → summed (λ x. w x * summed (f x) ys) xs ≡ summed (λ y. summed (λ x. w x * f x y) xs) ys
exchanged w f [] ys = sym (summed_zero ys)
exchanged w f (x ∷ xs) ys =
    omega (arith, exchanged w f xs ys, summed_times (w x) (f x) ys, summed_add (λ y. w x * f x y) (λ y. summed (λ z. w z * f z y) xs) ys)
