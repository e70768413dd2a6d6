-- Sums over the scenarios in order.
use Rattle.std.proofs.Common.{◌≡◌, ℕ, zero, suc, ◌+◌, ◌*◌, ◌<◌, ◌≤◌, List, [], ◌∷◌, length, get_or, take, refl, ap, ◌∙◌, mul-le-mul_left, arith}
use Rattle.std.specs.List.{AllByRecursion}
use Rattle.std.proofs.lemmas.List.{take_all}
use Rattle.reckoning.specs.Outcomes.{summed}
use Rattle.reckoning.specs.Sums.{summed_more, weighed_apart, weighed_zero}
use Rattle.book.specs.Figures.{numbered}

pub length_numbered : (s : ℕ) (ws : List ℕ) → length (numbered s ws) ≡ length ws
length_numbered s [] = refl
length_numbered s (w ∷ ws) = ap suc (length_numbered (suc s) ws)

pub numbered_at : (s : ℕ) (ws : List ℕ) (i : ℕ) (d : ℕ × ℕ) → i < length ws → get_or (numbered s ws) i d ≡ (get_or ws i 0, s + i)
numbered_at s [] i d l = absurd (omega arith)
numbered_at s (w ∷ ws) zero d l = let e : s ≡ s + 0 = omega arith in ap (λ n. (w, n)) e
numbered_at s (w ∷ ws) (suc i) d l =
    let e : suc s + i ≡ s + suc i = omega arith in
    numbered_at (suc s) ws i d (omega arith) ∙ ap (λ n. (get_or ws i 0, n)) e

pub shares_numbered : (s : ℕ) (ws : List ℕ) → summed (λ x. x.0) (numbered s ws) ≡ summed (λ w. w) ws
shares_numbered s [] = refl
shares_numbered s (w ∷ ws) = ap (λ n. w + n) (shares_numbered (suc s) ws)

pub summed_front : {X : Type 0} (f : X → ℕ) (xs : List X) (i : ℕ) → summed f (take i xs) ≤ summed f xs
summed_front f [] zero = omega arith
summed_front f [] (suc i) = omega arith
summed_front f (x ∷ xs) zero = omega arith
summed_front f (x ∷ xs) (suc i) = omega (arith, summed_front f xs i)

-- figures of at most c each, weighed by the first of the shares, come to at most c times their sum
pub shared_bound : (ws : List ℕ) (f : ℕ → ℕ) (c i : ℕ) → ((s : ℕ) → f s ≤ c) → summed (λ x. x.0 * f x.1) (take i (numbered 1 ws)) ≤ c * summed (λ w. w) ws
shared_bound ws f c i h =
    let is = take i (numbered 1 ws) in
    omega (
      arith,
      weighed_apart (λ x. x.0) (λ _. 0) (λ x. f x.1) c is (each is),
      weighed_zero (λ (x : ℕ × ℕ). x.0) is,
      mul-le-mul_left c (summed_front (λ x. x.0) (numbered 1 ws) i),
      ap (λ n. c * n) (shares_numbered 1 ws),
    )
  where
    each : (xs : List (ℕ × ℕ)) → AllByRecursion (λ x. f x.1 ≤ 0 + c) xs
    each [] = tt
    each (x ∷ xs) = (omega (arith, h x.1), each xs)

-- one scenario more
pub shared_more : (ws : List ℕ) (f : ℕ → ℕ) (i : ℕ) → i < length ws →
    summed (λ x. x.0 * f x.1) (take (i + 1) (numbered 1 ws)) ≡ summed (λ x. x.0 * f x.1) (take i (numbered 1 ws)) + get_or ws i 0 * f (1 + i)
shared_more ws f i l =
    let g = λ (x : ℕ × ℕ). x.0 * f x.1 in
    let l' : i < length (numbered 1 ws) = omega (arith, length_numbered 1 ws) in
    summed_more g (numbered 1 ws) i (0, 0) l' ∙ ap (λ (x : ℕ × ℕ). summed g (take i (numbered 1 ws)) + g x) (numbered_at 1 ws i (0, 0) l)

-- one turn of the sum: l is the sum so far, x the next share and y the figure of its scenario
module _ (ws : List ℕ) (f : ℕ → ℕ) (i l x y : ℕ) (within : i < length ws) (sum : l ≡ summed (λ x. x.0 * f x.1) (take i (numbered 1 ws))) (share : x ≡ get_or ws i 0) (figure : y ≡ f (1 + i)) where
  pub turn : l + x * y ≡ summed (λ x. x.0 * f x.1) (take (i + 1) (numbered 1 ws))
  turn =
      let product : x * y ≡ get_or ws i 0 * f (1 + i) = ap (λ k. k * y) share ∙ ap (λ k. get_or ws i 0 * k) figure in
      omega (arith, shared_more ws f i within)

  pub turn_bound : (c : ℕ) → ((s : ℕ) → f s ≤ c) → summed (λ w. w) ws ≡ 1000000 → l + x * y ≤ c * 1000000
  turn_bound c h all = omega (arith, turn, shared_bound ws f c (i + 1) h, ap (λ n. c * n) all)

-- all scenarios are summed
pub turn_end : (ws : List ℕ) (f : ℕ → ℕ) (i l : ℕ) → length ws ≤ i → l ≡ summed (λ x. x.0 * f x.1) (take i (numbered 1 ws)) → l ≡ summed (λ x. x.0 * f x.1) (numbered 1 ws)
turn_end ws f i l past sum = sum ∙ ap (summed (λ x. x.0 * f x.1)) (take_all i (numbered 1 ws) (omega (arith, length_numbered 1 ws)))
