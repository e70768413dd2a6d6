-- Sums over the levels of a layer, by stretches on which the chances do not change.
use Rattle.std.proofs.Common.{◌≡◌, ℕ, zero, suc, ◌+◌, ◌-◌, ◌*◌, ◌<◌, ◌≤◌, Bool, true, ltb, cond, max, min, List, length, get_or, take, sym, ap, length-take, ◌∙◌, inl, inr, mul-le-mul_left, arith}
use Rattle.std.specs.List.{range_with_len}
use Rattle.std.proofs.lemmas.List.{get_or-take}
use Rattle.std.proofs.lemmas.Bool.{cases_lt, cases_Bool, cond-true, cond-false, ltb-true, ltb-false, le-ltb}
use Rattle.reckoning.specs.Outcomes.{summed}
use Rattle.reckoning.specs.declared.grains.Grains.{Grains}
use Rattle.book.specs.declared.book.Book.{Book}
use Rattle.book.specs.Levels.{picked}
use Rattle.book.specs.Pricing.{levels_of}
use Rattle.book.specs.Reserved.{mix_beside}
use Rattle.book.specs.Layered.{stretch_end, stretched, layer_over}
use Rattle.book.proofs.Picks.{picked_yes, rank_mono, place_below, place_above, rank_within}

-- ---- sums over levels in a row
module _ (f : ℕ → ℕ) where
  summed_parts : (a m n k b : ℕ) → m + n ≡ k → a + m ≡ b → summed f (range_with_len a k) ≡ summed f (range_with_len a m) + summed f (range_with_len b n)
  summed_parts a zero n k b all at =
      let e : k ≡ n = omega arith in
      let d : a ≡ b = omega arith in
      omega (arith, ap (λ (v : ℕ). summed f (range_with_len a v)) e, ap (λ (v : ℕ). summed f (range_with_len v n)) d)
  summed_parts a (suc m) n zero b all at = absurd (omega arith)
  summed_parts a (suc m) n (suc k) b all at = omega (arith, summed_parts (a + 1) m n k b (omega arith) (omega arith))

  summed_even : (v a n : ℕ) → ((k : ℕ) → a ≤ k → k < a + n → f k ≡ v) → summed f (range_with_len a n) ≡ n * v
  summed_even v a zero same = omega arith
  summed_even v a (suc n) same = omega (arith, same a (omega arith) (omega arith), summed_even v (a + 1) n (λ k l h. same k (omega arith) (omega arith)))

  -- the levels from d to b, once the terms from a to b are all v
  pub stretch_more : (v d a b sum : ℕ) → d ≤ a → a ≤ b → sum ≡ summed f (levels_of d a) → ((k : ℕ) → a ≤ k → k < b → f k ≡ v) → sum + (b - a) * v ≡ summed f (levels_of d b)
  stretch_more v d a b sum low high was same =
      let parts = summed_parts d (a - d) (b - a) (b - d) a (omega arith) (omega arith) in
      let even = summed_even v a (b - a) (λ k l h. same k l (omega arith)) in
      omega arith

  pub no_levels : (d : ℕ) → 0 ≡ summed f (levels_of d d)
  no_levels d = let none : 0 ≡ d - d = omega arith in ap (λ (n : ℕ). summed f (range_with_len d n)) none

-- a sum over a stretch of terms not above m, and one of lesser terms
pub stretch_within : (m d a b sum v : ℕ) → d ≤ a → a ≤ b → v ≤ m → sum ≤ (a - d) * m → sum + (b - a) * v ≤ (b - d) * m
stretch_within m d a b sum v low high small was =
    let parts : (a - d) + (b - a) ≡ b - d = omega arith in
    omega (arith, mul-le-mul_left (b - a) small, ap (λ (n : ℕ). n * m) parts)

pub stretch_order : (a b low high u v : ℕ) → low ≤ high → u ≤ v → low + (b - a) * u ≤ high + (b - a) * v
stretch_order a b low high u v was small = omega (arith, mul-le-mul_left (b - a) small)

-- ---- levels as places tell them
-- no level from n on ends a stretch
pub stretch_kept : (levels : List ℕ) (n i a t : ℕ) → n ≤ length levels → stretch_end (take n levels) (length (take n levels)) i a t ≡ stretch_end levels n i a t
stretch_kept levels n i a t within =
    let all : length (take n levels) ≡ n = omega (arith, length-take n levels) in
    ap (λ (k : ℕ). stretch_end (take n levels) k i a t) all
    ∙ ap (λ (v : ℕ). max a (min t v))
    (elim (cases_lt i n) [
      | inl l ↦ ap (λ (v : ℕ). cond (ltb i n) v t) (get_or-take n levels i 0 l)
      | inr h ↦ cond-false (ltb i n) (get_or (take n levels) i 0) t (le-ltb i n h) ∙ sym (cond-false (ltb i n) (get_or levels i 0) t (le-ltb i n h))
    ])

-- a sum over the first i stretches, which end at a, and what is still to come make up what the places tell of the layer
abbrev pub StillToCome : (Grains → ℕ) → Book → List ℕ → List Grains → ℕ → ℕ → ℕ → ℕ → ℕ → Type 0
StillToCome count b levels rows d t i a sum =
    sum + stretched (λ j. 1000000000000 - count (mix_beside b rows j)) levels b.kept (b.kept - i) i a t ≡ layer_over count b levels rows d t

module _ (count : Grains → ℕ) (b : Book) (levels : List ℕ) (rows : List Grains) (d t : ℕ) where
  pub come_none : StillToCome count b levels rows d t 0 d 0
  come_none =
      let none : b.kept - 0 ≡ b.kept = omega arith in
      omega (arith, ap (λ (m : ℕ). stretched (λ j. 1000000000000 - count (mix_beside b rows j)) levels b.kept m 0 d t) none)

  pub come_more : (i a sum end wide : ℕ) (g : Grains) → i < b.kept → g ≡ mix_beside b rows i → end ≡ stretch_end levels b.kept (i + 1) a t → wide ≡ end - a →
      StillToCome count b levels rows d t i a sum → StillToCome count b levels rows d t (i + 1) end (sum + wide * (1000000000000 - count g))
  come_more i a sum end wide g l beside is-end is_IsWide was =
      let f : ℕ → ℕ = λ j. 1000000000000 - count (mix_beside b rows j) in
      let one : b.kept - i ≡ suc (b.kept - (i + 1)) = omega arith in
      let next = stretch_end levels b.kept (i + 1) a t in
      let term : wide * (1000000000000 - count g) ≡ (next - a) * f i =
      ap (λ (x : Grains). wide * (1000000000000 - count x)) beside ∙ ap (λ (n : ℕ). n * f i) (is_IsWide ∙ ap (λ (e : ℕ). e - a) is-end) in
      omega (arith, was, term, ap (λ (m : ℕ). stretched f levels b.kept m i a t) one, ap (λ (e : ℕ). stretched f levels b.kept (b.kept - (i + 1)) (i + 1) e t) is-end)

  pub come_all : (i a sum : ℕ) → b.kept ≤ i → StillToCome count b levels rows d t i a sum → sum ≡ layer_over count b levels rows d t
  come_all i a sum l was =
      let none : b.kept - i ≡ 0 = omega arith in
      omega (arith, was, ap (λ (m : ℕ). stretched (λ j. 1000000000000 - count (mix_beside b rows j)) levels b.kept m i a t) none)

-- at each level from a below t, more than i members of S are not above it
abbrev pub Ahead : (ℕ → Bool) → ℕ → ℕ → ℕ → Type 0
Ahead S i a t = (k : ℕ) → a ≤ k → k < t → i < length (picked S (k + 1))

pub ahead_none : (S : ℕ → Bool) (a t : ℕ) → S 0 ≡ true → Ahead S 0 a t
ahead_none S a t z k l h =
    let m = rank_mono S 1 (k + 1) (omega arith) in
    omega (arith, ap length (picked_yes S 0 z))

module _ (S : ℕ → Bool) (levels : List ℕ) (n c t : ℕ) (within : n ≤ length levels) (are : take n levels ≡ picked S (c + 1)) (under : t ≤ c + 1) where
  module _ (i a : ℕ) (ahead : Ahead S i a t) (l : i < n) where
    -- on the stretch from a just i + 1 members are not above
    pub stretch_even : (k : ℕ) → a ≤ k → k < stretch_end levels n (i + 1) a t → k < t → i + 1 ≡ length (picked S (k + 1))
    stretch_even k low high less =
        let more = ahead k low less in
        elim (cases_Bool (ltb (i + 1) n)) [
          | inl y ↦
              let next = cond-true (ltb (i + 1) n) (get_or levels (i + 1) 0) t y in
              let last = place_above S levels n (c + 1) (k + 1) (i + 1) within are (ltb-true (i + 1) n y) (omega arith) in
              omega arith
          | inr y ↦
              let end = ltb-false (i + 1) n y in
              let last = rank_within S levels n (c + 1) (k + 1) within are (omega arith) in
              omega arith
        ]

    pub ahead_more : Ahead S (i + 1) (stretch_end levels n (i + 1) a t) t
    ahead_more k low high =
        elim (cases_Bool (ltb (i + 1) n)) [
          | inl y ↦
              let next = cond-true (ltb (i + 1) n) (get_or levels (i + 1) 0) t y in
              place_below S levels n (c + 1) (k + 1) (i + 1) within are (ltb-true (i + 1) n y) (omega arith)
          | inr y ↦ let next = cond-false (ltb (i + 1) n) (get_or levels (i + 1) 0) t y in absurd (omega arith)
        ]

  pub ahead_all : (a : ℕ) → a ≤ t → Ahead S n a t → a ≡ t
  ahead_all a le ahead =
      elim (cases_lt a t) [
        | inl l ↦
            let more = ahead a (omega arith) l in
            let last = rank_within S levels n (c + 1) (a + 1) within are (omega arith) in
            absurd (omega arith)
        | inr l ↦ omega arith
      ]
