-- What `picked` keeps: gaps, last members, fronts.
use Rattle.std.proofs.Common.{◌≡◌, ℕ, zero, suc, ◌+◌, ◌-◌, ◌<◌, ◌≤◌, Bool, true, false, List, [], ◌∷◌, ◌++◌, length, get_or, take, sym, refl, ap, ◌∙◌, subst, inl, inr, append_assoc, arith}
use Rattle.std.proofs.lemmas.Bool.{cases_Bool, cases_lt, cond-true, cond-false}
use Rattle.std.proofs.lemmas.List.{append-nil, take_at, take-take, length_push, length-append, get_or-take, get_or_push, get_or_append_left, length-take}
use Rattle.book.specs.Levels.{picked}
use Rattle.book.specs.Merging.{Last}

module _ (S : ℕ → Bool) where
  pub picked_yes : (n : ℕ) → S n ≡ true → picked S (suc n) ≡ picked S n ++ (n ∷ [])
  picked_yes n e = cond-true (S n) (picked S n ++ (n ∷ [])) (picked S n) e

  pub picked_no : (n : ℕ) → S n ≡ false → picked S (suc n) ≡ picked S n
  picked_no n e = cond-false (S n) (picked S n ++ (n ∷ [])) (picked S n) e

  -- with no member from a up to b, nothing is picked there
  pub gap : (a b : ℕ) → a ≤ b → ((z : ℕ) → a ≤ z → z < b → S z ≡ false) → picked S b ≡ picked S a
  gap a zero le none = let e : zero ≡ a = omega arith in ap (picked S) e
  gap a (suc b) le none =
      elim (cases_lt b a) [
        | inl h ↦ let e : suc b ≡ a = omega arith in ap (picked S) e
        | inr h ↦ picked_no b (none b h (omega arith)) ∙ gap a b h (λ z l k. none z l (omega arith))
      ]

  -- the last member ends the list
  pub ends : (x y : ℕ) → Last S x y → picked S x ≡ picked S y ++ (y ∷ [])
  ends x y t = let b : suc y ≤ x = t.below in gap (suc y) x b (λ z l k. t.none z l k) ∙ picked_yes y t.is

  pub last : (x : ℕ) → 0 < length (picked S x) → (y : ℕ) × Last S x y
  last zero h = absurd (omega arith)
  last (suc n) h =
      elim (cases_Bool (S n)) [
        | inl e ↦ (n, record { is = e; below = omega arith; none = λ z l k. absurd (omega arith) })
        | inr e ↦
            let r : (y : ℕ) × Last S n y = last n (subst (λ (xs : List ℕ). 0 < length xs) (picked_no n e) h) in (
              r.0,
              record {
                is = r.1.is;
                below = let b = r.1.below in omega arith;
                none = λ z l k.
                    elim (cases_lt z n) [ inl q ↦ r.1.none z l q | inr q ↦ let same : n ≡ z = omega arith in subst (λ (v : ℕ). S v ≡ false) same e ];
              },
            )
      ]

  pub extends : (a b : ℕ) → a ≤ b → (r : List ℕ) × (picked S b ≡ picked S a ++ r)
  extends a zero le = let e : zero ≡ a = omega arith in ([], ap (picked S) e ∙ sym (append-nil (picked S a)))
  extends a (suc b) le =
      elim (cases_lt b a) [
        | inl h ↦ let e : suc b ≡ a = omega arith in ([], ap (picked S) e ∙ sym (append-nil (picked S a)))
        | inr h ↦
            let r : (r : List ℕ) × (picked S b ≡ picked S a ++ r) = extends a b h in
            elim (cases_Bool (S b)) [
              | inl e ↦ (r.0 ++ (b ∷ []), picked_yes b e ∙ ap (λ (xs : List ℕ). xs ++ (b ∷ [])) r.1 ∙ append_assoc (picked S a) r.0 (b ∷ []))
              | inr e ↦ (r.0, picked_no b e ∙ r.1)
            ]
      ]

  pub rank_mono : (a b : ℕ) → a ≤ b → length (picked S a) ≤ length (picked S b)
  rank_mono a b le = let r = extends a b le in omega (arith, ap length r.1, length-append (picked S a) r.0)

  pub front : (a b : ℕ) → a ≤ b → take (length (picked S a)) (picked S b) ≡ picked S a
  front a b le = let r = extends a b le in ap (take (length (picked S a))) r.1 ∙ take_at (picked S a) r.0 (length (picked S a)) refl

  -- a list that begins with what is picked below x begins with what is picked below a smaller y
  pub front_of : (xs : List ℕ) (i a x : ℕ) → a ≤ x → take i xs ≡ picked S x → take (length (picked S a)) xs ≡ picked S a
  front_of xs i a x le e =
      let m = rank_mono a x le in
      let n = ap length e in
      let k : length (picked S a) ≤ i = omega (arith, length-take i xs) in
      sym (take-take (length (picked S a)) i xs k) ∙ ap (take (length (picked S a))) e ∙ front a x le

  -- what stands last in such a front
  pub read_last : (xs : List ℕ) (x y d : ℕ) → take (length (picked S x)) xs ≡ picked S x → Last S x y → get_or xs (length (picked S x) - 1) d ≡ y
  read_last xs x y d e t =
      let n = length (picked S x) in
      let l : n ≡ length (picked S y) + 1 = ap length (ends x y t) ∙ length_push (picked S y) y in
      let k : n - 1 < n = omega arith in
      let at : length (picked S y) ≡ n - 1 = omega arith in
      sym (get_or-take n xs (n - 1) d k) ∙ ap (λ (v : List ℕ). get_or v (n - 1) d) (e ∙ ends x y t) ∙ get_or_push (picked S y) y d (n - 1) at

  -- the member at place i: i members lie below it
  pub select : (n i : ℕ) → i < length (picked S n) → (y : ℕ) × (get_or (picked S n) i 0 ≡ y) × (S y ≡ true) × (y < n) × (length (picked S y) ≡ i)
  select zero i l = absurd (omega arith)
  select (suc n) i l =
      elim (cases_Bool (S n)) [
        | inl e ↦
            let p = picked_yes n e in
            let k = ap length p ∙ length_push (picked S n) n in
            elim (cases_lt i (length (picked S n))) [
              | inl h ↦
                  let r = select n i h in
                  let b = r.3 in
                  (r.0, ap (λ (v : List ℕ). get_or v i 0) p ∙ get_or_append_left (picked S n) (n ∷ []) 0 i h ∙ r.1, r.2, omega arith, r.4)
              | inr h ↦
                  let at : length (picked S n) ≡ i = omega arith in
                  (n, ap (λ (v : List ℕ). get_or v i 0) p ∙ get_or_push (picked S n) n 0 i at, e, omega arith, at)
            ]
        | inr e ↦
            let p = picked_no n e in
            let r = select n i (omega (arith, ap length p)) in
            let b = r.3 in
            (r.0, ap (λ (v : List ℕ). get_or v i 0) p ∙ r.1, r.2, omega arith, r.4)
      ]

  -- a place of a list that begins with what S has below n, read against x
  pub place_below : (xs : List ℕ) (m n x i : ℕ) → m ≤ length xs → take m xs ≡ picked S n → i < m → get_or xs i 0 < x → i < length (picked S x)
  place_below xs m n x i within e l lt =
      let s = select n i (omega (arith, ap length e, length-take m xs)) in
      let s1 = s.1 in let s4 = s.4 in
      let g : get_or xs i 0 ≡ s.0 = sym (get_or-take m xs i 0 l) ∙ ap (λ (v : List ℕ). get_or v i 0) e ∙ s1 in
      let k = rank_mono (suc s.0) x (omega arith) in
      omega (arith, ap length (picked_yes s.0 s.2), length_push (picked S s.0) s.0)

  pub place_above : (xs : List ℕ) (m n x i : ℕ) → m ≤ length xs → take m xs ≡ picked S n → i < m → x ≤ get_or xs i 0 → length (picked S x) ≤ i
  place_above xs m n x i within e l le =
      let s = select n i (omega (arith, ap length e, length-take m xs)) in
      let s1 = s.1 in let s4 = s.4 in
      let g : get_or xs i 0 ≡ s.0 = sym (get_or-take m xs i 0 l) ∙ ap (λ (v : List ℕ). get_or v i 0) e ∙ s1 in
      let k = rank_mono x s.0 (omega arith) in
      omega arith

  pub rank_within : (xs : List ℕ) (m n x : ℕ) → m ≤ length xs → take m xs ≡ picked S n → x ≤ n → length (picked S x) ≤ m
  rank_within xs m n x within e le = let k = rank_mono x n le in omega (arith, ap length e, length-take m xs)
