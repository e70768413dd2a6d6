-- One turn of the merge, by what the two highest levels left are.
use Rattle.std.proofs.Common.{◌≡◌, ℕ, suc, ◌+◌, ◌-◌, ◌^◌, ◌<◌, ◌≤◌, Bool, true, false, ◌&&◌, leb, ltb, eqb, min, List, length, get_or, take, sym, ap, ◌∙◌, subst, inl, inr, arith}
use Rattle.std.proofs.lemmas.Bool.{cases_Bool, cases_lt, or_left, or_right, or_from, and_from, and_left, and_right, le-leb, lt-leb, cond_both, eqb-true, eqb-false, ltb-true, ltb-false}
use Rattle.std.proofs.lemmas.List.{length_push, length-take}
use Rattle.book.specs.Levels.{picked}
use Rattle.book.specs.Merging.{widened, Last}
use Rattle.book.specs.declared.merging.Merge.{Merge}
use Rattle.book.specs.Turned.{Step, step, higher, turned, TurnsTo}
use Rattle.book.proofs.Picks.{picked_yes, gap, ends, last, rank_mono, front_of, read_last}

pub none_picked : (S : ℕ → Bool) (n z : ℕ) → length (picked S n) ≡ 0 → z < n → S z ≡ false
none_picked S n z e l =
    elim (cases_Bool (S z)) [
      | inl t ↦ let m = rank_mono S (suc z) n l in absurd (omega (arith, ap length (picked_yes S z t), length_push (picked S z) z))
      | inr f ↦ f
    ]

pub not_widened : (w : ℕ) (S : ℕ → Bool) (z : ℕ) → S z ≡ false → (w ≤ z → S (z - w) ≡ false) → widened w S z ≡ false
not_widened w S z f g =
    or_from (S z) (leb w z && S (z - w)) f
    (elim (cases_lt z w) [ inl h ↦ and_left (leb w z) (S (z - w)) (lt-leb w z h) | inr h ↦ and_right (leb w z) (S (z - w)) (g h) ])

pub own_widened : (w : ℕ) (S : ℕ → Bool) (z : ℕ) → S z ≡ true → widened w S z ≡ true
own_widened w S z t = or_left (S z) (leb w z && S (z - w)) t

pub moved_widened : (w : ℕ) (S : ℕ → Bool) (z : ℕ) → S z ≡ true → widened w S (z + w) ≡ true
moved_widened w S z t =
    let l : w ≤ z + w = omega arith in
    let e : z ≡ z + w - w = omega arith in
    or_right (S (z + w)) (leb w (z + w) && S (z + w - w)) (and_from (leb w (z + w)) (S (z + w - w)) (le-leb w (z + w) l) (subst (λ (v : ℕ). S v ≡ true) e t))

-- what a turn leaves: its level y, i own levels and j moved ones
abbrev pub Left : (ℕ → Bool) → ℕ → ℕ → List ℕ → ℕ → ℕ → ℕ → Type 0
Left S w x xs y i j = Last (widened w S) x y × (take i xs ≡ picked S y) × (j ≡ length (picked S (y - w)))

module _ (S : ℕ → Bool) (w x : ℕ) (xs : List ℕ) (own moved : ℕ) (some : 0 < own) (within : own ≤ length xs)
    (e : take own xs ≡ picked S x) (f : moved ≡ length (picked S (x - w))) where
  pub owns : own ≡ length (picked S x)
  owns = omega (arith, ap length e, length-take own xs)

  pub own_last : (p : ℕ) × Last S x p × (get_or xs (own - 1) 0 ≡ p)
  own_last =
      let r : (p : ℕ) × Last S x p = last S x (omega (arith, owns)) in
      (r.0, r.1, ap (λ (n : ℕ). get_or xs (n - 1) 0) owns ∙ read_last S xs x r.0 0 (subst (λ (n : ℕ). take n xs ≡ picked S x) owns e) r.1)

  pub moved_last : 0 < moved → (q : ℕ) × Last S (x - w) q × (get_or xs (moved - 1) 0 ≡ q)
  moved_last h =
      let r : (q : ℕ) × Last S (x - w) q = last S (x - w) (omega arith) in
      let fr = front_of S xs own (x - w) x (omega arith) e in
      (r.0, r.1, ap (λ (n : ℕ). get_or xs (n - 1) 0) f ∙ read_last S xs (x - w) r.0 0 fr r.1)

  pub own_fewer : (p : ℕ) → Last S x p → take (own - 1) xs ≡ picked S p
  own_fewer p t =
      let l = ap length (ends S x p t) ∙ length_push (picked S p) p in
      let b = t.below in
      let n : own - 1 ≡ length (picked S p) = omega (arith, owns) in
      ap (λ (n : ℕ). take n xs) n ∙ front_of S xs own p x (omega arith) e

  moved_fewer : (q y : ℕ) → Last S (x - w) q → q ≡ y - w → moved - 1 ≡ length (picked S (y - w))
  moved_fewer q y t same =
      let l = ap length (ends S (x - w) q t) ∙ length_push (picked S q) q in
      let n : moved - 1 ≡ length (picked S q) = omega arith in
      n ∙ ap (λ (v : ℕ). length (picked S v)) same

  -- the highest level left is an own one, and no moved one
  own_tops : (p : ℕ) → Last S x p → ((z : ℕ) → p ≤ z + w → z + w < x → S z ≡ false) → Left S w x xs p (own - 1) moved
  own_tops p t none =
      let b = t.below in (
        record {
          is = own_widened w S p t.is;
          below = t.below;
          none = λ z l k. not_widened w S z (t.none z l k) (λ h. none (z - w) (omega arith) (omega arith));
        },
        own_fewer p t,
        f ∙ ap length (gap S (p - w) (x - w) (omega arith) (λ z l k. none z (omega arith) (omega arith))),
      )

  moved_tops : (p q : ℕ) → Last S x p → Last S (x - w) q → p < q + w → Left S w x xs (q + w) own (moved - 1)
  moved_tops p q t u lt =
      let b = u.below in (
        record {
          is = moved_widened w S q u.is;
          below = omega arith;
          none = λ z l k. not_widened w S z (t.none z (omega arith) k) (λ h. u.none (z - w) (omega arith) (omega arith));
        },
        e ∙ gap S (q + w) x (omega arith) (λ z l k. t.none z (omega arith) k),
        moved_fewer q (q + w) u (omega arith),
      )

  both_top : (p q : ℕ) → Last S x p → Last S (x - w) q → p ≡ q + w → Left S w x xs p (own - 1) (moved - 1)
  both_top p q t u same = (
    record {
      is = own_widened w S p t.is;
      below = t.below;
      none = λ z l k. not_widened w S z (t.none z l k) (λ h. u.none (z - w) (omega arith) (omega arith));
    },
    own_fewer p t,
    moved_fewer q p u (omega arith),
  )

  -- the four ways of the code
  pub alone : moved ≡ 0 → Left S w x xs (get_or xs (own - 1) 0) (own - 1) moved
  alone none =
      let r = own_last in
      subst (λ (y : ℕ). Left S w x xs y (own - 1) moved) (sym r.2)
      (own_tops r.0 r.1 (λ z l k. none_picked S (x - w) z (sym f ∙ none) (omega arith)))

  pub above : 0 < moved → get_or xs (moved - 1) 0 + w < get_or xs (own - 1) 0 → Left S w x xs (get_or xs (own - 1) 0) (own - 1) moved
  above h lt =
      let r = own_last in
      let s = moved_last h in
      let rs = r.2 in let ss = s.2 in
      subst (λ (y : ℕ). Left S w x xs y (own - 1) moved) (sym r.2)
      (own_tops r.0 r.1 (λ z l k. s.1.none z (omega arith) (omega arith)))

  pub below : 0 < moved → get_or xs (own - 1) 0 < get_or xs (moved - 1) 0 + w → Left S w x xs (get_or xs (moved - 1) 0 + w) own (moved - 1)
  below h lt =
      let r = own_last in
      let s = moved_last h in
      let rs = r.2 in let ss = s.2 in
      subst (λ (y : ℕ). Left S w x xs (y + w) own (moved - 1)) (sym s.2)
      (moved_tops r.0 s.0 r.1 s.1 (omega arith))

  pub level : 0 < moved → get_or xs (own - 1) 0 ≡ get_or xs (moved - 1) 0 + w → Left S w x xs (get_or xs (own - 1) 0) (own - 1) (moved - 1)
  level h same =
      let r = own_last in
      let s = moved_last h in
      let rs = r.2 in let ss = s.2 in
      subst (λ (y : ℕ). Left S w x xs y (own - 1) (moved - 1)) (sym r.2)
      (both_top r.0 s.0 r.1 s.1 (omega arith))

  -- a moved level that is left lies below x
  pub moved_within : 0 < moved → get_or xs (moved - 1) 0 + w < x
  moved_within h = let s = moved_last h in let ss = s.2 in let b = s.1.below in omega arith

  -- the turn that the specification names is one of them
  pub turned_left : x ≤ 2 ^ 32 → Left S w x xs (turned xs own moved w).top (turned xs own moved w).own (turned xs own moved w).moved
  turned_left low =
      let Lefts = λ (s : Step). Left S w x xs s.top s.own s.moved in
      let a = get_or xs (own - 1) 0 in
      let b = min (get_or xs (moved - 1) 0 + w) 4294967295 in
      cond_both (eqb moved 0) (step a (own - 1) moved) (higher a b own moved) Lefts (λ e. alone (eqb-true moved 0 e))
      (λ e.
      let h : 0 < moved = omega (arith, eqb-false moved 0 e) in
      let k = moved_within h in
      let is : get_or xs (moved - 1) 0 + w ≡ b = omega arith in
      cond_both (ltb a b) (step b own (moved - 1)) _ Lefts
      (λ l. let lt = ltb-true a b l in subst (λ (y : ℕ). Left S w x xs y own (moved - 1)) is (below h (omega arith)))
      (λ l.
      let ge = ltb-false a b l in
      cond_both (ltb b a) (step a (own - 1) moved) (step a (own - 1) (moved - 1)) Lefts
      (λ m. let gt = ltb-true b a m in above h (omega arith))
      (λ m. let le = ltb-false b a m in level h (omega arith))))

-- a turn takes the last own level, the last moved one or both
pub record Falls (own moved : ℕ) (s : Step) : Type 0 where
  pub own_falls : s.own ≤ own
  pub moved_falls : s.moved ≤ moved
  pub one_falls : s.own + s.moved < own + moved
  pub by_one : own ≤ s.own + 1

pub falls : (xs : List ℕ) (own moved w : ℕ) → 0 < own → Falls own moved (turned xs own moved w)
falls xs own moved w some =
    let a = get_or xs (own - 1) 0 in
    let b = min (get_or xs (moved - 1) 0 + w) 4294967295 in
    let own_only : Falls own moved (step a (own - 1) moved) = record { own_falls = omega arith; moved_falls = omega arith; one_falls = omega arith; by_one = omega arith } in
    cond_both (eqb moved 0) (step a (own - 1) moved) (higher a b own moved) (Falls own moved) (λ _. own_only)
    (λ e.
    let h : 0 < moved = omega (arith, eqb-false moved 0 e) in
    cond_both (ltb a b) (step b own (moved - 1)) _ (Falls own moved) (λ _. record { own_falls = omega arith; moved_falls = omega arith; one_falls = omega arith; by_one = omega arith })
    (λ _. cond_both (ltb b a) (step a (own - 1) moved) (step a (own - 1) (moved - 1)) (Falls own moved) (λ _. own_only)
    (λ _. record { own_falls = omega arith; moved_falls = omega arith; one_falls = omega arith; by_one = omega arith })))

pub turn_falls : (xs : List ℕ) (m rest : Merge) (top : ℕ) → TurnsTo xs m top rest → Falls m.own m.moved (step top rest.own rest.moved)
turn_falls xs m rest top t = subst (Falls m.own m.moved) (sym t.1) (falls xs m.own m.moved m.loss t.0)
