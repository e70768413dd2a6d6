-- The values beside the levels: what a turn reads, and what it writes.
use Rattle.std.proofs.Common.{◌≡◌, ℕ, zero, suc, ◌+◌, ◌-◌, ◌<◌, ◌≤◌, Bool, true, false, leb, List, [], ◌∷◌, ◌++◌, map, length, get_or, take, drop, set, sym, ap, ◌∙◌, subst, cond, eqb, inl, inr, append_assoc, add-one, length-set, arith}
use Rattle.std.proofs.lemmas.Bool.{cases_Bool, cases_lt, both_ways, le-leb, lt-leb, cond-true, cond-false, cond_both, eqb-true, eqb-false}
use Rattle.std.proofs.lemmas.List.{length-take, length-map, length_push, take-take, take-map, map_push, get_or-take, get_or_push, take-set-le, drop-set, nil_from_length}
use Rattle.book.specs.Levels.{picked}
use Rattle.reckoning.specs.Operations.{Operations}
use Rattle.book.specs.Merging.{widened, Last, Flat, Follows}
use Rattle.book.specs.Told.{found_below}
use Rattle.book.specs.Turned.{turned, blended_at, row_turned}
use Rattle.book.specs.Values.{lagged, entered}
use Rattle.book.proofs.Picks.{ends, last, rank_mono, front}
use Rattle.book.proofs.Descents.{own_widened, moved_widened, none_picked, falls}
use Rattle.book.proofs.Turns.{Reached, starts, own_rank, none_left, left, reached_next, fewer, own_under}

-- f does not change where S has no member
pub flat_run : {V : Type 0} (S : ℕ → Bool) (f : ℕ → V) → Flat S f → (a b : ℕ) → a ≤ b → ((z : ℕ) → a < z → z ≤ b → S z ≡ false) → f b ≡ f a
flat_run S f flat a zero le none = let e : zero ≡ a = omega arith in ap f e
flat_run S f flat a (suc b) le none =
    elim (cases_lt b a) [
      | inl h ↦ let e : suc b ≡ a = omega arith in ap f e
      | inr h ↦ flat b (none (suc b) (omega arith) (omega arith)) ∙ flat_run S f flat a b h (λ z l k. none z l (omega arith))
    ]

module _ {V : Type 0} (S : ℕ → Bool) (f : ℕ → V) (flat : Flat S f) (vs : List V) where
  -- a shorter front
  pub front_row : (i a x : ℕ) → a ≤ x → take i vs ≡ map f (picked S x) → take (length (picked S a)) vs ≡ map f (picked S a)
  front_row i a x le e =
      let n = length (picked S a) in
      let m = rank_mono S a x le in
      let k : n ≤ i = omega (arith, ap length e, length-take i vs, length-map (picked S x) f) in
      sym (take-take n i vs k) ∙ ap (take n) e ∙ take-map f n (picked S x) ∙ ap (map f) (front S a x le)

  -- the last value of a front is the value at each y from the last member on
  pub reads : (x y : ℕ) (d : V) → take (length (picked S x)) vs ≡ map f (picked S x) → 0 < length (picked S x) → y < x → ((z : ℕ) → y < z → z < x → S z ≡ false) → get_or vs (length (picked S x) - 1) d ≡ f y
  reads x y d e some lt none =
      let r = last S x some in
      let p = r.0 in
      let b = r.1.below in
      let n = length (picked S x) in
      let le : p ≤ y = elim (cases_lt y p) [ inl h ↦ absurd (both_ways (S p) (none p h b) r.1.is) | inr h ↦ h ] in
      let l : n ≡ length (picked S p) + 1 = ap length (ends S x p r.1) ∙ length_push (picked S p) p in
      let k : n - 1 < n = omega arith in
      let at : length (map f (picked S p)) ≡ n - 1 = omega (arith, length-map (picked S p) f) in
      sym (get_or-take n vs (n - 1) d k)
      ∙ ap (λ (us : List V). get_or us (n - 1) d) (e ∙ ap (map f) (ends S x p r.1) ∙ map_push f (picked S p) p)
      ∙ get_or_push (map f (picked S p)) (f p) d (n - 1) at
      ∙ sym (flat_run S f flat p y le (λ z l h. r.1.none z l (omega arith)))

  -- what a turn reads beside the own level and beside the moved one
  module _ (w x y : ℕ) (own : ℕ) (owns : own ≡ length (picked S x)) (e : take own vs ≡ map f (picked S x)) (t : Last (widened w S) x y) where
    none_own : (z : ℕ) → y < z → z < x → S z ≡ false
    none_own z l k = elim (cases_Bool (S z)) [ inl h ↦ absurd (both_ways (widened w S z) (t.none z l k) (own_widened w S z h)) | inr h ↦ h ]

    none_moved : (z : ℕ) → y < z + w → z + w < x → S z ≡ false
    none_moved z l k = elim (cases_Bool (S z)) [ inl h ↦ absurd (both_ways (widened w S (z + w)) (t.none (z + w) l k) (moved_widened w S z h)) | inr h ↦ h ]

    pub stays_is : (d : V) → 0 < own → get_or vs (own - 1) d ≡ f y
    stays_is d some =
        ap (λ (n : ℕ). get_or vs (n - 1) d) owns
        ∙ reads x y d (subst (λ (n : ℕ). take n vs ≡ map f (picked S x)) owns e) (omega arith) t.below none_own

    pub falls_is : (nothing d : V) (moved : ℕ) → moved ≡ length (picked S (x - w)) → 0 < moved → get_or vs (moved - 1) d ≡ lagged nothing w f y
    falls_is nothing d moved eq some =
        let r = last S (x - w) (omega arith) in
        let q = r.0 in
        let b = r.1.below in
        let ty = t.below in
        let le : q + w ≤ y = elim (cases_lt y (q + w)) [ inl h ↦ absurd (both_ways (S q) (none_moved q h (omega arith)) r.1.is) | inr h ↦ h ] in
        ap (λ (n : ℕ). get_or vs (n - 1) d) eq
        ∙ reads (x - w) (y - w) d (front_row own (x - w) x (omega arith) e) (omega arith) (omega arith) (λ z l k. none_moved z (omega arith) (omega arith))
        ∙ sym (cond-true (leb w y) (f (y - w)) nothing (le-leb w y (omega arith)))

    pub falls_none : (nothing : V) → S 0 ≡ true → length (picked S (x - w)) ≡ 0 → nothing ≡ lagged nothing w f y
    falls_none nothing z none =
        let ty = t.below in
        let lt : y < w = elim (cases_lt y w) [ inl h ↦ h | inr h ↦ absurd (both_ways (S 0) (none_picked S (x - w) 0 none (omega arith)) z) ] in
        sym (cond-false (leb w y) (f (y - w)) nothing (lt-leb w y lt))

-- a turn writes the value once the contract is entered, so the turns write them all
module _ {V : Type 0} (ops : Operations V) (S : ℕ → Bool) (f : ℕ → V) (flat : Flat S f) (zero_in : S 0 ≡ true) (w r : ℕ) (xs : List ℕ) where
  blends : (vs : List V) (own moved x : ℕ) → Reached S w xs own moved x → 0 < own → take own vs ≡ map f (picked S x) → blended_at ops r vs own moved ≡ entered ops w r f (turned xs own moved w).top
  blends vs own moved x at some are =
      let y = (turned xs own moved w).top in
      let l = (left S w xs own moved x at some).0 in
      let o = own_rank S w xs own moved x at in
      let stays = stays_is S f flat vs w x y own o are l ops.nothing some in
      let falls : cond (eqb moved 0) ops.nothing (get_or vs (moved - 1) ops.nothing) ≡ lagged ops.nothing w f y =
      cond_both (eqb moved 0) ops.nothing (get_or vs (moved - 1) ops.nothing) (λ (v : V). v ≡ lagged ops.nothing w f y)
      (λ e. falls_none S f flat vs w x y own o are l ops.nothing zero_in (sym at.moves ∙ eqb-true moved 0 e))
      (λ e. falls_is S f flat vs w x y own o are l ops.nothing ops.nothing moved at.moves (omega (arith, eqb-false moved 0 e))) in
      ap (λ (v : V). ops.blended r v (cond (eqb moved 0) ops.nothing (get_or vs (moved - 1) ops.nothing))) stays ∙ ap (ops.blended r (f y)) falls

  row_written : (t : ℕ) (vs : List V) (own moved x : ℕ) → Reached S w xs own moved x → take own vs ≡ map f (picked S x) → t ≡ length (picked (widened w S) x) → t ≤ length vs →
      row_turned ops xs w r t vs own moved ≡ map (entered ops w r f) (picked (widened w S) x) ++ drop t vs
  row_written zero vs own moved x at are all room = ap (λ ys. map (entered ops w r f) ys ++ vs) (sym (nil_from_length (picked (widened w S) x) (sym all)))
  row_written (suc t) vs own moved x at are all room =
      let s = turned xs own moved w in
      let U = widened w S in
      let h = entered ops w r f in
      let v = blended_at ops r vs own moved in
      let new = set vs t v in
      cond_both (eqb own 0) vs (row_turned ops xs w r t new s.own s.moved) (λ (ys : List V). ys ≡ map h (picked U x) ++ drop (suc t) vs)
      (λ e. let none = none_left S w xs own moved x at (eqb-true own 0 e) in absurd (omega arith))
      (λ e.
      let some : 0 < own = omega (arith, eqb-false own 0 e) in
      let few = fewer S w xs own moved x at some in
      let under = own_under S w xs own moved x at some in
      let l = left S w xs own moved x at some in
      let b = l.0.below in
      let n = reached_next S w xs own moved x at some in
      let size = length-set vs t v in
      let rank = own_rank S w xs s.own s.moved s.top n in
      let fall = falls xs own moved w some in
      let front : take s.own vs ≡ map f (picked S s.top) = subst (λ (k : ℕ). take k vs ≡ map f (picked S s.top)) (sym rank) (front_row S f flat vs own s.top x (omega arith) are) in
      row_written t new s.own s.moved s.top n (take-set-le s.own vs t v (omega arith) ∙ front) (omega arith) (omega arith)
      ∙ ap (λ (ys : List V). map h (picked U s.top) ++ ys) (drop-set vs t v (omega arith) ∙ ap (λ (u : V). u ∷ drop (t + 1) vs) (blends vs own moved x at some are))
      ∙ sym (append_assoc (map h (picked U s.top)) (h s.top ∷ []) (drop (t + 1) vs))
      ∙ ap (λ (ys : List V). ys ++ drop (t + 1) vs) (sym (ap (map h) (ends U x s.top l.0) ∙ map_push h (picked U s.top) s.top))
      ∙ ap (λ (k : ℕ). map h (picked U x) ++ drop k vs) (add-one t))

pub row_follows : {V : Type 0} (ops : Operations V) (levels : List ℕ) (m n w r c : ℕ) (old : List V) → m ≤ length levels → c ≤ 65535 → n ≤ length old →
    Follows ops levels m n w r c old (row_turned ops levels w r n old m (found_below levels m (c + 1 - w)))
row_follows ops levels m n w r c old within low room S f z flat are values count =
    row_written ops S f flat z w r levels n old m (found_below levels m (c + 1 - w)) (c + 1) (starts S w levels m c within low are) values count room
