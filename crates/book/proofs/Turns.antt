-- What the turns of the merge come to where the levels are those of a set.
use Rattle.std.proofs.Common.{◌≡◌, ℕ, zero, suc, ◌+◌, ◌-◌, ◌^◌, ◌<◌, ◌≤◌, Bool, eqb, List, [], ◌∷◌, ◌++◌, length, take, drop, set, sym, ap, ◌∙◌, inl, inr, append_assoc, add-one, length-set, arith}
use Rattle.std.proofs.lemmas.Bool.{cases_Bool, cond_both, eqb-true, eqb-false}
use Rattle.std.proofs.lemmas.List.{length-take, length_push, take-set-le, drop-set, nil_from_length}
use Rattle.book.specs.Levels.{picked}
use Rattle.book.specs.Merging.{widened}
use Rattle.book.specs.Told.{found_below}
use Rattle.book.specs.Turned.{Step, turned, turns, levels_turned}
use Rattle.book.proofs.Picks.{picked_yes, picked_no, gap, ends, rank_mono}
use Rattle.book.proofs.Descents.{Left, own_widened, not_widened, none_picked, turned_left, falls}
use Rattle.book.proofs.Halvings.{found_picked}

-- the merge has come down to x
pub record Reached (S : ℕ → Bool) (w : ℕ) (xs : List ℕ) (own moved x : ℕ) : Type 0 where
  pub low : x ≤ 2 ^ 32
  pub within : own ≤ length xs
  pub owns : take own xs ≡ picked S x
  pub moves : moved ≡ length (picked S (x - w))

-- where no own level is left, none at all is left
pub bottom : (w : ℕ) (S : ℕ → Bool) (x : ℕ) → length (picked S x) ≡ 0 → length (picked (widened w S) x) ≡ 0
bottom w S x e =
    ap length (gap (widened w S) 0 x (omega arith) (λ z l k. not_widened w S z (none_picked S x z e k) (λ h. none_picked S x (z - w) e (omega arith))))

pub rank_sub : (w : ℕ) (S : ℕ → Bool) (x : ℕ) → length (picked S x) ≤ length (picked (widened w S) x)
rank_sub w S zero = omega arith
rank_sub w S (suc n) =
    let U = widened w S in
    let h = rank_sub w S n in
    elim (cases_Bool (S n)) [
      | inl e ↦ omega (arith, ap length (picked_yes S n e), length_push (picked S n) n, ap length (picked_yes U n (own_widened w S n e)), length_push (picked U n) n)
      | inr e ↦ let m = rank_mono U n (suc n) (omega arith) in omega (arith, ap length (picked_no S n e))
    ]

module _ (S : ℕ → Bool) (w : ℕ) where
  -- it starts above the ceiling c
  pub starts : (xs : List ℕ) (n c : ℕ) → n ≤ length xs → c ≤ 65535 → take n xs ≡ picked S (c + 1) → Reached S w xs n (found_below xs n (c + 1 - w)) (c + 1)
  starts xs n c within low are = record { low = omega arith; within = within; owns = are; moves = found_picked S xs n (c + 1) (c + 1 - w) within (omega arith) are }

  module _ (xs : List ℕ) (own moved x : ℕ) (r : Reached S w xs own moved x) where
    pub own_rank : own ≡ length (picked S x)
    own_rank = let k = r.within in omega (arith, ap length r.owns, length-take own xs)

    pub none_left : own ≡ 0 → length (picked (widened w S) x) ≡ 0
    none_left none = bottom w S x (sym own_rank ∙ none)

    module _ (some : 0 < own) where
      abbrev next : Step
      next = turned xs own moved w

      pub left : Left S w x xs next.top next.own next.moved
      left = turned_left S w x xs own moved some r.within r.owns r.moves r.low

      pub reached_next : Reached S w xs next.own next.moved next.top
      reached_next =
          let l = left in
          let b = l.0.below in
          let d = r.low in
          let k = r.within in
          let f = falls xs own moved w some in
          record { low = omega arith; within = omega arith; owns = l.1; moves = l.2 }

      pub fewer : length (picked (widened w S) x) ≡ length (picked (widened w S) next.top) + 1
      fewer = ap length (ends (widened w S) x next.top left.0) ∙ length_push (picked (widened w S) next.top) next.top

      -- the own levels that are left lie below the place that is written next
      pub own_under : next.own ≤ length (picked (widened w S) next.top)
      own_under =
          let s = rank_sub w S next.top in
          let k = r.within in
          let f = falls xs own moved w some in
          omega (arith, ap length left.1, length-take next.own xs)

  pub turns_counted : (most : ℕ) (xs : List ℕ) (own moved x : ℕ) → Reached S w xs own moved x → own + moved ≤ most → turns most xs own moved w ≡ length (picked (widened w S) x)
  turns_counted zero xs own moved x r enough = sym (none_left xs own moved x r (omega arith))
  turns_counted (suc most) xs own moved x r enough =
      let s = turned xs own moved w in
      cond_both (eqb own 0) 0 (suc (turns most xs s.own s.moved w)) (λ (n : ℕ). n ≡ length (picked (widened w S) x)) (λ e. sym (none_left xs own moved x r (eqb-true own 0 e)))
      (λ e.
      let some : 0 < own = omega (arith, eqb-false own 0 e) in
      let f = falls xs own moved w some in
      let more = turns_counted most xs s.own s.moved s.top (reached_next xs own moved x r some) (omega arith) in
      omega (arith, fewer xs own moved x r some))

  pub levels_written : (t : ℕ) (xs : List ℕ) (own moved x : ℕ) → Reached S w xs own moved x → t ≡ length (picked (widened w S) x) → t ≤ length xs →
      levels_turned t xs own moved w ≡ picked (widened w S) x ++ drop t xs
  levels_written zero xs own moved x r all room = ap (λ (ys : List ℕ). ys ++ xs) (sym (nil_from_length (picked (widened w S) x) (sym all)))
  levels_written (suc t) xs own moved x r all room =
      let s = turned xs own moved w in
      let U = widened w S in
      let new = set xs t s.top in
      cond_both (eqb own 0) xs (levels_turned t new s.own s.moved w) (λ (ys : List ℕ). ys ≡ picked U x ++ drop (suc t) xs)
      (λ e. let none = none_left xs own moved x r (eqb-true own 0 e) in absurd (omega arith))
      (λ e.
      let some : 0 < own = omega (arith, eqb-false own 0 e) in
      let few = fewer xs own moved x r some in
      let under = own_under xs own moved x r some in
      let n = reached_next xs own moved x r some in
      let size = length-set xs t s.top in
      let inside = n.within in
      let goes : Reached S w new s.own s.moved s.top = record { low = n.low; within = omega arith; owns = take-set-le s.own xs t s.top (omega arith) ∙ n.owns; moves = n.moves } in
      levels_written t new s.own s.moved s.top goes (omega arith) (omega arith)
      ∙ ap (λ (ys : List ℕ). picked U s.top ++ ys) (drop-set xs t s.top (omega arith))
      ∙ sym (append_assoc (picked U s.top) (s.top ∷ []) (drop (t + 1) xs))
      ∙ ap (λ (ys : List ℕ). ys ++ drop (t + 1) xs) (sym (ends U x s.top (left xs own moved x r some).0))
      ∙ ap (λ (k : ℕ). picked U x ++ drop k xs) (add-one t))
