-- A turn of the merge on any levels and values.
use Rattle.std.proofs.Common.{◌≡◌, ℕ, zero, suc, ◌+◌, ◌-◌, ◌<◌, ◌≤◌, cond, eqb, ◌⊎◌, List, length, get_or, set, sym, refl, ap, ◌∙◌, inl, inr, arith}
use Rattle.std.proofs.lemmas.List.{get_or_default}
use Rattle.std.proofs.lemmas.Bool.{cond-true, cond-false, eq-eqb, ne_eqb}
use Rattle.reckoning.specs.Operations.{Operations}
use Rattle.book.specs.declared.merging.Merge.{Merge}
use Rattle.book.specs.Turned.{Step, TurnsTo, turns, levels_turned, blended_at, row_turned}

none_left : (own : ℕ) → own ≡ 0 → eqb own 0 ≡ mathlib.Core.Bool.true
none_left own e = eq-eqb own 0 e

some_left : (own : ℕ) → 0 < own → eqb own 0 ≡ mathlib.Core.Bool.false
some_left own h = ne_eqb own 0 (λ e. omega arith)

-- a turn more
module _ (xs : List ℕ) (m rest : Merge) (top : ℕ) (to : TurnsTo xs m top rest) where
  pub levels_more : (t : ℕ) → 0 < t → levels_turned t xs m.own m.moved m.loss ≡ levels_turned (t - 1) (set xs (t - 1) top) rest.own rest.moved rest.loss
  levels_more zero h = absurd (omega arith)
  levels_more (suc t) h =
      let e : t ≡ suc t - 1 = omega arith in
      cond-false (eqb m.own 0) xs _ (some_left m.own to.0)
      ∙ ap (λ (q : Step). levels_turned t (set xs t q.top) q.own q.moved m.loss) (sym to.1)
      ∙ ap (λ (w : ℕ). levels_turned t (set xs t top) rest.own rest.moved w) (sym to.2)
      ∙ ap (λ (k : ℕ). levels_turned k (set xs k top) rest.own rest.moved rest.loss) e

  pub turns_more : (f : ℕ) → 0 < f → turns f xs m.own m.moved m.loss ≡ suc (turns (f - 1) xs rest.own rest.moved rest.loss)
  turns_more zero h = absurd (omega arith)
  turns_more (suc f) h =
      let e : f ≡ suc f - 1 = omega arith in
      cond-false (eqb m.own 0) 0 _ (some_left m.own to.0)
      ∙ ap (λ (q : Step). suc (turns f xs q.own q.moved m.loss)) (sym to.1)
      ∙ ap (λ (w : ℕ). suc (turns f xs rest.own rest.moved w)) (sym to.2)
      ∙ ap (λ (k : ℕ). suc (turns k xs rest.own rest.moved rest.loss)) e

  pub counted_more : (all n total : ℕ) → n < all → total ≡ n + turns (all - n) xs m.own m.moved m.loss → total ≡ n + 1 + turns (all - (n + 1)) xs rest.own rest.moved rest.loss
  counted_more all n total room e =
      let less : all - n - 1 ≡ all - (n + 1) = omega arith in
      let more = turns_more (all - n) (omega arith) in
      let next = ap (λ (k : ℕ). turns k xs rest.own rest.moved rest.loss) less in
      omega arith

  pub row_more : {V : Type 0} (ops : Operations V) (r : ℕ) (row : List V) (v : V) (t : ℕ) → 0 < t → v ≡ blended_at ops r row m.own m.moved →
      row_turned ops xs m.loss r t row m.own m.moved ≡ row_turned ops xs rest.loss r (t - 1) (set row (t - 1) v) rest.own rest.moved
  row_more ops r row v zero h blend = absurd (omega arith)
  row_more {V} ops r row v (suc t) h blend =
      let e : t ≡ suc t - 1 = omega arith in
      cond-false (eqb m.own 0) row _ (some_left m.own to.0)
      ∙ ap (λ (q : Step). row_turned ops xs m.loss r t (set row t (blended_at ops r row m.own m.moved)) q.own q.moved) (sym to.1)
      ∙ ap (λ (u : V). row_turned ops xs m.loss r t (set row t u) rest.own rest.moved) (sym blend)
      ∙ ap (λ (w : ℕ). row_turned ops xs w r t (set row t v) rest.own rest.moved) (sym to.2)
      ∙ ap (λ (k : ℕ). row_turned ops xs rest.loss r k (set row k v) rest.own rest.moved) e

-- no turn is left
pub levels_end : (xs : List ℕ) (own moved w t : ℕ) → (t ≡ 0) ⊎ (own ≡ 0) → levels_turned t xs own moved w ≡ xs
levels_end xs own moved w zero h = refl
levels_end xs own moved w (suc t) (inl e) = absurd (omega arith)
levels_end xs own moved w (suc t) (inr e) = cond-true (eqb own 0) xs _ (none_left own e)

pub row_end : {V : Type 0} (ops : Operations V) (xs : List ℕ) (w r : ℕ) (row : List V) (own moved t : ℕ) → (t ≡ 0) ⊎ (own ≡ 0) → row_turned ops xs w r t row own moved ≡ row
row_end ops xs w r row own moved zero h = refl
row_end ops xs w r row own moved (suc t) (inl e) = absurd (omega arith)
row_end ops xs w r row own moved (suc t) (inr e) = cond-true (eqb own 0) row _ (none_left own e)

-- what a turn reads beside its levels
module _ {V : Type 0} (ops : Operations V) (row : List V) (own moved : ℕ) where
  pub stays_read : (v : V) → 0 < own → own ≤ length row → v ≡ get_or row (own - 1) v → v ≡ get_or row (own - 1) ops.nothing
  stays_read v some within is = is ∙ get_or_default row (own - 1) v ops.nothing (omega arith)

  pub falls_read : (v : V) → 0 < moved → moved ≤ length row → v ≡ get_or row (moved - 1) v → v ≡ cond (eqb moved 0) ops.nothing (get_or row (moved - 1) ops.nothing)
  falls_read v some within is =
      is ∙ get_or_default row (moved - 1) v ops.nothing (omega arith) ∙ sym (cond-false (eqb moved 0) ops.nothing (get_or row (moved - 1) ops.nothing) (some_left moved some))

  pub falls_nothing : (v : V) → moved ≤ 0 → v ≡ ops.nothing → v ≡ cond (eqb moved 0) ops.nothing (get_or row (moved - 1) ops.nothing)
  falls_nothing v none is = is ∙ sym (cond-true (eqb moved 0) ops.nothing (get_or row (moved - 1) ops.nothing) (none_left moved (omega arith)))
