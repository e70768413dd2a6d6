-- What is read where the places hold the list: the value at any level up to the ceiling.
use Rattle.std.proofs.Common.{◌≡◌, ℕ, zero, suc, ◌+◌, ◌-◌, ◌*◌, ◌/◌, ◌<◌, ◌≤◌, eqb, List, [], ◌∷◌, map, length, get_or, take, vec_items, sym, refl, ap, ◌∙◌, inl, inr, arith}
use Rattle.std.proofs.lemmas.Bool.{cases_Bool, cond-true, cond-false, ne_eqb, eqb-false}
use Rattle.reckoning.specs.declared.grains.Grains.{Grains}
use Rattle.reckoning.specs.declared.rate.Rate.{Rate}
use Rattle.reckoning.specs.Enclosing.{Ranged, checked, bounds}
use Rattle.reckoning.specs.Operations.{Operations}
use Rattle.reckoning.specs.Outcomes.{summed}
use Rattle.reckoning.specs.Rounding.{pair}
use Rattle.reckoning.specs.Enclosures.{checked_same, blended_ranged}
use Rattle.book.specs.declared.book.Book.{Book}
use Rattle.book.specs.declared.contract.Contract.{Contract}
use Rattle.book.specs.Figures.{numbered, mixed, mixed_at, told_at, told_in}
use Rattle.book.specs.Laid.{LevelsHold, RowsHold}
use Rattle.book.specs.Levels.{picked, kept}
use Rattle.book.specs.Entries.{millionths_of, entry_of}
use Rattle.book.specs.Listed.{listed}
use Rattle.book.specs.Merging.{reached, only_zero, row_of}
use Rattle.book.specs.Plain.{Entry, Plain, scenarios, losses}
use Rattle.book.specs.Values.{entered, values, value}
use Rattle.book.proofs.Picks.{picked_yes, rank_mono}
use Rattle.book.proofs.Reaches.{reached_zero, kept_by_merging}
use Rattle.book.proofs.Rows.{reads, front_row}
use Rattle.book.proofs.Steps.{values_are_steps_lem}

-- ---- the values of a book are in range
rate_small : (rates : List Rate) (i : ℕ) → get_or (millionths_of rates) i 0 ≤ 1000000
rate_small [] i = omega arith
rate_small (r ∷ rates) zero = r.in_range
rate_small (r ∷ rates) (suc i) = rate_small rates i

module _ {V : Type 0} (ops : Operations V) (ranged : V → Type 0) (blended : (r : ℕ) (u v : V) → r ≤ 1000000 → ranged (ops.blended r u v)) (whole : ranged ops.whole) where
  values_ranged : (n s : ℕ) (cs : List Contract) (f : ℕ → V) → ((k : ℕ) → ranged (f k)) →
      (k : ℕ) → ranged (values ops (map (λ (e : Entry). (e.loss, get_or e.rates (s - 1) 0)) (map (entry_of n) cs)) f k)
  values_ranged n s [] f h = h
  values_ranged n s (c ∷ cs) f h =
      values_ranged n s cs (entered ops c.loss.units (get_or (millionths_of (take n c.rates)) (s - 1) 0) f) (λ k. blended _ _ _ (rate_small (take n c.rates) (s - 1)))

  pub value_ranged : (b : Book) (s k : ℕ) → ranged (value ops (listed b) s k)
  value_ranged b s k = values_ranged b.shares.count s (vec_items b.contracts) (λ _. ops.whole) (λ _. whole) k

pub bounds_ranged : (b : Book) (s k : ℕ) → Ranged (value bounds (listed b) s k)
bounds_ranged b s k = value_ranged bounds Ranged (λ r u v l. blended_ranged r l u v) (omega arith) b s k

-- ---- what a row that is held tells
module _ {V : Type 0} (ops : Operations V) (p : Plain) (m : ℕ) (levels : List ℕ) (rows : List V) (held : LevelsHold p m levels) (held_rows : RowsHold ops p m rows) where
  pub levels_picked : take m levels ≡ picked (reached only_zero (losses p)) (p.ceiling + 1)
  levels_picked = held.each ∙ kept_by_merging p.ceiling (losses p)

  pub some_level : (k : ℕ) → 0 < length (picked (reached only_zero (losses p)) (k + 1))
  some_level k =
      let S = reached only_zero (losses p) in
      let m = rank_mono S 1 (k + 1) (omega arith) in
      omega (arith, ap length (picked_yes S 0 (reached_zero only_zero (losses p) refl)))

  -- n is how many levels lie at or below k
  pub told_held : (reading : V → V) (nothing : V) (s k n : ℕ) → 1 ≤ s → s ≤ scenarios p → k ≤ p.ceiling → n ≡ length (picked (reached only_zero (losses p)) (k + 1)) →
      reading (value ops p s k) ≡ value ops p s k → told_at reading nothing (row_of p.places (s - 1) rows) n ≡ value ops p s k
  told_held reading nothing s k n low high under count reads_same =
      let S = reached only_zero (losses p) in
      let f = value ops p s in
      let flat = values_are_steps_lem ops p s in
      let row = row_of p.places (s - 1) rows in
      let at : s - 1 + 1 ≡ s = omega arith in
      let held_row : take m row ≡ map f (picked S (p.ceiling + 1)) =
      held_rows (s - 1) (omega arith) ∙ ap (λ (i : ℕ). map (value ops p i) (kept p.ceiling (losses p))) at ∙ ap (map f) (kept_by_merging p.ceiling (losses p)) in
      let some = some_level k in
      let read : get_or row (n - 1) nothing ≡ f k =
      ap (λ (i : ℕ). get_or row (i - 1) nothing) count
      ∙ reads S f flat row (k + 1) k nothing (front_row S f flat row m (k + 1) (p.ceiling + 1) (omega arith) held_row) some (omega arith) (λ z l h. absurd (omega arith)) in
      cond-false (eqb n 0) nothing (reading (get_or row (n - 1) nothing)) (ne_eqb n 0 (λ z. omega arith)) ∙ ap reading read ∙ reads_same

-- ---- the mix of equal pairs
summed_same : (f g : ℕ → ℕ) (s : ℕ) (ws : List ℕ) → ((i : ℕ) → s ≤ i → i < s + length ws → f i ≡ g i) → summed (λ x. x.0 * f x.1) (numbered s ws) ≡ summed (λ x. x.0 * g x.1) (numbered s ws)
summed_same f g s [] h = refl
summed_same f g s (w ∷ ws) h =
    let here : w * f s ≡ w * g s = ap (λ (n : ℕ). w * n) (h s (omega arith) (omega arith)) in
    omega (arith, summed_same f g (suc s) ws (λ i l k. h i (omega arith) (omega arith)))

mixed_same : (ws : List ℕ) (g h : ℕ → Grains) → ((i : ℕ) → 1 ≤ i → i ≤ length ws → g i ≡ h i) → mixed ws g ≡ mixed ws h
mixed_same ws g h same =
    let lower = summed_same (λ i. (g i).lower) (λ i. (h i).lower) 1 ws (λ i l k. ap (λ (x : Grains). x.lower) (same i l (omega arith))) in
    let upper = summed_same (λ i. (g i).upper) (λ i. (h i).upper) 1 ws (λ i l k. ap (λ (x : Grains). x.upper) (same i l (omega arith))) in
    ap (λ (a : ℕ). pair (a / 1000000) ((summed (λ x. x.0 * (g x.1).upper) (numbered 1 ws) + 999999) / 1000000)) lower
    ∙ ap (λ (b : ℕ). pair (summed (λ x. x.0 * (h x.1).lower) (numbered 1 ws) / 1000000) ((b + 999999) / 1000000)) upper

pub mixed_at_same : (ws : List ℕ) (g h : ℕ → Grains) (s : ℕ) → s ≤ length ws → ((i : ℕ) → 1 ≤ i → i ≤ length ws → g i ≡ h i) → mixed_at ws g s ≡ mixed_at ws h s
mixed_at_same ws g h s within same =
    elim (cases_Bool (eqb s 0)) [
      | inl z ↦ cond-true (eqb s 0) (mixed ws g) (g s) z ∙ mixed_same ws g h same ∙ sym (cond-true (eqb s 0) (mixed ws h) (h s) z)
      | inr z ↦
          let some = eqb-false s 0 z in
          cond-false (eqb s 0) (mixed ws g) (g s) z ∙ same s (omega arith) within ∙ sym (cond-false (eqb s 0) (mixed ws h) (h s) z)
    ]

-- the chance that a book's places tell
pub chance_held : (b : Book) (levels : List ℕ) (rows : List Grains) (s k n : ℕ) → LevelsHold (listed b) b.kept levels → RowsHold bounds (listed b) b.kept rows →
    s ≤ scenarios (listed b) → k ≤ b.ceiling → n ≡ length (picked (reached only_zero (losses (listed b))) (k + 1)) →
    mixed_at (listed b).shares (told_in b.places rows n) s ≡ mixed_at (listed b).shares (λ i. value bounds (listed b) i k) s
chance_held b levels rows s k n held held_rows within under count =
    mixed_at_same (listed b).shares (told_in b.places rows n) (λ i. value bounds (listed b) i k) s within
    (λ i l h. told_held bounds (listed b) b.kept levels rows held held_rows checked (pair 0 0) i k n l h under count (checked_same (value bounds (listed b) i k) (bounds_ranged b i k)))
