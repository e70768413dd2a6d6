-- What the places lay: the book without contracts, and one contract more.
use Rattle.std.proofs.Common.{◌≡◌, ℕ, ◌+◌, ◌-◌, ◌*◌, ◌<◌, ◌≤◌, Bool, true, false, List, [], ◌∷◌, ◌++◌, map, length, get_or, take, drop, set, sym, refl, ap, ◌∙◌, arith}
use Rattle.std.proofs.lemmas.List.{take_at, take_more_set, length-map, length-take, length-drop, map_push}
use Rattle.std.proofs.lemmas.Bool.{ne_eqb, or_from, lt-ltb, le-ltb}
use Rattle.reckoning.specs.Operations.{Operations}
use Rattle.reckoning.specs.declared.rate.Rate.{Rate}
use Rattle.book.specs.Declines.{too_many_levels}
use Rattle.book.specs.Laid.{LevelsHold, RowsHold}
use Rattle.book.specs.Levels.{picked, comes_to, kept}
use Rattle.book.specs.Entries.{millionths_of}
use Rattle.book.specs.Merging.{widened, reached, only_zero, row_of, Follows}
use Rattle.book.specs.Plain.{Entry, Plain, scenarios, losses, opened, with_entry}
use Rattle.book.specs.Values.{entered, terms, values, value}
use Rattle.book.proofs.Picks.{gap}
use Rattle.book.proofs.Reaches.{reached_push, reached_zero, kept_by_merging}
use Rattle.book.proofs.Steps.{values_are_steps_lem, values_push}
use Rattle.book.proofs.Strides.{ends_within}

-- ---- without contracts
pub kept_none : (c : ℕ) → kept c [] ≡ 0 ∷ []
kept_none c = gap (comes_to []) 1 (c + 1) (omega arith) (λ z l h. or_from _ false (ne_eqb 0 z (λ e. omega arith)) refl)

pub levels_begun : (places ceiling : ℕ) (shares levels : List ℕ) → 0 < length levels → LevelsHold (opened places ceiling shares) 1 (set levels 0 0)
levels_begun places ceiling shares levels some = record {
  count = ap length (sym (kept_none ceiling));
  each = take_more_set levels 0 0 some ∙ sym (kept_none ceiling);
}

pub rows_begun : {V : Type 0} (ops : Operations V) (scenarios p ceiling : ℕ) (shares : List ℕ) (old new : List V) → 0 < p → scenarios * p ≤ length old → length shares ≡ scenarios →
    ((s : ℕ) → s < scenarios → row_of p s new ≡ set (row_of p s old) 0 ops.whole) → RowsHold ops (opened p ceiling shares) 1 new
rows_begun ops n p ceiling shares old new some room one_each begun s l =
    let within = ends_within s n p (s * p) (length old) refl (omega arith) room in
    let some_row : 0 < length (row_of p s old) = omega (arith, length-take p (drop (s * p) old), length-drop (s * p) old) in
    ap (take 1) (begun s (omega arith)) ∙ take_more_set (row_of p s old) 0 ops.whole some_row ∙ sym (ap (map (λ _. ops.whole)) (kept_none ceiling))

-- ---- one contract more
module _ (p : Plain) (e : Entry) where
  -- what the merge has reached before
  abbrev pub before : ℕ → Bool
  before = reached only_zero (losses p)

  pub kept_before : kept p.ceiling (losses p) ≡ picked before (p.ceiling + 1)
  kept_before = kept_by_merging p.ceiling (losses p)

  kept_more : kept p.ceiling (losses p ++ (e.loss ∷ [])) ≡ picked (widened e.loss before) (p.ceiling + 1)
  kept_more =
      kept_by_merging p.ceiling (losses p ++ (e.loss ∷ []))
      ∙ ap (λ (S : ℕ → Bool). picked S (p.ceiling + 1)) (reached_push only_zero (losses p) e.loss)

  pub kept_after : kept p.ceiling (losses (with_entry p e)) ≡ picked (widened e.loss before) (p.ceiling + 1)
  kept_after = ap (kept p.ceiling) (map_push (λ (x : Entry). x.loss) p.contracts e) ∙ kept_more

  pub value_after : {V : Type 0} (ops : Operations V) (s : ℕ) → value ops (with_entry p e) s ≡ entered ops e.loss (get_or e.rates (s - 1) 0) (value ops p s)
  value_after ops s =
      ap (λ (cs : List (ℕ × ℕ)). values ops cs (λ _. ops.whole)) (map_push (λ (x : Entry). (x.loss, get_or x.rates (s - 1) 0)) p.contracts e)
      ∙ values_push ops (terms p s) (e.loss, get_or e.rates (s - 1) 0) (λ _. ops.whole)

  -- c is the ceiling, q the places of a row, w the loss, m the levels kept so far and n those kept then
  module _ (c q w m n : ℕ) (levels : List ℕ) (is-ceiling : p.ceiling ≡ c) (is-places : p.places ≡ q) (is-loss : e.loss ≡ w) (was : LevelsHold p m levels) where
    pub levels_are : take m levels ≡ picked before (c + 1)
    levels_are = was.each ∙ kept_before ∙ ap (λ (k : ℕ). picked before (k + 1)) is-ceiling

    module _ (count : n ≡ length (picked (widened w before) (c + 1))) where
      same : picked (widened e.loss before) (p.ceiling + 1) ≡ picked (widened w before) (c + 1)
      same = ap (λ (k : ℕ). picked (widened e.loss before) (k + 1)) is-ceiling ∙ ap (λ (v : ℕ). picked (widened v before) (c + 1)) is-loss

      pub too_many : q < n → too_many_levels p e.loss ≡ true
      too_many more = lt-ltb p.places (length (kept p.ceiling (losses p ++ (e.loss ∷ [])))) (omega (arith, ap length (kept_more ∙ same)))

      pub few_enough : n ≤ q → too_many_levels p e.loss ≡ false
      few_enough fits = le-ltb p.places (length (kept p.ceiling (losses p ++ (e.loss ∷ [])))) (omega (arith, ap length (kept_more ∙ same)))

      after : kept p.ceiling (losses (with_entry p e)) ≡ picked (widened w before) (c + 1)
      after = kept_after ∙ same

      pub levels_merged : (new rest : List ℕ) → new ≡ picked (widened w before) (c + 1) ++ rest → LevelsHold (with_entry p e) n new
      levels_merged new rest is = record {
        count = count ∙ ap length (sym after);
        each = ap (take n) is ∙ take_at (picked (widened w before) (c + 1)) rest n (sym count) ∙ sym after;
      }

      pub rows_merged : {V : Type 0} (ops : Operations V) (rates : List Rate) (old new : List V) → e.rates ≡ millionths_of rates → length rates ≡ scenarios p → RowsHold ops p m old →
          ((s : ℕ) → s < length rates → Follows ops levels m n w (get_or (millionths_of rates) s 0) c (row_of q s old) (row_of q s new)) → RowsHold ops (with_entry p e) n new
      rows_merged {V} ops rates old new are_rates one_each held follows s l =
          let f = value ops p (s + 1) in
          let K = picked (widened w before) (c + 1) in
          let h = entered ops w (get_or (millionths_of rates) s 0) f in
          let held_row : take m (row_of q s old) ≡ map f (picked before (c + 1)) =
          ap (λ (k : ℕ). take m (row_of k s old)) (sym is-places) ∙ held s l ∙ ap (map f) (kept_before ∙ ap (λ (k : ℕ). picked before (k + 1)) is-ceiling) in
          let new_row = follows s (omega arith) before f (reached_zero only_zero (losses p) refl) (values_are_steps_lem ops p (s + 1)) levels_are held_row count in
          let at : s + 1 - 1 ≡ s = omega arith in
          let is_value : value ops (with_entry p e) (s + 1) ≡ h =
          value_after ops (s + 1) ∙ ap (λ (k : ℕ). entered ops e.loss (get_or e.rates k 0) f) at
          ∙ ap (λ (rs : List ℕ). entered ops e.loss (get_or rs s 0) f) are_rates ∙ ap (λ (v : ℕ). entered ops v (get_or (millionths_of rates) s 0) f) is-loss in
          ap (λ (k : ℕ). take n (row_of k s new)) is-places
          ∙ ap (take n) new_row
          ∙ take_at (map h K) (drop n (row_of q s old)) n (length-map K h ∙ sym count)
          ∙ ap (λ (g : ℕ → V). map g K) (sym is_value)
          ∙ ap (map (value ops (with_entry p e) (s + 1))) (sym after)
