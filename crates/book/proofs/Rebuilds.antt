-- A rebuild: what it keeps of the places, and what it lays contract by contract.
use Rattle.std.proofs.Common.{◌≡◌, ℕ, ◌+◌, ◌-◌, ◌<◌, ◌≤◌, true, List, [], ◌∷◌, ◌++◌, map, length, get_or, take, drop, sym, refl, ap, ◌∙◌, subst, arith}
use Rattle.std.proofs.lemmas.List.{drop-drop, length-map, get_or-map, take_more, take_all, take-map, map_push}
use Rattle.std.proofs.lemmas.Bool.{ltb-true}
use Rattle.reckoning.specs.Operations.{Operations}
use Rattle.book.specs.declared.contract.Contract.{Contract}
use Rattle.book.specs.Declines.{too_many_levels}
use Rattle.book.specs.Fitting.{Fits}
use Rattle.book.specs.Places.{Places}
use Rattle.book.specs.Laid.{RowsOutside, Outside, LevelsHold, Lays}
use Rattle.book.specs.Levels.{kept}
use Rattle.book.specs.Entries.{entry_of}
use Rattle.book.specs.Plain.{Entry, Plain, losses, opened, with_entry, without, re_rated, with_entries}
use Rattle.book.proofs.Subsets.{front_keeps_no_more, without_keeps_no_more, losses_rerated}

-- ---- what is outside more levels
drop_later : {V : Type 0} (m n : ℕ) (xs ys : List V) → m ≤ n → drop m xs ≡ drop m ys → drop n xs ≡ drop n ys
drop_later m n xs ys le same =
    let at : m + (n - m) ≡ n = omega arith in
    ap (λ (k : ℕ). drop k xs) (sym at) ∙ sym (drop-drop (n - m) m xs) ∙ ap (drop (n - m)) same ∙ drop-drop (n - m) m ys ∙ ap (λ (k : ℕ). drop k ys) at

rows_outside_more : {V : Type 0} (scenarios p m n : ℕ) (old mid new : List V) → m ≤ n → RowsOutside scenarios p m old mid → RowsOutside scenarios p n mid new → RowsOutside scenarios p n old new
rows_outside_more scenarios p m n old mid new le first then = record {
  each = λ s l. then.each s l ∙ drop_later m n _ _ le (first.each s l);
  rest = then.rest ∙ first.rest;
}

-- two steps, of which the second keeps more levels
pub outside_more : {V : Type 0} (scenarios p m n : ℕ) (old mid new : Places V) → m ≤ n → Outside scenarios p m old mid → Outside scenarios p n mid new → Outside scenarios p n old new
outside_more scenarios p m n old mid new le first then = record {
  levels = then.levels ∙ drop_later m n mid.levels old.levels le first.levels;
  bounds = rows_outside_more scenarios p m n old.bounds mid.bounds new.bounds le first.bounds then.bounds;
  values = rows_outside_more scenarios p m n old.values mid.values new.values le first.values then.values;
}

pub outside_same : {V : Type 0} (scenarios p n : ℕ) (x : Places V) → Outside scenarios p n x x
outside_same scenarios p n x = record { levels = refl; bounds = record { each = λ s l. refl; rest = refl }; values = record { each = λ s l. refl; rest = refl } }

-- ---- the list so far
module _ {V : Type 0} (ops : Operations V) (p : Plain) where
  -- n places lay the first i contracts
  abbrev pub LaysFront : ℕ → ℕ → Places V → Type 0
  LaysFront i n x = Lays ops (with_entries p (take i p.contracts)) n x

  pub front_none : (q n : ℕ) (x : Places V) → p.places ≡ q → Lays ops (opened q p.ceiling p.shares) n x → LaysFront 0 n x
  front_none q n x are laid = subst (λ (k : ℕ). Lays ops (opened k p.ceiling p.shares) n x) (sym are) laid

  pub front_all : (i n : ℕ) (x : Places V) → length p.contracts ≤ i → LaysFront i n x → Lays ops p n x
  front_all i n x end laid = subst (λ (es : List Entry). Lays ops (with_entries p es) n x) (take_all i p.contracts end) laid

  module _ (s i : ℕ) (items : List Contract) (item : Contract) (are : p.contracts ≡ map (entry_of s) items) (within : i < length items) (is : item ≡ get_or items i item) where
    next_list : with_entry (with_entries p (take i p.contracts)) (entry_of s item) ≡ with_entries p (take (i + 1) p.contracts)
    next_list =
        let f = entry_of s in
        let es = p.contracts in
        let l : i < length es = omega (arith, ap length are, length-map items f) in
        let at : get_or es i (f item) ≡ f item = ap (λ (xs : List Entry). get_or xs i (f item)) are ∙ get_or-map f items i item (f item) within ∙ ap f (sym is) in
        ap (with_entries p) (ap (λ (e : Entry). take i es ++ (e ∷ [])) (sym at) ∙ sym (take_more es i (f item) l))

    pub front_more : (n : ℕ) (x : Places V) → Lays ops (with_entry (with_entries p (take i p.contracts)) (entry_of s item)) n x → LaysFront (i + 1) n x
    front_more n x laid = subst (λ (q : Plain). Lays ops q n x) next_list laid

    -- a list that fits has no contract for which the places are too few
    pub front_fits : Fits p → too_many_levels (with_entries p (take i p.contracts)) (entry_of s item).loss ≡ true → ⊥
    front_fits fits many =
        let e = entry_of s item in
        let loss = λ (x : Entry). x.loss in
        let same : losses (with_entries p (take i p.contracts)) ++ (e.loss ∷ []) ≡ take (i + 1) (losses p) =
        sym (map_push loss (take i p.contracts) e) ∙ ap losses next_list ∙ sym (take-map loss (i + 1) p.contracts) in
        let more = ltb-true p.places (length (kept p.ceiling (losses (with_entries p (take i p.contracts)) ++ (e.loss ∷ [])))) many in
        let few = front_keeps_no_more p.ceiling (i + 1) (losses p) in
        omega (arith, ap (λ (ws : List ℕ). length (kept p.ceiling ws)) same)

-- ---- what fits
pub held_fits : (p : Plain) (n : ℕ) (levels : List ℕ) → LevelsHold p n levels → n ≤ p.places → Fits p
held_fits p n levels held inside = omega (arith, held.count)

pub struck_fits : (p : Plain) (k : ℕ) → Fits p → Fits (with_entries p (without k p.contracts))
struck_fits p k fits = omega (arith, without_keeps_no_more p.ceiling k p.contracts)

pub rerated_fits : (p : Plain) (k : ℕ) (rs : List ℕ) → Fits p → Fits (with_entries p (re_rated k rs p.contracts))
rerated_fits p k rs fits = omega (arith, ap (λ (ws : List ℕ). length (kept p.ceiling ws)) (losses_rerated k rs p.contracts))
