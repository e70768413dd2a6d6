-- What stands at the place of a key, and what the list is without it or with other rates there.
use Rattle.std.proofs.Common.{◌≡◌, ℕ, suc, ◌+◌, ◌<◌, true, false, cond, List, [], ◌∷◌, ◌++◌, map, length, get_or, take, drop, set, is_some, Some, None, Option, sym, refl, ap, ◌∙◌, subst, inl, inr, add-one, arith}
use Rattle.std.specs.List.{position_from, remove}
use Rattle.std.proofs.lemmas.List.{get_or-map, map-append, map-set, take-map, drop-map}
use Rattle.std.proofs.lemmas.Bool.{cases_Bool, cond-true, cond-false, or_left, or_right, or_from}
use Rattle.book.specs.declared.contract.Contract.{Contract}
use Rattle.book.specs.Finding.{place_from, place_of}
use Rattle.book.specs.Entries.{millionths_of, entry_of}
use Rattle.book.specs.Plain.{Entry, entry, same_key, holds_key, without, re_rated}

-- the contract of key k stands at place n
pub record StandsAt (k : ℕ) (es : List Entry) (n : ℕ) : Type 0 where
  pub inside : n < length es
  pub held : holds_key k es ≡ true
  pub struck : without k es ≡ remove es n
  pub rerated : (rs : List ℕ) (d : Entry) → re_rated k rs es ≡ set es n (entry (get_or es n d).key (get_or es n d).loss rs)

stands_first : (k : ℕ) (e : Entry) (es : List Entry) → same_key e.key k ≡ true → StandsAt k (e ∷ es) 0
stands_first k e es same = record {
  inside = omega arith;
  held = or_left (same_key e.key k) (holds_key k es) same;
  struck = cond-true (same_key e.key k) es (e ∷ without k es) same;
  rerated = λ rs d. cond-true (same_key e.key k) (entry e.key e.loss rs ∷ es) (e ∷ re_rated k rs es) same;
}

stands_later : (k : ℕ) (e : Entry) (es : List Entry) (n : ℕ) → same_key e.key k ≡ false → StandsAt k es n → StandsAt k (e ∷ es) (suc n)
stands_later k e es n other at = let l = at.inside in record {
  inside = omega arith;
  held = or_right (same_key e.key k) (holds_key k es) at.held;
  struck = cond-false (same_key e.key k) es (e ∷ without k es) other ∙ ap (λ (xs : List Entry). e ∷ xs) at.struck;
  rerated = λ rs d. cond-false (same_key e.key k) (entry e.key e.loss rs ∷ es) (e ∷ re_rated k rs es) other ∙ ap (λ (xs : List Entry). e ∷ xs) (at.rerated rs d);
}

found_from : (j k i : ℕ) (es : List Entry) → Some i ≡ place_from j k es → (n : ℕ) × (i ≡ j + n) × StandsAt k es n
found_from j k i [] is = let z : ◌≡◌ {A = ℕ} 0 1 = cc in absurd (omega arith)
found_from j k i (e ∷ es) is =
    elim (cases_Bool (same_key e.key k)) [
      | inl same ↦
          let here : Some i ≡ Some j = is ∙ cond-true (same_key e.key k) (Some j) (place_from (suc j) k es) same in
          let at : i ≡ j = cc in
          (0, omega arith, stands_first k e es same)
      | inr other ↦
          let r = found_from (suc j) k i es (is ∙ cond-false (same_key e.key k) (Some j) (place_from (suc j) k es) other) in
          let at = r.1 in
          (suc r.0, omega arith, stands_later k e es r.0 other r.2)
    ]

pub found_stands : (k i : ℕ) (es : List Entry) → Some i ≡ place_of k es → StandsAt k es i
found_stands k i es is =
    let r = found_from 0 k i es is in
    let at = r.1 in
    let same : r.0 ≡ i = omega arith in
    subst (StandsAt k es) same r.2

absent_from : (j k : ℕ) (es : List Entry) → None ≡ place_from j k es → holds_key k es ≡ false
absent_from j k [] is = refl
absent_from j k (e ∷ es) is =
    elim (cases_Bool (same_key e.key k)) [
      | inl same ↦
          let here : None ≡ Some j = is ∙ cond-true (same_key e.key k) (Some j) (place_from (suc j) k es) same in
          let z : ◌≡◌ {A = ℕ} 0 1 = cc in absurd (omega arith)
      | inr other ↦ or_from (same_key e.key k) (holds_key k es) other (absent_from (suc j) k es (is ∙ cond-false (same_key e.key k) (Some j) (place_from (suc j) k es) other))
    ]

pub absent : (k : ℕ) (es : List Entry) → None ≡ place_of k es → holds_key k es ≡ false
absent k es is = absent_from 0 k es is

pub place_holds : (k : ℕ) (es : List Entry) (o : Option ℕ) → o ≡ place_of k es → is_some o ≡ holds_key k es
place_holds k es (Some i) is = sym (found_stands k i es is).held
place_holds k es None is = sym (absent k es is)

-- the place among contracts is that among their entries
pub placed : (k n i : ℕ) (items : List Contract) → position_from (λ c. same_key c.key k) i items ≡ place_from i k (map (entry_of n) items)
placed k n i [] = refl
placed k n i (c ∷ cs) = ap (cond (same_key c.key k) (Some i)) (ap (λ (j : ℕ). position_from (λ c. same_key c.key k) j cs) (add-one i) ∙ placed k n (suc i) cs)

-- ---- what the changed contracts list
pub struck_list : (k n i : ℕ) (items rest : List Contract) → rest ≡ remove items i → Some i ≡ place_of k (map (entry_of n) items) → map (entry_of n) rest ≡ without k (map (entry_of n) items)
struck_list k n i items rest is found =
    let f = entry_of n in
    ap (map f) is
    ∙ map-append f (take i items) (drop (suc i) items)
    ∙ ap (λ (es : List Entry). es ++ map f (drop (suc i) items)) (sym (take-map f i items))
    ∙ ap (λ (es : List Entry). take i (map f items) ++ es) (sym (drop-map f (suc i) items))
    ∙ sym (found_stands k i (map f items) found).struck

pub rerated_list : (k n i : ℕ) (items : List Contract) (old new : Contract) (rs : List ℕ) → new.key ≡ old.key → new.loss.units ≡ old.loss.units → millionths_of (take n new.rates) ≡ rs →
    i < length items → old ≡ get_or items i old → Some i ≡ place_of k (map (entry_of n) items) → map (entry_of n) (set items i new) ≡ re_rated k rs (map (entry_of n) items)
rerated_list k n i items old new rs same-key' same-loss rates within is found =
    let f = entry_of n in
    let at : get_or (map f items) i (f old) ≡ f old = get_or-map f items i old (f old) within ∙ ap f (sym is) in
    let now_is : f new ≡ entry old.key old.loss.units rs =
    ap (λ (x : ℕ). entry x new.loss.units (f new).rates) same-key' ∙ ap (λ (x : ℕ). entry old.key x (f new).rates) same-loss ∙ ap (λ (xs : List ℕ). entry old.key old.loss.units xs) rates in
    map-set f items i new
    ∙ ap (λ (e : Entry). set (map f items) i e) (now_is ∙ ap (λ (e : Entry). entry e.key e.loss rs) (sym at))
    ∙ sym ((found_stands k i (map f items) found).rerated rs (f old))
