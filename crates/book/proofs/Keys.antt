-- Every contract has a key of its own: what entering, striking and re-rating keep of that.
use Rattle.std.proofs.Common.{◌≡◌, ℕ, Bool, true, false, not, ◌&&◌, ◌||◌, List, [], ◌∷◌, ◌++◌, sym, refl, ap, ◌∙◌, inl, inr}
use Rattle.std.proofs.lemmas.Bool.{eqb-false, ne_eqb, cases_Bool, cond-true, cond-false, and_parts, and_from, or_parts, or_from}
use Rattle.book.specs.Plain.{Entry, entry, same_key, holds_key, without, re_rated, distinct_keys}
use Rattle.book.proofs.Somes.{some_append}

not_true : (b : Bool) → not b ≡ true → b ≡ false
not_true true e = sym e
not_true false e = refl

apart_both_ways : (j k : ℕ) → same_key j k ≡ false → same_key k j ≡ false
apart_both_ways j k apart = ne_eqb k j (λ same. eqb-false j k apart (sym same))

-- ---- one contract more
pub distinct_push : (es : List Entry) (e : Entry) → distinct_keys es ≡ true → holds_key e.key es ≡ false → distinct_keys (es ++ (e ∷ [])) ≡ true
distinct_push [] e own none = refl
distinct_push (x ∷ xs) e own none =
    let was = and_parts (not (holds_key x.key xs)) (distinct_keys xs) own in
    let parts = or_parts (same_key x.key e.key) (holds_key e.key xs) none in
    let apart = apart_both_ways x.key e.key parts.0 in
    let alone : holds_key x.key (xs ++ (e ∷ [])) ≡ false =
    some_append (λ y. same_key y.key x.key) xs (e ∷ []) ∙ or_from (holds_key x.key xs) (same_key e.key x.key || false) (not_true (holds_key x.key xs) was.0) (or_from (same_key e.key x.key) false apart refl) in
    and_from (not (holds_key x.key (xs ++ (e ∷ [])))) (distinct_keys (xs ++ (e ∷ []))) (ap not alone) (distinct_push xs e was.1 parts.1)

-- ---- one less
absent_without : (j k : ℕ) (es : List Entry) → holds_key j es ≡ false → holds_key j (without k es) ≡ false
absent_without j k [] none = refl
absent_without j k (x ∷ xs) none =
    let parts = or_parts (same_key x.key j) (holds_key j xs) none in
    elim (cases_Bool (same_key x.key k)) [
      | inl is ↦ ap (holds_key j) (cond-true (same_key x.key k) xs (x ∷ without k xs) is) ∙ parts.1
      | inr is ↦
          ap (holds_key j) (cond-false (same_key x.key k) xs (x ∷ without k xs) is) ∙ or_from (same_key x.key j) (holds_key j (without k xs)) parts.0 (absent_without j k xs parts.1)
    ]

pub distinct_without : (k : ℕ) (es : List Entry) → distinct_keys es ≡ true → distinct_keys (without k es) ≡ true
distinct_without k [] own = refl
distinct_without k (x ∷ xs) own =
    let was = and_parts (not (holds_key x.key xs)) (distinct_keys xs) own in
    elim (cases_Bool (same_key x.key k)) [
      | inl is ↦ ap distinct_keys (cond-true (same_key x.key k) xs (x ∷ without k xs) is) ∙ was.1
      | inr is ↦
          ap distinct_keys (cond-false (same_key x.key k) xs (x ∷ without k xs) is)
          ∙ and_from (not (holds_key x.key (without k xs))) (distinct_keys (without k xs)) (ap not (absent_without x.key k xs (not_true (holds_key x.key xs) was.0))) (distinct_without k xs was.1)
    ]

-- ---- other rates
held_rerated : (j k : ℕ) (rs : List ℕ) (es : List Entry) → holds_key j (re_rated k rs es) ≡ holds_key j es
held_rerated j k rs [] = refl
held_rerated j k rs (x ∷ xs) =
    elim (cases_Bool (same_key x.key k)) [
      | inl is ↦ ap (holds_key j) (cond-true (same_key x.key k) (entry x.key x.loss rs ∷ xs) (x ∷ re_rated k rs xs) is)
      | inr is ↦
          ap (holds_key j) (cond-false (same_key x.key k) (entry x.key x.loss rs ∷ xs) (x ∷ re_rated k rs xs) is) ∙ ap (λ (b : Bool). same_key x.key j || b) (held_rerated j k rs xs)
    ]

pub distinct_rerated : (k : ℕ) (rs : List ℕ) (es : List Entry) → distinct_keys (re_rated k rs es) ≡ distinct_keys es
distinct_rerated k rs [] = refl
distinct_rerated k rs (x ∷ xs) =
    elim (cases_Bool (same_key x.key k)) [
      | inl is ↦ ap distinct_keys (cond-true (same_key x.key k) (entry x.key x.loss rs ∷ xs) (x ∷ re_rated k rs xs) is)
      | inr is ↦
          ap distinct_keys (cond-false (same_key x.key k) (entry x.key x.loss rs ∷ xs) (x ∷ re_rated k rs xs) is)
          ∙ ap (λ (b : Bool). not b && distinct_keys (re_rated k rs xs)) (held_rerated x.key k rs xs)
          ∙ ap (λ (b : Bool). not (holds_key x.key xs) && b) (distinct_rerated k rs xs)
    ]
