-- Sets of levels inside one another: fewer contracts reach no more levels.
use Rattle.std.proofs.Common.{◌≡◌, ℕ, zero, suc, ◌+◌, ◌-◌, ◌≤◌, Bool, true, ◌&&◌, leb, List, [], ◌∷◌, map, length, take, sym, refl, ap, ◌∙◌, subst, inl, inr, arith}
use Rattle.std.proofs.lemmas.List.{length_push}
use Rattle.std.proofs.lemmas.Bool.{cases_Bool, cond-true, cond-false, or_left, or_right, or_cases, and_from, and_parts}
use Rattle.book.specs.Levels.{picked, kept}
use Rattle.book.specs.Merging.{widened, reached, only_zero}
use Rattle.book.specs.Plain.{Entry, entry, same_key, without, re_rated}
use Rattle.book.proofs.Descents.{own_widened}
use Rattle.book.proofs.Picks.{picked_yes, picked_no}
use Rattle.book.proofs.Reaches.{kept_by_merging}

-- every member of S is one of T
abbrev pub Within : (ℕ → Bool) → (ℕ → Bool) → Type 0
Within S T = (x : ℕ) → S x ≡ true → T x ≡ true

pub picked_no_more : (S T : ℕ → Bool) → Within S T → (n : ℕ) → length (picked S n) ≤ length (picked T n)
picked_no_more S T within zero = omega arith
picked_no_more S T within (suc n) =
    let before = picked_no_more S T within n in
    elim (cases_Bool (S n)) [
      | inl s ↦
          let more-s = ap length (picked_yes S n s) ∙ length_push (picked S n) n in
          let more-t = ap length (picked_yes T n (within n s)) ∙ length_push (picked T n) n in
          omega arith
      | inr s ↦
          let same_s = ap length (picked_no S n s) in
          elim (cases_Bool (T n)) [
            | inl t ↦ let more-t = ap length (picked_yes T n t) ∙ length_push (picked T n) n in omega arith
            | inr t ↦ let same-t = ap length (picked_no T n t) in omega arith
          ]
    ]

widened_within : (w : ℕ) (S T : ℕ → Bool) → Within S T → Within (widened w S) (widened w T)
widened_within w S T within x e =
    elim (or_cases (S x) (leb w x && S (x - w)) e) [
      | inl own ↦ or_left (T x) (leb w x && T (x - w)) (within x own)
      | inr moved ↦
          let both = and_parts (leb w x) (S (x - w)) moved in
          or_right (T x) (leb w x && T (x - w)) (and_from (leb w x) (T (x - w)) both.0 (within (x - w) both.1))
    ]

reached_within : (S T : ℕ → Bool) → Within S T → (ws : List ℕ) → Within (reached S ws) (reached T ws)
reached_within S T within [] = within
reached_within S T within (w ∷ ws) = reached_within (widened w S) (widened w T) (widened_within w S T within) ws

-- what is there stays
reached_own : (S : ℕ → Bool) (ws : List ℕ) → Within S (reached S ws)
reached_own S [] x e = e
reached_own S (w ∷ ws) x e = reached_own (widened w S) ws x (own_widened w S x e)

-- the first i contracts alone
reached_front : (S : ℕ → Bool) (i : ℕ) (ws : List ℕ) → Within (reached S (take i ws)) (reached S ws)
reached_front S zero ws = reached_own S ws
reached_front S (suc i) [] = λ x e. e
reached_front S (suc i) (w ∷ ws) = reached_front (widened w S) i ws

abbrev losses_of : List Entry → List ℕ
losses_of es = map (λ e. e.loss) es

-- all but the contract of one key
reached_without : (k : ℕ) (S : ℕ → Bool) (es : List Entry) → Within (reached S (losses_of (without k es))) (reached S (losses_of es))
reached_without k S [] = λ x e. e
reached_without k S (e ∷ es) =
    elim (cases_Bool (same_key e.key k)) [
      | inl same ↦
          subst (λ (xs : List Entry). Within (reached S (losses_of xs)) (reached S (losses_of (e ∷ es)))) (sym (cond-true (same_key e.key k) es (e ∷ without k es) same))
          (reached_within S (widened e.loss S) (own_widened e.loss S) (losses_of es))
      | inr other ↦
          subst (λ (xs : List Entry). Within (reached S (losses_of xs)) (reached S (losses_of (e ∷ es)))) (sym (cond-false (same_key e.key k) es (e ∷ without k es) other))
          (reached_without k (widened e.loss S) es)
    ]

kept_no_more : (c : ℕ) (us ws : List ℕ) → Within (reached only_zero us) (reached only_zero ws) → length (kept c us) ≤ length (kept c ws)
kept_no_more c us ws within =
    let few = picked_no_more (reached only_zero us) (reached only_zero ws) within (c + 1) in
    omega (arith, ap length (kept_by_merging c us), ap length (kept_by_merging c ws))

-- the kept levels of a front are among those of the list
pub front_keeps_no_more : (c i : ℕ) (ws : List ℕ) → length (kept c (take i ws)) ≤ length (kept c ws)
front_keeps_no_more c i ws = kept_no_more c (take i ws) ws (reached_front only_zero i ws)

-- and so are those of the list without a contract
pub without_keeps_no_more : (c k : ℕ) (es : List Entry) → length (kept c (map (λ (e : Entry). e.loss) (without k es))) ≤ length (kept c (map (λ (e : Entry). e.loss) es))
without_keeps_no_more c k es = kept_no_more c (losses_of (without k es)) (losses_of es) (reached_without k only_zero es)

-- other rates leave the losses
pub losses_rerated : (k : ℕ) (rs : List ℕ) (es : List Entry) → map (λ (e : Entry). e.loss) (re_rated k rs es) ≡ map (λ (e : Entry). e.loss) es
losses_rerated k rs [] = refl
losses_rerated k rs (e ∷ es) =
    elim (cases_Bool (same_key e.key k)) [
      | inl same ↦ ap losses_of (cond-true (same_key e.key k) (entry e.key e.loss rs ∷ es) (e ∷ re_rated k rs es) same)
      | inr other ↦
          ap losses_of (cond-false (same_key e.key k) (entry e.key e.loss rs ∷ es) (e ∷ re_rated k rs es) other)
          ∙ ap (λ (ws : List ℕ). e.loss ∷ ws) (losses_rerated k rs es)
    ]
