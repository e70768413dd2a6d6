-- Rows of p places, one after the other, that a loop rewrites in turn.
use Rattle.std.proofs.Common.{◌≡◌, ℕ, suc, ◌+◌, ◌-◌, ◌*◌, ◌<◌, ◌≤◌, zero, List, [], ◌∷◌, length, take, drop, set, sym, ap, ◌∙◌, subst, inl, inr, mul-le-mul_right, suc-mul, arith}
use borrow.Rule.Slice.PartMut.{put_mid}
use Rattle.std.proofs.lemmas.Bool.{cases_lt}
use Rattle.std.proofs.lemmas.List.{take-append-drop, drop-take, drop-drop, length-take, length-drop}
use Rattle.std.proofs.lemmas.Slice.{take-put_mid_below, drop-put_mid, between-put_mid}
use Rattle.reckoning.specs.Operations.{Operations}
use Rattle.book.specs.declared.merging.Merge.{Merge}
use Rattle.book.specs.Merging.{row_of}
use Rattle.book.specs.Turned.{row_turned}

pub ends_within : (i n p at len : ℕ) → at ≡ i * p → i < n → n * p ≤ len → at + p ≤ len
ends_within i n p at len e l h =
    let m : suc i * p ≤ n * p = mul-le-mul_right p l in
    omega (arith, suc-mul i p)

-- i rows are done, and what follows them is as it was
abbrev pub Strided : {V : Type 0} → ℕ → ℕ → List V → List V → (ℕ → List V → List V → Type 0) → Type 0
Strided p i rows old P = (drop (i * p) rows ≡ drop (i * p) old) × ((s : ℕ) → s < i → P s (row_of p s old) (row_of p s rows))

pub put_step : {V : Type 0} (p i : ℕ) (rows old ys : List V) (P : ℕ → List V → List V → Type 0) → i * p + p ≤ length rows → length ys ≡ length (take (i * p + p - i * p) (drop (i * p) rows))
    → Strided p i rows old P → P i (take (i * p + p - i * p) (drop (i * p) rows)) ys → Strided p (i + 1) (put_mid (i * p) (i * p + p - i * p) rows ys) old P
put_step {V} p i rows old ys P within kept was done =
    let at = i * p in
    let k = at + p - at in
    let new = put_mid at k rows ys in
    let kp : k ≡ p = omega arith in
    let one : i + 1 ≡ suc i = omega arith in
    let next : at + p ≡ (i + 1) * p = sym (ap (λ (n : ℕ). n * p) one ∙ suc-mul i p) in
    let size : length ys ≡ k = omega (arith, length-take k (drop at rows), length-drop at rows) in
    let low : at ≤ length rows = omega arith in
    let row_new : ys ≡ row_of p i new = sym (between-put_mid at k rows ys (at + p) low size) ∙ ap (λ (n : ℕ). take n (drop at new)) kp in
    let row_old : take k (drop at rows) ≡ row_of p i old = ap (λ (n : ℕ). take n (drop at rows)) kp ∙ ap (take p) was.0 in (
      subst (λ (n : ℕ). drop n new ≡ drop n old) next
          (drop-put_mid at k rows ys (at + p) (omega arith) low size ∙ sym (drop-drop p at rows) ∙ ap (drop p) was.0 ∙ drop-drop p at old),
      λ s l. elim (cases_lt s i) [
        | inl h ↦
            let m : suc s * p ≤ i * p = mul-le-mul_right p h in
            let fits : s * p + p ≤ at = omega (arith, suc-mul s p) in
            let same : row_of p s rows ≡ row_of p s new =
            sym (drop-take (s * p) p rows) ∙ ap (drop (s * p)) (sym (take-put_mid_below at k rows ys (s * p + p) fits low)) ∙ drop-take (s * p) p new in
            subst (P s (row_of p s old)) same (was.1 s h)
        | inr h ↦
            let last : i ≡ s = omega arith in
            subst (λ (n : ℕ). P n (row_of p n old) (row_of p n new)) last
            (subst (P i (row_of p i old)) row_new (subst (λ (r : List V). P i r ys) row_old done))
      ],
    )

-- a value written at the front of a row
pub put_front : {V : Type 0} (at k : ℕ) (rows : List V) (v : V) → 0 < k → at < length rows → set rows at v ≡ put_mid at k rows (set (take k (drop at rows)) 0 v)
put_front at zero rows v some within = absurd (omega arith)
put_front at (suc k) [] v some within = absurd (omega arith)
put_front zero (suc k) (x ∷ xs) v some within = ap (λ ys. v ∷ ys) (sym (take-append-drop k xs))
put_front (suc at) (suc k) (x ∷ xs) v some within = ap (λ ys. x ∷ ys) (put_front at (suc k) xs v some (omega arith))

-- what the merge of one row leaves: the places past it as they were, and on any values those of the turns
abbrev pub MergedRow : {V : Type 0} → Operations V → List ℕ → Merge → ℕ → ℕ → List V → List V → Type 0
MergedRow ops levels m n r old new = (drop n new ≡ drop n old) × (new ≡ row_turned ops levels m.loss r n old m.own m.moved)
