-- Texts that stand in bytes.
use Rattle.std.proofs.Common.{◌≡◌, ℕ, ◌+◌, ◌-◌, ◌<◌, ◌≤◌, List, ◌∷◌, ◌++◌, length, get_or, take, drop, sym, refl, ap, ◌∙◌, arith, length-append, length-drop, length-take, take-add}
use Rattle.std.proofs.lemmas.List.{length-take-le, take-take, take_at, drop_at, drop-take, drop-drop, take-append-drop}
use Rattle.std.proofs.lemmas.List.Prefix.{at_reads}
use Rattle.lines.specs.Places.{Stands, written}

-- what stands in the bytes lies within them
pub stands_within : (bytes : List ℕ) (place : ℕ) (text : List ℕ) → Stands bytes place text → 0 < length text → place + length text ≤ length bytes
stands_within bytes place text s h =
    omega (arith, ap length s, length-take (length text) (drop place bytes), length-drop place bytes)

pub stands_front : (bytes : List ℕ) (place : ℕ) (a b : List ℕ) → Stands bytes place (a ++ b) → Stands bytes place a
stands_front bytes place a b s =
    let l : length a ≤ length (a ++ b) = omega (arith, length-append a b) in
    sym (take-take (length a) (length (a ++ b)) (drop place bytes) l) ∙ ap (take (length a)) s ∙ take_at a b (length a) refl

pub stands_rest : (bytes : List ℕ) (place : ℕ) (a b : List ℕ) → Stands bytes place (a ++ b) → Stands bytes (place + length a) b
stands_rest bytes place a b s =
    ap (take (length b)) (sym (drop-drop (length a) place bytes))
    ∙ sym (drop-take (length a) (length b) (drop place bytes))
    ∙ ap (λ (n : ℕ). drop (length a) (take n (drop place bytes))) (sym (length-append a b))
    ∙ ap (drop (length a)) s
    ∙ drop_at a b (length a) refl

pub stands_joined : (bytes : List ℕ) (place : ℕ) (a b : List ℕ) → Stands bytes place a → Stands bytes (place + length a) b → Stands bytes place (a ++ b)
stands_joined bytes place a b s t =
    ap (λ (n : ℕ). take n (drop place bytes)) (length-append a b)
    ∙ take-add (length a) (length b) (drop place bytes)
    ∙ ap (λ (xs : List ℕ). xs ++ take (length b) (drop (length a) (drop place bytes))) s
    ∙ ap (λ (xs : List ℕ). a ++ take (length b) xs) (drop-drop (length a) place bytes)
    ∙ ap (λ (xs : List ℕ). a ++ xs) t

pub stands_reads : (bytes : List ℕ) (place : ℕ) (text : List ℕ) → Stands bytes place text → (i : ℕ) → i < length text → get_or bytes (place + i) 0 ≡ get_or text i 0
stands_reads bytes place text s i h =
    at_reads 0 bytes text place (drop (length text) (drop place bytes))
    (sym (take-append-drop (length text) (drop place bytes)) ∙ ap (λ (xs : List ℕ). xs ++ drop (length text) (drop place bytes)) s) i h

-- texts that begin otherwise do not stand at one place
pub apart_by_first : (bytes : List ℕ) (place a b : ℕ) (xs ys : List ℕ) → (a ≡ b → ⊥) → Stands bytes place (a ∷ xs) → Stands bytes place (b ∷ ys) → ⊥
apart_by_first bytes place a b xs ys h s t =
    h (sym (stands_reads bytes place (a ∷ xs) s 0 (omega arith)) ∙ stands_reads bytes place (b ∷ ys) t 0 (omega arith))

-- the part of the bytes between two places
pub part_stands : (bytes : List ℕ) (from end : ℕ) (text : List ℕ) → from ≤ end → end ≤ length bytes → take (end - from) (drop from bytes) ≡ text →
    (end ≡ from + length text) × Stands bytes from text
part_stands bytes from end text h l e =
    let n : length text ≡ end - from = omega (arith, ap length e, length-take (end - from) (drop from bytes), length-drop from bytes) in
    (omega arith, ap (λ (k : ℕ). take k (drop from bytes)) n ∙ e)

-- a text that is put stands where it was put
pub written_stands : (bytes : List ℕ) (place : ℕ) (text : List ℕ) → place ≤ length bytes → Stands (written bytes place text) place text
written_stands bytes place text h =
    let l = length-take-le place bytes h in
    ap (take (length text)) (drop_at (take place bytes) (text ++ drop (place + length text) bytes) place l) ∙ take_at text (drop (place + length text) bytes) (length text) refl

-- texts of one length that stand at one place are equal
pub same_standing : (bytes : List ℕ) (place : ℕ) (a b : List ℕ) → length a ≡ length b → Stands bytes place a → Stands bytes place b → a ≡ b
same_standing bytes place a b l s t = sym s ∙ ap (λ (k : ℕ). take k (drop place bytes)) l ∙ t
