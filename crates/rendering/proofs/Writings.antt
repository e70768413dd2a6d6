-- Texts put into bytes one after another.
use Rattle.std.proofs.Common.{◌≡◌, ℕ, ◌+◌, ◌≤◌, List, ◌++◌, length, sym, refl, ap, ◌∙◌, length-append}
use lib.Seq.{paste}
use Rattle.std.proofs.lemmas.List.Edits.{paste_all, paste-paste}
use Rattle.lines.specs.Places.{written}

written_pasted : (bs : List ℕ) (from : ℕ) (a : List ℕ) → written bs from a ≡ paste bs from a (length a)
written_pasted bs from a = sym (paste_all bs from a (length a) refl)

-- two texts put one after the other are one text
pub written_written : (bs : List ℕ) (from : ℕ) (a b : List ℕ) → from ≤ length bs →
    written (written bs from a) (from + length a) b ≡ written bs from (a ++ b)
written_written bs from a b h =
    written_pasted (written bs from a) (from + length a) b
    ∙ ap (λ (xs : List ℕ). paste xs (from + length a) b (length b)) (written_pasted bs from a)
    ∙ paste-paste bs from a b (length a) (length b) refl refl h
    ∙ ap (λ (n : ℕ). paste bs from (a ++ b) n) (sym (length-append a b))
    ∙ sym (written_pasted bs from (a ++ b))

-- the same of what is held after each of the two
pub written_more : (before between after : List ℕ) (from place : ℕ) (a b : List ℕ) → from ≤ length before → place ≡ from + length a →
    between ≡ written before from a → after ≡ written between place b → after ≡ written before from (a ++ b)
written_more before between after from place a b h p e f =
    f ∙ ap (λ (i : ℕ). written between i b) p ∙ ap (λ (xs : List ℕ). written xs (from + length a) b) e ∙ written_written before from a b h
