-- The first of some sentences, before others.
use Rattle.std.proofs.Common.{◌≡◌, ℕ, Bool, true, false, cond, [], ◌∷◌, ◌++◌, Some, None, sym, refl, ap, ◌∙◌, inl, inr, arith}
use Rattle.std.proofs.lemmas.Bool.{cases_Bool, cond-true, cond-false}
use Rattle.book.specs.Refusals.{Sentences, first}

pub first_early : (ss ts : Sentences) (n : ℕ) → first ss ≡ Some n → first (ss ++ ts) ≡ Some n
first_early [] ts n e = let z : ◌≡◌ {A = ℕ} 0 1 = cc in absurd (omega arith)
first_early (s ∷ ss) ts n e =
    elim (cases_Bool s.1) [
      | inl t ↦ cond-true s.1 (Some s.0) (first (ss ++ ts)) t ∙ sym (cond-true s.1 (Some s.0) (first ss) t) ∙ e
      | inr f ↦ cond-false s.1 (Some s.0) (first (ss ++ ts)) f ∙ first_early ss ts n (sym (cond-false s.1 (Some s.0) (first ss) f) ∙ e)
    ]

pub first_late : (ss ts : Sentences) → first ss ≡ None → first (ss ++ ts) ≡ first ts
first_late [] ts e = refl
first_late (s ∷ ss) ts e =
    elim (cases_Bool s.1) [
      | inl t ↦ let h = sym (cond-true s.1 (Some s.0) (first ss) t) ∙ e in let z : ◌≡◌ {A = ℕ} 0 1 = cc in absurd (omega arith)
      | inr f ↦ cond-false s.1 (Some s.0) (first (ss ++ ts)) f ∙ first_late ss ts (sym (cond-false s.1 (Some s.0) (first ss) f) ∙ e)
    ]

-- a sentence that does not hold is passed, and one that does is the first
pub first_passes : (n : ℕ) (b : Bool) (ss : Sentences) → b ≡ false → first ((n, b) ∷ ss) ≡ first ss
first_passes n b ss e = cond-false b (Some n) (first ss) e

pub first_holds : (n : ℕ) (b : Bool) (ss : Sentences) → b ≡ true → first ((n, b) ∷ ss) ≡ Some n
first_holds n b ss e = cond-true b (Some n) (first ss) e

-- the sentence under n, alone
pub first_one : (n : ℕ) (t b : Bool) → t ≡ b → first ((n, t) ∷ []) ≡ cond b (Some n) None
first_one n t b e = ap (λ (v : Bool). cond v (Some n) None) e
