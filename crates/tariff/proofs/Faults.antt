-- What a call answers before its error is mapped, and what is answered then.
use Rattle.std.proofs.Common.{◌≡◌, MatchResult, Ok, Err, Result, refl, sym, ◌∙◌, subst}
use Rattle.std.specs.Result.{IsErrAnd}

module _ {T E F : Type 0} (Q : E → F → Type 0) where
  pub mapped_ok : (r : Result T E) (q : Result T F) (x : T) → MatchResult r (λ y. q ≡ Ok y) (λ e. IsErrAnd q (Q e)) → q ≡ Ok x → r ≡ Ok x
  mapped_ok (Ok y) q x cases is = let same = sym cases ∙ is in cc
  mapped_ok (Err e) (Ok y) x cases is = absurd cases
  mapped_ok (Err e) (Err f) x cases is = cc

  module _ (map : E → F) (to : (e : E) (f : F) → Q e f → f ≡ map e) where
    pub mapped_err : (r : Result T E) (q : Result T F) (f : F) → MatchResult r (λ y. q ≡ Ok y) (λ e. IsErrAnd q (Q e)) → q ≡ Err f → (e : E) × (r ≡ Err e) × (f ≡ map e)
    mapped_err (Ok y) q f cases is = let apart = sym cases ∙ is in cc
    mapped_err (Err e) q f cases is = (e, refl, to e f (rw is at cases))

    pub mapped : (P : Result T F → Type 0) (r : Result T E) (q : Result T F) → MatchResult r (λ y. q ≡ Ok y) (λ e. IsErrAnd q (Q e)) →
        ((x : T) → r ≡ Ok x → P (Ok x)) → ((e : E) → r ≡ Err e → P (Err (map e))) → P q
    mapped P (Ok y) q cases ok err = subst P (sym cases) (ok y refl)
    mapped P (Err e) (Ok y) cases ok err = absurd cases
    mapped P (Err e) (Err f) cases ok err = subst (λ (d : F). P (Err d)) (sym (to e f cases)) (err e refl)
