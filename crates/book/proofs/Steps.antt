-- Values change only at reached levels.
use Rattle.std.proofs.Common.{◌≡◌, ℕ, suc, ◌-◌, Bool, true, false, ◌&&◌, leb, List, [], ◌∷◌, ◌++◌, map, get_or, sym, refl, ap, ◌∙◌, subst, inl, inr, arith}
use Rattle.std.proofs.lemmas.Bool.{cases_Bool, cases_order, both_ways, or_parts, le-leb, lt-leb, cond-true, cond-false}
use Rattle.reckoning.specs.Operations.{Operations}
use Rattle.book.specs.Merging.{widened, reached, only_zero, Flat}
use Rattle.book.specs.Plain.{Entry}
use Rattle.book.specs.Theorems.{ValuesAreSteps}
use Rattle.book.specs.Values.{lagged, entered, values}
use Rattle.book.proofs.Descents.{own_widened}
use Rattle.book.proofs.Reaches.{widened_from}

module _ {V : Type 0} (m : Operations V) where
  module _ (w : ℕ) (S : ℕ → Bool) (f : ℕ → V) (z : S 0 ≡ true) (flat : Flat S f) where
    lagged_flat : (k : ℕ) → widened w S (suc k) ≡ false → lagged m.nothing w f (suc k) ≡ lagged m.nothing w f k
    lagged_flat k h =
        elim (cases_order w (suc k)) [
          | inl e ↦ absurd (both_ways (widened w S (suc k)) h (widened_from w S (suc k) (omega arith) (subst (λ (v : ℕ). S v ≡ true) (omega arith) z)))
          | inr q ↦ elim q [
            | inl l ↦
                let n : suc k - w ≡ suc (k - w) = omega arith in
                let no : S (suc (k - w)) ≡ false = elim (cases_Bool (S (suc (k - w)))) [
                  | inl t ↦ absurd (both_ways (widened w S (suc k)) h (widened_from w S (suc k) (omega arith) (subst (λ (v : ℕ). S v ≡ true) (sym n) t)))
                  | inr t ↦ t
                ] in
                cond-true (leb w (suc k)) (f (suc k - w)) m.nothing (le-leb w (suc k) (omega arith))
                ∙ ap f n ∙ flat (k - w) no
                ∙ sym (cond-true (leb w k) (f (k - w)) m.nothing (le-leb w k (omega arith)))
            | inr l ↦
                cond-false (leb w (suc k)) (f (suc k - w)) m.nothing (lt-leb w (suc k) l)
                ∙ sym (cond-false (leb w k) (f (k - w)) m.nothing (lt-leb w k (omega arith)))
          ]
        ]

    pub entered_flat : (r : ℕ) → Flat (widened w S) (entered m w r f)
    entered_flat r k h =
        let own : S (suc k) ≡ false = (or_parts (S (suc k)) (leb w (suc k) && S (suc k - w)) h).0 in
        ap (λ (v : V). m.blended r v (lagged m.nothing w f (suc k))) (flat k own) ∙ ap (λ (v : V). m.blended r (f k) v) (lagged_flat k h)

  pub values_flat : (s : ℕ) (es : List Entry) (S : ℕ → Bool) (f : ℕ → V) → S 0 ≡ true → Flat S f →
      Flat (reached S (map (λ e. e.loss) es)) (values m (map (λ e. (e.loss, get_or e.rates (s - 1) 0)) es) f)
  values_flat s [] S f z flat = flat
  values_flat s (e ∷ es) S f z flat =
      let r = get_or e.rates (s - 1) 0 in
      values_flat s es (widened e.loss S) (entered m e.loss r f) (own_widened e.loss S 0 z) (entered_flat e.loss S f z flat r)

  pub values_are_steps_lem : ValuesAreSteps m
  values_are_steps_lem p s = values_flat s p.contracts only_zero (λ _. m.whole) refl (λ k h. refl)

  pub values_push : (cs : List (ℕ × ℕ)) (c : ℕ × ℕ) (f : ℕ → V) → values m (cs ++ (c ∷ [])) f ≡ entered m c.0 c.1 (values m cs f)
  values_push [] c f = refl
  values_push (d ∷ cs) c f = values_push cs c (entered m d.0 d.1 f)
