-- Every list of a run is well formed, and the places fit it.
use Rattle.std.proofs.Common.{◌≡◌, ℕ, suc, ◌≤◌, Bool, true, false, cond, not, eqb, leb, List, [], ◌∷◌, length, Some, None, Option, refl, ap, ◌∙◌, arith}
use Rattle.std.specs.List.{AllByRecursion}
use Rattle.std.proofs.ByRecursion.{All-push, All-weaker}
use Rattle.std.proofs.lemmas.List.{length_push}
use Rattle.std.proofs.lemmas.Bool.{or_parts, or_from, not-false, not_from_true, eqb-true, eq-eqb, leb-false, ltb-false, cond_both}
use Rattle.reckoning.specs.Outcomes.{summed, outside, loss_wrong, rate_wrong}
use Rattle.law.specs.declared.call.Call.{Call}
use Rattle.law.specs.declared.call.Call.TheVariants.{Enter, ReRate, Strike, BoundsAt, ValueAt, ChanceAt, ReserveFor, LayerOf}
use Rattle.book.specs.declared.shown.Handed.{Handed}
use Rattle.book.specs.Declines.{short, ceiling_wrong, shares_wrong, rates_wrong, places_wrong}
use Rattle.book.specs.Lawful.{LawfulEntry, Lawful}
use Rattle.book.specs.Plain.{Entry, Plain, size, scenarios, same_key, holds_key, entry, opened, without, re_rated}
use Rattle.law.specs.Runs.{declines, declines_open, changed, unless, after_open, after, afters, Sound}
use Rattle.book.specs.Some.{some}
use Rattle.law.specs.WellFormed.{Rated, WellFormed}

-- where nothing is declined, the first sentence does not hold, nor a later one
pub passed : (t : Bool) (n : ℕ) (rest : Option ℕ) → cond t (Some n) rest ≡ None → (t ≡ false) × (rest ≡ None)
passed true n rest e = let z : ◌≡◌ {A = ℕ} 0 1 = cc in absurd (omega arith)
passed false n rest e = (refl, e)

millionths_from : (rs : List ℕ) → some rate_wrong rs ≡ false → AllByRecursion (λ r. r ≤ 1000000) rs
millionths_from [] e = tt
millionths_from (r ∷ rs) e = let parts = or_parts (rate_wrong r) (some rate_wrong rs) e in (ltb-false 1000000 r parts.0, millionths_from rs parts.1)

rated_from : (n k w : ℕ) (rs : List ℕ) → rates_wrong n rs ≡ false → Rated n (entry k w rs)
rated_from n k w rs e =
    let parts = or_parts (not (eqb (length rs) n)) (some rate_wrong rs) e in
    record { one_each = eqb-true (length rs) n (not-false (eqb (length rs) n) parts.0); millionths = millionths_from rs parts.1 }

whole_from : (ws : List ℕ) → shares_wrong ws ≡ false → summed (λ w. w) ws ≡ 1000000
whole_from ws e =
    eqb-true (summed (λ w. w) ws) 1000000 (not-false (eqb (summed (λ w. w) ws) 1000000) (or_parts (outside 1 8 (length ws)) (not (eqb (summed (λ w. w) ws) 1000000)) e).1)

-- ---- what striking and re-rating keep
module _ (P : Entry → Type 0) (k : ℕ) where
  without_all : (es : List Entry) → AllByRecursion P es → AllByRecursion P (without k es)
  without_all [] h = tt
  without_all (e ∷ es) h = cond_both (same_key e.key k) es (e ∷ without k es) (AllByRecursion P) (λ _. h.1) (λ _. (h.0, without_all es h.1))

  re_rated_all : (rs : List ℕ) → ((e : Entry) → P (entry e.key e.loss rs)) → (es : List Entry) → AllByRecursion P es → AllByRecursion P (re_rated k rs es)
  re_rated_all rs new [] h = tt
  re_rated_all rs new (e ∷ es) h =
      cond_both (same_key e.key k) (entry e.key e.loss rs ∷ es) (e ∷ re_rated k rs es) (AllByRecursion P)
      (λ _. (new e, h.1))
      (λ _. (h.0, re_rated_all rs new es h.1))

without_length : (k : ℕ) (es : List Entry) → length (without k es) ≤ length es
without_length k [] = omega arith
without_length k (e ∷ es) =
    cond_both (same_key e.key k) es (e ∷ without k es) (λ l. length l ≤ suc (length es)) (λ _. omega arith) (λ _. omega (arith, without_length k es))

re_rated_length : (k : ℕ) (rs : List ℕ) (es : List Entry) → length (re_rated k rs es) ≡ length es
re_rated_length k rs [] = refl
re_rated_length k rs (e ∷ es) =
    cond_both (same_key e.key k) (entry e.key e.loss rs ∷ es) (e ∷ re_rated k rs es) (λ l. length l ≡ suc (length es))
    (λ _. refl)
    (λ _. ap suc (re_rated_length k rs es))

-- ---- well formed, and the places fit
pub opened_sound : (h : Handed) (ceiling : ℕ) (ws : List ℕ) → declines_open h ceiling ws ≡ None → Sound h (opened h.levels ceiling ws)
opened_sound h ceiling ws e =
    let ceilings = passed (ceiling_wrong ceiling) _ _ e in
    let shares = passed (shares_wrong ws) _ _ ceilings.1 in
    let places = passed (short h (length ws)) _ _ shares.1 in
    record {
      formed = record { whole = whole_from ws shares.0; rated = tt; few = omega arith };
      fits = or_from (short h (length ws)) _ places.0 (not_from_true _ (eq-eqb h.levels h.levels refl));
    }

module _ (h : Handed) (p : Plain) (w : WellFormed p) where
  changed_formed : (c : Call) → declines h p c ≡ None → WellFormed (changed p c)
  changed_formed (Enter k v rs) e =
      let places = passed (places_wrong h p) _ _ e in
      let loss = passed (loss_wrong v) _ _ places.1 in
      let rates = passed (rates_wrong (scenarios p) rs.now) _ _ loss.1 in
      let present = passed (holds_key k p.contracts) _ _ rates.1 in
      let full = passed (leb 256 (size p)) _ _ present.1 in
      record {
        whole = w.whole;
        rated = All-push (Rated (scenarios p)) p.contracts (entry k v rs.now) w.rated (rated_from (scenarios p) k v rs.now rates.0);
        few = rw (length_push p.contracts) (omega (arith, leb-false 256 (size p) full.0));
      }
  changed_formed (ReRate k rs) e =
      let places = passed (places_wrong h p) _ _ e in
      let rates = passed (rates_wrong (scenarios p) rs.now) _ _ places.1 in
      record {
        whole = w.whole;
        rated = re_rated_all (Rated (scenarios p)) k rs.now (λ c. rated_from (scenarios p) c.key c.loss rs.now rates.0) p.contracts w.rated;
        few = rw (re_rated_length k rs.now p.contracts) w.few;
      }
  changed_formed (Strike k) e = record {
    whole = w.whole;
    rated = without_all (Rated (scenarios p)) k p.contracts w.rated;
    few = omega (arith, without_length k p.contracts, w.few);
  }
  changed_formed (BoundsAt s k) e = w
  changed_formed (ValueAt s k) e = w
  changed_formed (ChanceAt s k) e = w
  changed_formed (ReserveFor c) e = w
  changed_formed (LayerOf d t) e = w

  after_formed : (c : Call) → WellFormed (after h p c)
  after_formed c = told (declines h p c) refl
    where
      told : (d : Option ℕ) → declines h p c ≡ d → WellFormed (unless d p (changed p c))
      told (Some n) e = w
      told None e = changed_formed c e

-- ---- shares and places stay
changed_shares : (p : Plain) (c : Call) → (changed p c).shares ≡ p.shares
changed_shares p (Enter k v rs) = refl
changed_shares p (ReRate k rs) = refl
changed_shares p (Strike k) = refl
changed_shares p (BoundsAt s k) = refl
changed_shares p (ValueAt s k) = refl
changed_shares p (ChanceAt s k) = refl
changed_shares p (ReserveFor c) = refl
changed_shares p (LayerOf d t) = refl

changed_fits : (h : Handed) (p : Plain) (c : Call) → places_wrong h (changed p c) ≡ places_wrong h p
changed_fits h p (Enter k v rs) = refl
changed_fits h p (ReRate k rs) = refl
changed_fits h p (Strike k) = refl
changed_fits h p (BoundsAt s k) = refl
changed_fits h p (ValueAt s k) = refl
changed_fits h p (ChanceAt s k) = refl
changed_fits h p (ReserveFor c) = refl
changed_fits h p (LayerOf d t) = refl

-- of either list, the same
unless_same : {X : Type 0} (f : Plain → X) (d : Option ℕ) (p q : Plain) → f q ≡ f p → f (unless d p q) ≡ f p
unless_same f (Some n) p q e = refl
unless_same f None p q e = e

pub afters_shares : (h : Handed) (p : Plain) (cs : List Call) → (afters h p cs).shares ≡ p.shares
afters_shares h p [] = refl
afters_shares h p (c ∷ cs) =
    afters_shares h (after h p c) cs ∙ unless_same (λ (q : Plain). q.shares) (declines h p c) p (changed p c) (changed_shares p c)

pub after_sound : (h : Handed) (p : Plain) (c : Call) → Sound h p → Sound h (after h p c)
after_sound h p c s = record {
  formed = after_formed h p s.formed c;
  fits = unless_same (places_wrong h) (declines h p c) p (changed p c) (changed_fits h p c) ∙ s.fits;
}

pub afters_sound : (h : Handed) (p : Plain) (cs : List Call) → Sound h p → Sound h (afters h p cs)
afters_sound h p [] s = s
afters_sound h p (c ∷ cs) s = afters_sound h (after h p c) cs (after_sound h p c s)

-- the list after an accepted opening
pub after_opened : (h : Handed) (p : Plain) (ceiling : ℕ) (ws : List ℕ) → declines_open h ceiling ws ≡ None → after_open h p ceiling ws ≡ opened h.levels ceiling ws
after_opened h p ceiling ws e = ap (λ (d : Option ℕ). unless d p (opened h.levels ceiling ws)) e

-- a lawful list is well formed
pub lawful_formed : (p : Plain) → Lawful p → WellFormed p
lawful_formed p lawful = record {
  whole = whole_from p.shares lawful.shares;
  rated = All-weaker (LawfulEntry (scenarios p)) (Rated (scenarios p)) (λ e l. rated_from (scenarios p) e.key e.loss e.rates l.rates) p.contracts lawful.each;
  few = lawful.few;
}
