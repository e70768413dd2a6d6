-- A lawful list over places that are enough: the opening declines nothing, and each contract is accepted in turn.
use Rattle.std.proofs.Common.{◌≡◌, ℕ, zero, suc, ◌+◌, ◌*◌, ◌<◌, ◌≤◌, Bool, true, false, not, ◌&&◌, ◌||◌, eqb, ltb, leb, List, [], ◌∷◌, ◌++◌, map, length, get_or, take, Some, None, sym, refl, ap, ◌∙◌, inl, inr, arith}
use Rattle.std.specs.List.{AllByRecursion}
use Rattle.std.proofs.ByRecursion.{All-get_or}
use Rattle.std.proofs.lemmas.List.{length-take-le, map_more, take-map}
use Rattle.std.proofs.lemmas.Bool.{cases_Bool, cond-false, and_parts, and_from, or_from, not-true, not_from_true, le-leb, lt-leb, le-ltb, eq-eqb, ne_eqb, eqb-false, both_ways}
use Rattle.reckoning.specs.Outcomes.{outside}
use Rattle.book.specs.declared.shown.Handed.{Handed}
use Rattle.book.specs.Declines.{short, places_wrong, open_sentences, enter_sentences}
use Rattle.book.specs.Lawful.{LawfulEntry, Lawful}
use Rattle.book.specs.Levels.{comes_to, kept}
use Rattle.book.specs.Plain.{Entry, Plain, size, scenarios, losses, same_key, holds_key, opened, with_entries, distinct_keys}
use Rattle.book.specs.Refusals.{Sentences, first}
use Rattle.book.specs.Some.{some}
use Rattle.book.proofs.Picks.{rank_mono}
use Rattle.book.proofs.Somes.{some_at}
use Rattle.book.proofs.Subsets.{front_keeps_no_more}
use Rattle.tariff.specs.Filed.{declines_entry, AllEnter}
use Rattle.rendering.specs.RoundTrips.{Enough}

-- where no sentence holds nothing is declined
none_holds : (ss : Sentences) → AllByRecursion (λ s. s.1 ≡ false) ss → first ss ≡ None
none_holds [] all = refl
none_holds (s ∷ ss) all = cond-false s.1 (Some s.0) (first ss) all.0 ∙ none_holds ss all.1

not_outside : (low high n : ℕ) → low ≤ n → n ≤ high → outside low high n ≡ false
not_outside low high n a b = not_from_true (leb low n && leb n high) (and_from (leb low n) (leb n high) (le-leb low n a) (le-leb n high b))

-- level 0 is always kept
some_level_kept : (c : ℕ) (ws : List ℕ) → 1 ≤ length (kept c ws)
some_level_kept c ws =
    let zero_alone : 1 ≤ length (kept c []) = rank_mono (comes_to []) 1 (c + 1) (omega arith) in
    let more = front_keeps_no_more c 0 ws in
    omega arith

module _ (h : Handed) (p : Plain) (lawful : Lawful p) (enough : Enough h p) where
  not_short : short h (scenarios p) ≡ false
  not_short =
      or_from (outside 1 65536 h.levels) (ltb h.bounds (h.levels * scenarios p) || ltb h.values (h.levels * scenarios p))
      (let some_level = some_level_kept p.ceiling (losses p) in let room = enough.levels in not_outside 1 65536 h.levels (omega arith) enough.most)
      (or_from (ltb h.bounds (h.levels * scenarios p)) (ltb h.values (h.levels * scenarios p))
      (le-ltb h.bounds (h.levels * scenarios p) enough.bounds) (le-ltb h.values (h.levels * scenarios p) enough.values))

  pub opens_again : first (open_sentences h p.ceiling p.shares) ≡ None
  opens_again = none_holds (open_sentences h p.ceiling p.shares) (lawful.ceiling, (lawful.shares, (not_short, tt)))

-- no key stands among those before it
other_key : (j k : ℕ) → same_key j k ≡ false → same_key k j ≡ false
other_key j k e = ne_eqb k j (λ s. eqb-false j k e (sym s))

none_at : {X : Type 0} (t : X → Bool) (xs : List X) (i : ℕ) (d : X) → i < length xs → some t xs ≡ false → t (get_or xs i d) ≡ false
none_at t xs i d l e =
    elim (cases_Bool (t (get_or xs i d))) [ inl passes ↦ absurd (both_ways (some t xs) e (some_at t xs i d l passes)) | inr fails ↦ fails ]

new_key : (es : List Entry) (i : ℕ) (d : Entry) → i < length es → distinct_keys es ≡ true → holds_key (get_or es i d).key (take i es) ≡ false
new_key [] i d l e = absurd (omega arith)
new_key (x ∷ es) zero d l e = refl
new_key (x ∷ es) (suc i) d l e =
    let both = and_parts (not (holds_key x.key es)) (distinct_keys es) e in
    let k = (get_or es i d).key in
    or_from (same_key x.key k) (holds_key k (take i es))
    (other_key k x.key (none_at (λ (y : Entry). same_key y.key x.key) es i d (omega arith) (not-true (holds_key x.key es) both.0)))
    (new_key es i d (omega arith) both.1)

-- the losses of a front and of the contract behind it
front_losses : (es : List Entry) (i : ℕ) (d : Entry) → i < length es →
    map (λ (e : Entry). e.loss) (take i es) ++ ((get_or es i d).loss ∷ []) ≡ take (i + 1) (map (λ (e : Entry). e.loss) es)
front_losses es i d l = sym (map_more (λ (e : Entry). e.loss) es i d l) ∙ sym (take-map (λ (e : Entry). e.loss) (i + 1) es)

module _ (h : Handed) (p : Plain) (lawful : Lawful p) (enough : Enough h p) where
  enters_next : (i : ℕ) (d : Entry) → i < length p.contracts →
      declines_entry h (with_entries (opened h.levels p.ceiling p.shares) (take i p.contracts)) (get_or p.contracts i d) ≡ None
  enters_next i d l =
      let es = p.contracts in
      let e = get_or es i d in
      let q = with_entries (opened h.levels p.ceiling p.shares) (take i es) in
      let each = All-get_or (LawfulEntry (scenarios p)) es i d l lawful.each in
      let few = lawful.few in
      let levels = front_keeps_no_more p.ceiling (i + 1) (losses p) in
      let same = ap (λ (ws : List ℕ). length (kept p.ceiling ws)) (front_losses es i d l) in
      let room = enough.levels in
      let count = length-take-le i es (omega arith) in
      let fit : places_wrong h q ≡ false =
      or_from (short h (scenarios p)) (not (eqb h.levels h.levels)) (not_short h p lawful enough) (not_from_true (eqb h.levels h.levels) (eq-eqb h.levels h.levels refl)) in
      none_holds (enter_sentences h q e.key e.loss e.rates) (
        fit,
        (each.loss, (each.rates, (new_key es i d l lawful.distinct, (lt-leb 256 (size q) (omega arith), (le-ltb h.levels (length (kept p.ceiling (losses q ++ (e.loss ∷ [])))) (omega arith), tt))))),
      )

  pub enters_again : AllEnter h (opened h.levels p.ceiling p.shares) p.contracts
  enters_again = enters_next
