-- A run grows by one call: what held of the calls so far holds with one call more.
use Rattle.std.proofs.Common.{◌≡◌, ℕ, ◌+◌, ◌-◌, ◌<◌, ◌≤◌, ◌≢◌, List, [], ◌∷◌, ◌++◌, length, get_or, take, drop, set, Some, None, Option, sym, refl, ap, ◌∙◌, subst, arith, get_or-set_other, get_or-set_same, below_more}
use Rattle.std.proofs.lemmas.List.{take_more, take-take, length-take, length-take-le, get_or-take, get_or_default, drop-drop, drop-set-lt}
use Rattle.reckoning.specs.Operations.{Operations}
use Rattle.reckoning.specs.Outcomes.{Family}
use Rattle.law.specs.declared.call.Call.{Call}
use Rattle.book.specs.declared.shown.Handed.{Handed}
use Rattle.book.specs.Places.{Places}
use Rattle.book.specs.Laid.{State, RowsOutside, Outside, Holds}
use Rattle.law.specs.Law.{TellsTruth, CarriedOut, Law}
use Rattle.book.specs.Listed.{listed}
use Rattle.book.specs.Merging.{row_of}
use Rattle.book.specs.Plain.{Plain, scenarios, unopened, opened}
use Rattle.book.specs.Refusals.{refusal_of}
use Rattle.law.specs.Runs.{declines_open, changed, unless, after_open, after, afters, Told, Right, count_kept, most_kept, Sound, One}
use Rattle.law.specs.Truth.{FiguresStand}
use Rattle.law.proofs.Formed.{opened_sound, afters_sound, afters_shares, after_opened}
use Rattle.book.proofs.Layouts.{kept_none}
use Rattle.law.proofs.Tellings.{sound_tells_truth}

-- ---- places outside the kept levels
drop_further : {X : Type 0} (n m : ℕ) (xs ys : List X) → n ≤ m → drop n xs ≡ drop n ys → drop m xs ≡ drop m ys
drop_further n m xs ys le same =
    let sum : n + (m - n) ≡ m = omega arith in
    subst (λ (k : ℕ). drop k xs ≡ drop k ys) sum (sym (drop-drop (m - n) n xs) ∙ ap (drop (m - n)) same ∙ drop-drop (m - n) n ys)

module _ (s p : ℕ) where
  rows_outside_more : {X : Type 0} (n m : ℕ) (old new : List X) → n ≤ m → RowsOutside s p n old new → RowsOutside s p m old new
  rows_outside_more n m old new le h = record { each = λ i l. drop_further n m (row_of p i new) (row_of p i old) le (h.each i l); rest = h.rest }

  rows_outside_on : {X : Type 0} (n : ℕ) (old mid new : List X) → RowsOutside s p n old mid → RowsOutside s p n mid new → RowsOutside s p n old new
  rows_outside_on n old mid new h k = record { each = λ i l. k.each i l ∙ h.each i l; rest = k.rest ∙ h.rest }

  -- outside of more levels, and one change after another
  pub outside_more : {V : Type 0} (n m : ℕ) (old new : Places V) → n ≤ m → Outside s p n old new → Outside s p m old new
  outside_more n m old new le h = record {
    levels = drop_further n m new.levels old.levels le h.levels;
    bounds = rows_outside_more n m old.bounds new.bounds le h.bounds;
    values = rows_outside_more n m old.values new.values le h.values;
  }

  pub outside_on : {V : Type 0} (n : ℕ) (old mid new : Places V) → Outside s p n old mid → Outside s p n mid new → Outside s p n old new
  outside_on n old mid new h k = record {
    levels = k.levels ∙ h.levels;
    bounds = rows_outside_on n old.bounds mid.bounds new.bounds h.bounds k.bounds;
    values = rows_outside_on n old.values mid.values new.values h.values k.values;
  }

  pub outside_same : {V : Type 0} (n : ℕ) (old : Places V) → Outside s p n old old
  outside_same n old = record { levels = refl; bounds = record { each = λ i l. refl; rest = refl }; values = record { each = λ i l. refl; rest = refl } }

-- ---- the list after one call more
module _ (h : Handed) where
  afters_append : (p : Plain) (cs ds : List Call) → afters h p (cs ++ ds) ≡ afters h (afters h p cs) ds
  afters_append p [] ds = refl
  afters_append p (c ∷ cs) ds = afters_append (after h p c) cs ds

  most_kept_first : (p : Plain) (cs : List Call) → count_kept p ≤ most_kept h p cs
  most_kept_first p [] = omega arith
  most_kept_first p (c ∷ cs) = omega arith

  most_kept_front : (p : Plain) (cs ds : List Call) → most_kept h p cs ≤ most_kept h p (cs ++ ds)
  most_kept_front p [] ds = most_kept_first p ds
  most_kept_front p (c ∷ cs) ds = omega (arith, most_kept_front (after h p c) cs ds)

  most_kept_last : (p : Plain) (cs : List Call) → count_kept (afters h p cs) ≤ most_kept h p cs
  most_kept_last p [] = omega arith
  most_kept_last p (c ∷ cs) = omega (arith, most_kept_last (after h p c) cs)

  -- c is the call at place i
  module _ (p : Plain) (calls : List Call) (i : ℕ) (c : Call) (l : i < length calls) (at : c ≡ get_or calls i c) where
    taken : take (i + 1) calls ≡ take i calls ++ (c ∷ [])
    taken = take_more calls i c l ∙ ap (λ (d : Call). take i calls ++ (d ∷ [])) (sym at)

    pub afters_more : afters h p (take (i + 1) calls) ≡ after h (afters h p (take i calls)) c
    afters_more = ap (afters h p) taken ∙ afters_append p (take i calls) (c ∷ [])

    pub most_kept_more : most_kept h p (take i calls) ≤ most_kept h p (take (i + 1) calls)
    most_kept_more = subst (λ (cs : List Call). most_kept h p (take i calls) ≤ most_kept h p cs) (sym taken) (most_kept_front p (take i calls) (c ∷ []))

-- ---- one call
module _ {V : Type 0} (ops : Operations V) (h : Handed) (x y : State V) (c : Call) (a : Told V) (one : One ops h x y c a) (held : Holds ops x.book x.places) where
  pub one_list : listed y.book ≡ after h (listed x.book) c
  one_list =
      subst (λ (d : Option ℕ). listed y.book ≡ unless d (listed x.book) (changed (listed x.book) c)) (one.right held).declined (told (refusal_of a) refl)
    where
      told : (d : Option ℕ) → refusal_of a ≡ d → listed y.book ≡ unless d (listed x.book) (changed (listed x.book) c)
      told (Some n) e = ap (λ (z : State V). listed z.book) (one.unchanged n e)
      told None e = one.list e

  pub one_outside : Outside (scenarios (listed x.book)) h.levels (count_kept (listed y.book)) x.places y.places
  one_outside = told (refusal_of a) refl
    where
      told : (d : Option ℕ) → refusal_of a ≡ d → Outside (scenarios (listed x.book)) h.levels (count_kept (listed y.book)) x.places y.places
      told (Some n) e =
          subst (λ (z : State V). Outside (scenarios (listed x.book)) h.levels (count_kept (listed z.book)) x.places z.places) (sym (one.unchanged n e))
          (outside_same (scenarios (listed x.book)) h.levels (count_kept (listed x.book)) x.places)
      told None e =
          subst (λ (n : ℕ). Outside (scenarios (listed x.book)) h.levels n x.places y.places) (one.again held).levels.count (one.outside e)

right_same : {V : Type 0} (ops : Operations V) (h : Handed) (p q : Plain) (c d : Call) (a b : Told V) → p ≡ q → c ≡ d → a ≡ b → Right ops h p c a → Right ops h q d b
right_same {V} ops h p q c d a b list call answer r =
    subst (λ (z : Told V). Right ops h q d z) answer (subst (λ (z : Call). Right ops h q z a) call (subst (λ (z : Plain). Right ops h z c a) list r))

-- ---- a run
module _ {V : Type 0} (ops : Operations V) (stands : V → List ℕ → Family → Type 0) (means : FiguresStand ops stands) (h : Handed) where
  always_true : (p : Plain) (cs : List Call) → Sound h p → TellsTruth ops stands h (afters h p cs)
  always_true p cs sound = sound_tells_truth ops stands means h (afters h p cs) (afters_sound h p cs sound)

  -- before any call
  pub carried_none : (p : Plain) (x : State V) (old : List (Told V)) → Sound h p → listed x.book ≡ p → Holds ops x.book x.places → CarriedOut ops stands h p [] x x old old
  carried_none p x old sound list held = record {
    each_right = λ i c a l. absurd (omega arith);
    always_true = λ i l. always_true p (take i []) sound;
    list = list;
    holds = held;
    outside = outside_same (scenarios p) h.levels (count_kept p) x.places;
    rest = refl;
  }

  -- from an earlier state: places outside n levels are those that the run found, and the list keeps as many
  carried_from : (p : Plain) (calls : List Call) (x y z : State V) (old new : List (Told V)) (n : ℕ) → n ≤ count_kept p → Outside (scenarios p) h.levels n x.places y.places →
      CarriedOut ops stands h p calls y z old new → CarriedOut ops stands h p calls x z old new
  carried_from p calls x y z old new n few outside run = record {
    each_right = run.each_right;
    always_true = run.always_true;
    list = run.list;
    holds = run.holds;
    outside =
        outside_on (scenarios p) h.levels (most_kept h p calls) x.places y.places z.places
        (outside_more (scenarios p) h.levels n (most_kept h p calls) x.places y.places (omega (arith, most_kept_first h p calls)) outside)
        run.outside;
    rest = run.rest;
  }

  -- from the state before an accepted opening
  pub law_opened : (ceiling : ℕ) (shares : List ℕ) (calls : List Call) (x y z : State V) (old new : List (Told V)) → declines_open h ceiling shares ≡ None →
      listed y.book ≡ opened h.levels ceiling shares → Outside (length shares) h.levels 1 x.places y.places →
      CarriedOut ops stands h (listed y.book) calls y z old new → CarriedOut ops stands h (after_open h unopened ceiling shares) calls x z old new
  law_opened ceiling shares calls x y z old new accepted list outside run =
      let one : 1 ≤ count_kept (opened h.levels ceiling shares) = omega (arith, ap length (kept_none ceiling)) in
      subst (λ (p : Plain). CarriedOut ops stands h p calls x z old new) (sym (after_opened h unopened ceiling shares accepted))
      (carried_from (opened h.levels ceiling shares) calls x y z old new 1 one outside (subst (λ (p : Plain). CarriedOut ops stands h p calls y z old new) list run))

  -- one call more, at place i
  module _ (p : Plain) (sound : Sound h p) (calls : List Call) (x y z : State V) (old new : List (Told V)) (i : ℕ) (c : Call) (a : Told V)
      (l : i < length calls) (room : i < length new) (at : c ≡ get_or calls i c)
      (law : CarriedOut ops stands h p (take i calls) x y old new) (one : One ops h y z c a) where
    right_more : (k : ℕ) (d : Call) (b : Told V) → k < i + 1 → Right ops h (afters h p (take k (take (i + 1) calls))) (get_or (take (i + 1) calls) k d) (get_or (set new i a) k b)
    right_more k d b within =
        below_more (λ j. Right ops h (afters h p (take j (take (i + 1) calls))) (get_or (take (i + 1) calls) j d) (get_or (set new i a) j b)) i
        (λ j less.
        let other : j ≢ i = omega arith in
        let told : get_or (set new i a) j b ≡ get_or new j b = rw get_or-set_other in
        right_same ops h _ _ _ _ _ _
        (ap (afters h p) (take-take j i calls (omega arith) ∙ sym (take-take j (i + 1) calls (omega arith))))
        (get_or-take i calls j d less ∙ sym (get_or-take (i + 1) calls j d (omega arith)))
        (sym told)
        (law.each_right j d b (omega (arith, length-take-le i calls (omega arith)))))
        (let told : get_or (set new i a) i b ≡ a = rw get_or-set_same in
        right_same ops h _ _ _ _ _ _
        (law.list ∙ ap (afters h p) (sym (take-take i (i + 1) calls (omega arith))))
        (at ∙ get_or_default calls i c d l ∙ sym (get_or-take (i + 1) calls i d (omega arith)))
        (sym told)
        (one.right law.holds))
        k within

    list_more : listed z.book ≡ afters h p (take (i + 1) calls)
    list_more = one_list ops h y z c a one law.holds ∙ ap (λ (q : Plain). after h q c) law.list ∙ sym (afters_more h p calls i c l at)

    outside_call : Outside (scenarios p) h.levels (most_kept h p (take (i + 1) calls)) y.places z.places
    outside_call =
        let same : scenarios (listed y.book) ≡ scenarios p = ap scenarios law.list ∙ ap length (afters_shares h p (take i calls)) in
        subst (λ (s : ℕ). Outside s h.levels (most_kept h p (take (i + 1) calls)) y.places z.places) same
        (outside_more (scenarios (listed y.book)) h.levels (count_kept (listed z.book)) (most_kept h p (take (i + 1) calls)) y.places z.places
        (subst (λ (q : Plain). count_kept q ≤ most_kept h p (take (i + 1) calls)) (sym list_more) (most_kept_last h p (take (i + 1) calls)))
        (one_outside ops h y z c a one law.holds))

    rest_more : drop (length (take (i + 1) calls)) (set new i a) ≡ drop (length (take (i + 1) calls)) old
    rest_more =
        let before : length (take i calls) ≡ i = length-take-le i calls (omega arith) in
        let now : length (take (i + 1) calls) ≡ i + 1 = length-take-le (i + 1) calls (omega arith) in
        let was : drop i new ≡ drop i old = subst (λ (n : ℕ). drop n new ≡ drop n old) before law.rest in
        subst (λ (n : ℕ). drop n (set new i a) ≡ drop n old) (sym now)
        (drop-set-lt (i + 1) new i a (omega arith) ∙ drop_further i (i + 1) new old (omega arith) was)

    pub law_more : CarriedOut ops stands h p (take (i + 1) calls) x z old (set new i a)
    law_more = record {
      each_right = λ k d b less. right_more k d b (omega (arith, length-take (i + 1) calls));
      always_true = λ k less. always_true p (take k (take (i + 1) calls)) sound;
      list = list_more;
      holds = one.again law.holds;
      outside =
          outside_on (scenarios p) h.levels (most_kept h p (take (i + 1) calls)) x.places y.places z.places
          (outside_more (scenarios p) h.levels (most_kept h p (take i calls)) (most_kept h p (take (i + 1) calls)) x.places y.places (most_kept_more h p calls i c l at) law.outside)
          outside_call;
      rest = rest_more;
    }

  -- the same where the call was handed as many places
  pub law_step : (p : Plain) → Sound h p → (calls : List Call) (x y z : State V) (old new : List (Told V)) (i : ℕ) (c : Call) (a : Told V) →
      i < length calls → i < length new → c ≡ get_or calls i c → CarriedOut ops stands h p (take i calls) x y old new → (k : Handed) → k ≡ h → One ops k y z c a →
      CarriedOut ops stands h p (take (i + 1) calls) x z old (set new i a)
  law_step p sound calls x y z old new i c a l room at law k same one = law_more p sound calls x y z old new i c a l room at law (subst (λ (q : Handed). One ops q y z c a) same one)

-- ---- the law
-- an accepted opening, and then calls that were handed as many places
pub law_run : {V : Type 0} (ops : Operations V) (stands : V → List ℕ → Family → Type 0) (means : FiguresStand ops stands) (h : Handed) (ceiling : ℕ) (shares : List ℕ) (calls : List Call) (x y z : State V) (old new : List (Told V)) →
    None ≡ declines_open h ceiling shares → listed y.book ≡ opened h.levels ceiling shares → Holds ops y.book y.places → Outside (length shares) h.levels 1 x.places y.places →
    (k : Handed) → k ≡ h → (Sound k (listed y.book) → Holds ops y.book y.places → CarriedOut ops stands k (listed y.book) calls y z old new) →
    Law ops stands h ceiling shares None calls x z old new
law_run {V} ops stands means h ceiling shares calls x y z old new accepted list held outside k same carried =
    let sound : Sound h (listed y.book) = subst (Sound h) (sym list) (opened_sound h ceiling shares (sym accepted)) in
    let run : CarriedOut ops stands h (listed y.book) calls y z old new =
    subst (λ (q : Handed). CarriedOut ops stands q (listed y.book) calls y z old new) same (carried (subst (λ (q : Handed). Sound q (listed y.book)) (sym same) sound) held) in
    record {
      opening = accepted;
      unchanged = λ n declined. let absent : ◌≡◌ {A = ℕ} 0 1 = cc in absurd (omega arith);
      unanswered = λ n declined. let absent : ◌≡◌ {A = ℕ} 0 1 = cc in absurd (omega arith);
      run = λ _. law_opened ops stands means h ceiling shares calls x y z old new (sym accepted) list outside run;
    }
