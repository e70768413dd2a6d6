-- The contracts of a file entered one after the other.
use Rattle.std.proofs.Common.{◌≡◌, ℕ, ◌+◌, ◌<◌, ◌≤◌, List, [], ◌∷◌, ◌++◌, length, get_or, take, Some, None, Ok, Err, sym, refl, ap, ◌∙◌, subst, ⊎_elim, append_assoc, arith}
use Rattle.std.proofs.lemmas.List.{length_push, take_at, take-append-le, get_or_append_left, get_or_push, map_push}
use Rattle.std.proofs.lemmas.Bool.{cases_lt}
use Rattle.reckoning.specs.Operations.{Operations}
use Rattle.book.specs.declared.shown.Handed.{Handed}
use Rattle.book.specs.Laid.{State, Holds, Outside}
use Rattle.book.specs.Levels.{kept}
use Rattle.book.specs.Listed.{listed}
use Rattle.book.specs.Plain.{Entry, Plain, scenarios, losses, entry, with_entry, with_entries}
use Rattle.book.specs.Refusals.{number_of}
use Rattle.book.proofs.Rebuilds.{outside_more, outside_same}
use Rattle.book.proofs.Subsets.{front_keeps_no_more}
use Rattle.tariff.specs.declared.refusal.BookFault.{BookFault}
use Rattle.tariff.specs.declared.refusal.FileFault.{FileFault}
use Rattle.tariff.specs.declared.refusal.FileFault.TheVariants.{Length, Trailer, Line, Shares, Count, Book}
use Rattle.tariff.specs.Filed.{declines_entry, AllEnter, EnteredAll}
use Rattle.tariff.specs.Forms.{ContractsTo}
use Rattle.tariff.specs.Grammar.{LinesFrom}
use Rattle.tariff.specs.Reading.{EnteredOne, DeclinedOne, EntersLine, PartEntered, PartDeclined, EntersPart}
use Rattle.tariff.proofs.ContractLines.{contracts_to_more, contracts_end, contracts_to_end}

-- one contract more keeps no fewer levels
kept_grows : (p : Plain) (e : Entry) → length (kept p.ceiling (losses p)) ≤ length (kept p.ceiling (losses (with_entry p e)))
kept_grows p e =
    let more = map_push (λ (x : Entry). x.loss) p.contracts e in
    let front : take (length (losses p)) (losses (with_entry p e)) ≡ losses p = ap (take (length (losses p))) more ∙ take_at (losses p) (e.loss ∷ []) (length (losses p)) refl in
    subst (λ (ws : List ℕ). length (kept p.ceiling ws) ≤ length (kept p.ceiling (losses (with_entry p e)))) front
    (front_keeps_no_more p.ceiling (length (losses p)) (losses (with_entry p e)))

module _ (h : Handed) (p : Plain) where
  -- behind those that are accepted one more is
  all_enter_more : (entries : List Entry) (e : Entry) → AllEnter h p entries → declines_entry h (with_entries p entries) e ≡ None → AllEnter h p (entries ++ (e ∷ []))
  all_enter_more entries e all next i d l =
      ⊎_elim
      (λ (before : i < length entries).
      let front : i ≤ length entries = omega arith in
      ap (λ (es : List Entry). declines_entry h (with_entries p es) (get_or (entries ++ (e ∷ [])) i d)) (take-append-le i entries (e ∷ []) front)
      ∙ ap (declines_entry h (with_entries p (take i entries))) (get_or_append_left entries (e ∷ []) d i before)
      ∙ all i d before)
      (λ (past : length entries ≤ i).
      let here : length entries ≡ i = omega (arith, length_push entries e) in
      ap (λ (es : List Entry). declines_entry h (with_entries p es) (get_or (entries ++ (e ∷ [])) i d)) (take_at entries (e ∷ []) i here)
      ∙ ap (declines_entry h (with_entries p entries)) (get_or_push entries e d i here)
      ∙ next)
      (cases_lt i (length entries))

-- what the entering of a contract promises, told of the same rates
module _ {V : Type 0} (ops : Operations V) (h : Handed) (k w : ℕ) (given rates : List ℕ) (same : given ≡ rates) (x y : State V) where
  pub one_entered : None ≡ declines_entry h (listed x.book) (entry k w given) → listed y.book ≡ with_entry (listed x.book) (entry k w given) → Holds ops y.book y.places →
      Outside (scenarios (listed x.book)) h.levels y.book.kept x.places y.places → EnteredOne ops h (entry k w rates) x y
  one_entered accepted list held outside =
      subst (λ (rs : List ℕ). EnteredOne ops h (entry k w rs) x y) same (record { accepted = sym accepted; list = list; holds = held; outside = outside })

  pub one_declined : (place : ℕ) (fault : BookFault) → Some (number_of fault.refusal) ≡ declines_entry h (listed x.book) (entry k w given) → fault.place ≡ place → y ≡ x →
      DeclinedOne h (entry k w rates) place x y fault
  one_declined place fault declined told unchanged =
      subst (λ (rs : List ℕ). DeclinedOne h (entry k w rs) place x y fault) same (record { declined = sym declined; told = told; unchanged = unchanged })

module _ {V : Type 0} (ops : Operations V) (h : Handed) where
  entered_none : (x : State V) → (listed x.book).contracts ≡ [] → Holds ops x.book x.places → EnteredAll ops h (listed x.book) [] x x
  entered_none x empty held = record {
    enter = λ i d l. absurd (omega arith);
    list = ap (with_entries (listed x.book)) empty;
    holds = held;
    outside = outside_same (scenarios (listed x.book)) h.levels x.book.kept x.places;
  }

  kept_counts : (e : Entry) (y z : State V) → Holds ops y.book y.places → EnteredOne ops h e y z → y.book.kept ≤ z.book.kept
  kept_counts e y z held one =
      let before = held.levels.count in
      let after = one.holds.levels.count ∙ ap (λ (q : Plain). length (kept q.ceiling (losses q))) one.list in
      omega (arith, kept_grows (listed y.book) e)

  entered_more : (p : Plain) (entries : List Entry) (e : Entry) (x y z : State V) → EnteredAll ops h p entries x y → EnteredOne ops h e y z → EnteredAll ops h p (entries ++ (e ∷ [])) x z
  entered_more p entries e x y z all one = record {
    enter = all_enter_more h p entries e all.enter (ap (λ (q : Plain). declines_entry h q e) (sym all.list) ∙ one.accepted);
    list = one.list ∙ ap (λ (q : Plain). with_entry q e) all.list;
    holds = one.holds;
    outside =
        outside_more (scenarios p) h.levels y.book.kept z.book.kept x.places y.places z.places (kept_counts e y z all.holds one) all.outside
        (subst (λ (k : ℕ). Outside k h.levels z.book.kept y.places z.places) (ap scenarios all.list) one.outside);
  }

  -- up to a place the contracts of the part are entered, and C lines follow
  pub record SoFar (part : List ℕ) (n place : ℕ) (x y : State V) : Type 0 where
    pub front : List Entry
    pub before : ContractsTo part n place front
    pub entered : EnteredAll ops h (listed x.book) front x y
    pub rest : LinesFrom part place 67 n

  module _ (part : List ℕ) (n : ℕ) (two : 2 ≤ n) (x : State V) where
    pub so_far_none : LinesFrom part 0 67 n → (listed x.book).contracts ≡ [] → Holds ops x.book x.places → SoFar part n 0 x x
    so_far_none lines empty held = record { front = []; before = record { inside = omega arith; each = tt; text = refl }; entered = entered_none x empty held; rest = lines }

    pub so_far_more : (base place next : ℕ) (y z : State V) (g : Handed) → g ≡ h → SoFar part n place x y → EntersLine ops g part base n place y z (Ok next) → SoFar part n next x z
    so_far_more base place next y z g same so (e, line, entered) =
        let one = subst (λ (k : Handed). EnteredOne ops k e y z) same entered in
        record {
          front = so.front ++ (e ∷ []);
          before = contracts_to_more n two part place next so.front e so.before line.numbers line.line line.end line.inside;
          entered = entered_more (listed x.book) so.front e x y z so.entered one;
          rest = line.rest;
        }

    pub part_entered : (place : ℕ) (y : State V) → length part ≤ place → SoFar part n place x y → PartEntered ops h part n x y
    part_entered place y past so =
        let inside = so.before.inside in
        let end : place ≡ length part = omega arith in
        record { entries = so.front; lines = subst (λ (k : ℕ). ContractsTo part n k so.front) end so.before; entered = so.entered }

    -- the line that is declined
    declined_here : (base place : ℕ) (y z : State V) (fault : BookFault) → SoFar part n place x y → EntersLine ops h part base n place y z (Err (Book fault)) → PartDeclined ops h part base n x z fault
    declined_here base place y z fault so (e, (next, line, one)) =
        let more = contracts_to_more n two part place next so.front e so.before line.numbers line.line line.end line.inside in
        let rest = contracts_to_end n two part next (so.front ++ (e ∷ [])) more line.rest in
        record {
          front = so.front;
          next = e;
          rest = rest.0;
          lines = subst (ContractsTo part n (length part)) (append_assoc so.front (e ∷ []) rest.0) rest.1;
          entered = subst (EnteredAll ops h (listed x.book) so.front x) (sym one.unchanged) so.entered;
          declined = ap (λ (q : Plain). declines_entry h q e) (sym so.entered.list) ∙ one.declined;
          told = one.told ∙ ap (λ (k : ℕ). base + k) (contracts_end n two part place so.front so.before);
        }

    pub part_declined : (base place : ℕ) (y z : State V) (g : Handed) (e : FileFault) → g ≡ h → SoFar part n place x y → EntersLine ops g part base n place y z (Err e) →
        EntersPart ops h part base n x z (Err e)
    part_declined base place y z g Length same so x = absurd x
    part_declined base place y z g (Trailer p) same so x = absurd x
    part_declined base place y z g (Line f) same so x = absurd x
    part_declined base place y z g (Shares p) same so x = absurd x
    part_declined base place y z g (Count p) same so x = absurd x
    part_declined base place y z g (Book f) same so x = declined_here base place y z f so (subst (λ (k : Handed). EntersLine ops k part base n place y z (Err (Book f))) same x)
