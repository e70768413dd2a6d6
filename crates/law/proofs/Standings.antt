-- The recursion over the contracts gives, at each level, a value that stands for the outcomes of no greater loss.
use Rattle.std.proofs.Common.{◌≡◌, ℕ, zero, suc, ◌+◌, ◌-◌, ◌≤◌, Bool, true, false, cond, leb, List, [], ◌∷◌, ◌++◌, map, length, get_or, add-one, arith}
use mathlib.Core.List.{map-map}
use Rattle.std.specs.List.{AllByRecursion}
use Rattle.std.proofs.lemmas.List.{length_push, length-map, map_push, append_assoc, append-nil}
use Rattle.std.proofs.ByRecursion.{All-map, All-weaker}
use Rattle.std.proofs.lemmas.Bool.{le-leb}
use Rattle.reckoning.specs.Outcomes.{Family, either, outcomes, within}
use Rattle.reckoning.specs.Operations.{Operations}
use Rattle.book.specs.Plain.{Entry, Plain, size, scenarios, losses, rates}
use Rattle.book.specs.Values.{lagged, entered, values, terms, value}
use Rattle.law.specs.Exact.{family}
use Rattle.law.specs.WellFormed.{Rated, WellFormed}
use Rattle.book.proofs.Families.{outcomes_sized, within_either}

-- the laws of a reckoning that say what its operations stand for
pub record Meaning {V : Type 0} (ops : Operations V) (stands : V → List ℕ → Family → Type 0) : Type 0 where
  pub nothing_stands : (rates : List ℕ) → stands ops.nothing rates []
  pub whole_stands : stands ops.whole [] ([] ∷ [])
  pub blend_stands : (rate : ℕ) (u v : V) (rates : List ℕ) (us vs : Family) → rate ≤ 1000000 → length rates ≤ 255 → stands u rates us → stands v rates vs → stands (ops.blended rate u v) (rates ++ (rate ∷ [])) (either us vs)

-- a contract in one scenario: its loss beside its rate
abbrev Term : Type 0
Term = ℕ × ℕ

abbrev loss_of : Term → ℕ
loss_of c = c.0

abbrev rate_of : Term → ℕ
rate_of c = c.1

abbrev family_of : List Term → ℕ → Family
family_of cs k = within k (map loss_of cs) (outcomes (length cs))

family_none : (k : ℕ) → family_of [] k ≡ [] ∷ []
family_none k = rw (le-leb 0 k (omega arith))

family_push : (cs : List Term) (c : Term) (k : ℕ) → family_of (cs ++ (c ∷ [])) k ≡ either (family_of cs k) (lagged [] c.0 (family_of cs) k)
family_push cs c k =
    rw (map_push loss_of cs c, length_push cs c, add-one)
    (within_either (map loss_of cs) c.0 k (outcomes (length cs)) (rw (length-map cs loss_of) (outcomes_sized (length cs))))

module _ {V : Type 0} (ops : Operations V) (stands : V → List ℕ → Family → Type 0) (law : Meaning ops stands) where
  -- f has the value of the contracts cs at each level
  abbrev Valued : List Term → (ℕ → V) → Type 0
  Valued cs f = (k : ℕ) → stands (f k) (map rate_of cs) (family_of cs k)

  lagged_stands : (cs : List Term) (f : ℕ → V) → Valued cs f → (k w : ℕ) → stands (lagged ops.nothing w f k) (map rate_of cs) (lagged [] w (family_of cs) k)
  lagged_stands cs f before k w = cases (leb w k)
    where
      cases : (t : Bool) → stands (cond t (f (k - w)) ops.nothing) (map rate_of cs) (cond t (family_of cs (k - w)) [])
      cases true = before (k - w)
      cases false = law.nothing_stands (map rate_of cs)

  entered_stands : (cs : List Term) (c : Term) (f : ℕ → V) → c.1 ≤ 1000000 → length cs ≤ 255 → Valued cs f → Valued (cs ++ (c ∷ [])) (entered ops c.0 c.1 f)
  entered_stands cs c f small few before k =
      rw (map_push rate_of cs c, family_push cs c k)
      (law.blend_stands c.1 (f k) _ (map rate_of cs) _ _ small (rw (length-map cs rate_of) few) (before k) (lagged_stands cs f before k c.0))

  values_stand : (cs ds : List Term) (f : ℕ → V) → AllByRecursion (λ c. c.1 ≤ 1000000) ds → length cs + length ds ≤ 256 → Valued cs f → Valued (cs ++ ds) (values ops ds f)
  values_stand cs [] f small few before = rw (append-nil cs) before
  values_stand cs (d ∷ ds) f small few before =
      rw (← append_assoc cs (d ∷ []) ds)
      (values_stand (cs ++ (d ∷ [])) ds _ small.1 (rw (length_push cs d) (omega arith))
      (entered_stands cs d f small.0 (omega arith) before))

pub rate_at : (rs : List ℕ) (i : ℕ) → AllByRecursion (λ r. r ≤ 1000000) rs → get_or rs i 0 ≤ 1000000
rate_at [] i h = omega arith
rate_at (r ∷ rs) zero h = h.0
rate_at (r ∷ rs) (suc i) h = rate_at rs i h.1

-- of a list that is well formed, in scenario s
module _ (p : Plain) (formed : WellFormed p) (s : ℕ) where
  pub rates_small : AllByRecursion (λ r. r ≤ 1000000) (rates p s)
  rates_small =
      All-map (λ r. r ≤ 1000000) (λ e. get_or e.rates (s - 1) 0) p.contracts
      (All-weaker (Rated (scenarios p)) (λ e. get_or e.rates (s - 1) 0 ≤ 1000000) (λ e h. rate_at e.rates (s - 1) h.millionths) p.contracts formed.rated)

  terms_small : AllByRecursion (λ c. c.1 ≤ 1000000) (terms p s)
  terms_small =
      All-map (λ (c : Term). c.1 ≤ 1000000) (λ e. (e.loss, get_or e.rates (s - 1) 0)) p.contracts
      (All-weaker (Rated (scenarios p)) (λ e. get_or e.rates (s - 1) 0 ≤ 1000000) (λ e h. rate_at e.rates (s - 1) h.millionths) p.contracts formed.rated)

  length_terms : length (terms p s) ≡ size p
  length_terms = length-map p.contracts (λ e. (e.loss, get_or e.rates (s - 1) 0))

  terms_losses : map loss_of (terms p s) ≡ losses p
  terms_losses = map-map loss_of (λ (e : Entry). (e.loss, get_or e.rates (s - 1) 0)) p.contracts

  terms_rates : map rate_of (terms p s) ≡ rates p s
  terms_rates = map-map rate_of (λ (e : Entry). (e.loss, get_or e.rates (s - 1) 0)) p.contracts

  pub value_stands : {V : Type 0} (ops : Operations V) (stands : V → List ℕ → Family → Type 0) → Meaning ops stands → (k : ℕ) → stands (value ops p s k) (rates p s) (family p k)
  value_stands ops stands law k =
      let at_terms : stands (value ops p s k) (map rate_of (terms p s)) (family_of (terms p s) k) =
      values_stand ops stands law [] (terms p s) (λ _. ops.whole) terms_small (omega (arith, length_terms, formed.few)) (λ j. rw (family_none j) law.whole_stands) k in
      rw (terms_rates, terms_losses, length_terms) at at_terms
