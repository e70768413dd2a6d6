-- The places that a call is lent, and what they hold.
use Rattle.std.specs.Prelude.{◌≡◌, ℕ, ◌*◌, ◌≤◌, List, length}
use Rattle.reckoning.specs.declared.grains.Grains.{Grains}
use Rattle.book.specs.declared.shown.Handed.{Handed}
use Rattle.book.specs.declared.places.Lent.{Lent}
use Rattle.book.specs.declared.shown.Shown.{Shown}

-- what lies in the places
pub record Places (V : Type 0) : Type 0 where
  pub levels : List ℕ
  pub bounds : List Grains
  pub values : List V

abbrev pub places_of : {V : Type 0} → List ℕ → List Grains → List V → Places V
places_of l b v = record { levels = l; bounds = b; values = v }

abbrev pub held : {V : Type 0} → Lent V → Places V
held x = places_of x.levels.now x.bounds.now x.values.now

abbrev pub shown : {V : Type 0} → Shown V → Places V
shown x = places_of x.levels.now x.bounds.now x.values.now

abbrev pub handed : ℕ → ℕ → ℕ → Handed
handed l b v = record { levels = l; bounds = b; values = v }

-- how many places there are
abbrev pub handed_of : {V : Type 0} → Places V → Handed
handed_of x = handed (length x.levels) (length x.bounds) (length x.values)

-- there are rows of p value places for each of n scenarios
abbrev pub HasRows : ℕ → ℕ → Handed → Type 0
HasRows n p h = (n * p ≤ h.bounds) × (n * p ≤ h.values)

-- they are still the places that were lent, and as many
pub record SamePlaces {V : Type 0} (old new : Lent V) : Type 0 where
  pub levels : new.levels.ghost_name ≡ old.levels.ghost_name
  pub bounds : new.bounds.ghost_name ≡ old.bounds.ghost_name
  pub values : new.values.ghost_name ≡ old.values.ghost_name
  pub count : handed_of (held new) ≡ handed_of (held old)
