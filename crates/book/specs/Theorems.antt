-- What the kept levels and the values are, in the subject's words.
use Rattle.std.specs.Prelude.{◌≡◌, ℕ, ◌+◌, ◌<◌, ◌≤◌, List, length, take, slice_index}
use Rattle.std.specs.List.{ContainsAt}
use Rattle.reckoning.specs.Operations.{Operations}
use Rattle.reckoning.specs.Outcomes.{Outcome, loss, outcomes}
use Rattle.book.specs.Levels.{picked, kept}
use Rattle.book.specs.Merging.{reached, only_zero, Flat}
use Rattle.book.specs.Plain.{Plain, losses}
use Rattle.book.specs.Told.{found_below}
use Rattle.book.specs.Values.{value}

-- each greater than those before it
abbrev pub Rising : List ℕ → Type 0
Rising xs = (i j : ℕ) → i < j → j < length xs → slice_index xs i < slice_index xs j

abbrev pub AllAtMost : ℕ → List ℕ → Type 0
AllAtMost c xs = (i : ℕ) → i < length xs → slice_index xs i ≤ c

-- an outcome over contracts of these losses that comes to x
pub record OutcomeOf (losses : List ℕ) (x : ℕ) : Type 0 where
  pub outcome : Outcome
  pub member : ContainsAt (outcomes (length losses)) outcome
  pub comes : loss losses outcome ≡ x

abbrev pub KeptRise : Type 0
KeptRise = (ceiling : ℕ) (losses : List ℕ) → Rising (kept ceiling losses)

abbrev pub KeptUnderCeiling : Type 0
KeptUnderCeiling = (ceiling : ℕ) (losses : List ℕ) → AllAtMost ceiling (kept ceiling losses)

-- the kept levels are the losses, up to the ceiling, of all outcomes
abbrev pub KeptAreLosses : Type 0
KeptAreLosses =
    (ceiling : ℕ) (losses : List ℕ) (x : ℕ) →
    (ContainsAt (kept ceiling losses) x → (x ≤ ceiling) × OutcomeOf losses x) × (x ≤ ceiling → OutcomeOf losses x → ContainsAt (kept ceiling losses) x)

-- the merge, which widens the levels by one contract after the other, comes to the kept levels
abbrev pub KeptByMerging : Type 0
KeptByMerging = (ceiling : ℕ) (losses : List ℕ) → kept ceiling losses ≡ picked (reached only_zero losses) (ceiling + 1)

-- values change only at levels that outcomes come to
abbrev pub ValuesAreSteps : {V : Type 0} → Operations V → Type 0
ValuesAreSteps m = (p : Plain) (s : ℕ) → Flat (reached only_zero (losses p)) (value m p s)

-- the first m of n levels are those below x
pub record Splits (levels : List ℕ) (n x m : ℕ) : Type 0 where
  pub within : m ≤ n
  pub below : (i : ℕ) → i < m → slice_index levels i < x
  pub above : (i : ℕ) → m ≤ i → i < n → x ≤ slice_index levels i

-- on levels that rise, the look-up by halving finds how many lie below x
abbrev pub HalvingSplits : Type 0
HalvingSplits = (levels : List ℕ) (n x : ℕ) → n ≤ length levels → Rising (take n levels) → Splits levels n x (found_below levels n x)
