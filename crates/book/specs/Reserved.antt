-- What the places tell of a reserve, whatever lies there: the first kept level beside which the mix reaches the confidence.
use Rattle.std.specs.Prelude.{◌≡◌, ℕ, ◌+◌, ◌<◌, Bool, true, false, List, slice_index, Option, Some, None}
use Rattle.reckoning.specs.declared.grains.Grains.{Grains}
use Rattle.book.specs.declared.book.Book.{Book}
use Rattle.book.specs.Figures.{mixed_at, told_in}
use Rattle.book.specs.Places.{Places}
use Rattle.book.specs.Listed.{shares_of}
use Rattle.book.specs.Pricing.{reaches}

-- the bounds of the mix beside the level at place i
abbrev pub mix_beside : Book → List Grains → ℕ → Grains
mix_beside b rows i = mixed_at (shares_of b.shares) (told_in b.places rows (i + 1)) 0

-- calls that may answer so answer by the test
abbrev pub AnswersBy : (Grains → Bool → Type 0) → (Grains → Bool) → Type 0
AnswersBy post test = (g : Grains) (r : Bool) → post g r → r ≡ test g

-- a level that stands at one of the first n places
abbrev pub Among : List ℕ → ℕ → Option ℕ → Type 0
Among levels n (Some q) = (i : ℕ) × (i < n) × (slice_index levels i ≡ q)
Among levels n None = Unit {0}

-- the level at the first of n places at which the test holds; none, which is beyond: it holds at none of them
abbrev pub FirstOf : (ℕ → Bool) → List ℕ → ℕ → Option ℕ → Type 0
FirstOf test levels n (Some q) = (i : ℕ) × (i < n) × (slice_index levels i ≡ q) × (test i ≡ true) × ((j : ℕ) → j < i → test j ≡ false)
FirstOf test levels n None = (j : ℕ) → j < n → test j ≡ false

-- the first kept level beside which that count of the mix reaches c millionths
abbrev pub FirstReached : {V : Type 0} → (Grains → ℕ) → ℕ → Book → Places V → Option ℕ → Type 0
FirstReached count c b x found = FirstOf (λ i. reaches c (count (mix_beside b x.bounds i))) x.levels b.kept found
