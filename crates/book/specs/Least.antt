-- The least level at which a test holds.
use Rattle.std.specs.Prelude.{◌≡◌, ℕ, zero, suc, ◌<◌, ◌≤◌, Bool, true, false, cond, Option, Some, None}

-- some level q: the test holds there and at no level below; none, which is beyond: it holds at no level up to the ceiling
abbrev pub Least : (ℕ → Bool) → ℕ → Option ℕ → Type 0
Least test ceiling (Some q) = (q ≤ ceiling) × (test q ≡ true) × ((k : ℕ) → k < q → test k ≡ false)
Least test ceiling None = (k : ℕ) → k ≤ ceiling → test k ≡ false

-- the first level from 0 to the ceiling at which the test holds
abbrev pub least : (ℕ → Bool) → ℕ → Option ℕ
least test zero = cond (test zero) (Some zero) None
least test (suc n) = elim (least test n) [ Some q ↦ Some q | None ↦ cond (test (suc n)) (Some (suc n)) None ]

-- the one level is not above the other; beyond is above all levels
abbrev pub NotAbove : Option ℕ → Option ℕ → Type 0
NotAbove (Some a) (Some b) = a ≤ b
NotAbove (Some a) None = Unit {0}
NotAbove None (Some b) = ⊥
NotAbove None None = Unit {0}

-- least finds what its name says, and nothing else is least
pub record LeastIsLeast : Type 0 where
  pub is_least : (test : ℕ → Bool) (ceiling : ℕ) → Least test ceiling (least test ceiling)
  pub only_one : (test : ℕ → Bool) (ceiling : ℕ) (found : Option ℕ) → Least test ceiling found → found ≡ least test ceiling
