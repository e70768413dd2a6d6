-- The kept levels of a book: the distinct losses of its outcomes, up to the ceiling.
use Rattle.std.specs.Prelude.{ℕ, zero, suc, ◌+◌, Bool, cond, List, [], ◌∷◌, ◌++◌, length, nat_eq}
use Rattle.reckoning.specs.Outcomes.{loss, outcomes}
use Rattle.book.specs.Some.{some}

-- the numbers below n that the test S holds of, in rising order
abbrev pub picked : (ℕ → Bool) → ℕ → List ℕ
picked S zero = []
picked S (suc n) = cond (S n) (picked S n ++ (n ∷ [])) (picked S n)

-- k is the loss of some outcome, of weight zero or not
abbrev pub comes_to : List ℕ → ℕ → Bool
comes_to losses k = some (λ o. nat_eq (loss losses o) k) (outcomes (length losses))

-- the distinct losses, up to the ceiling, of all outcomes, in rising order
abbrev pub kept : ℕ → List ℕ → List ℕ
kept ceiling losses = picked (comes_to losses) (ceiling + 1)
