-- Where a key stands in the list.
use Rattle.std.specs.Prelude.{ℕ, suc, cond, List, [], ◌∷◌, Some, None, Option}
use Rattle.book.specs.Plain.{Entry, same_key}

-- the place of the first contract of key k, where the list begins at place i
abbrev pub place_from : ℕ → ℕ → List Entry → Option ℕ
place_from i k [] = None
place_from i k (e ∷ es) = cond (same_key e.key k) (Some i) (place_from (suc i) k es)

-- from 0
abbrev pub place_of : ℕ → List Entry → Option ℕ
place_of k es = place_from 0 k es
