-- What the places tell, whatever lies there: a level is looked up by halving, and the value beside it is read.
use Rattle.std.specs.Prelude.{ℕ, zero, suc, ◌+◌, ◌-◌, ◌/◌, cond, List, nat_lt, slice_index}
use Rattle.reckoning.specs.declared.grains.Grains.{Grains}
use Rattle.reckoning.specs.Operations.{Operations}
use Rattle.book.specs.declared.book.Book.{Book}
use Rattle.book.specs.Figures.{told_at, told_in, mixed_at}
use Rattle.book.specs.Places.{Places}
use Rattle.book.specs.Listed.{shares_of}
use Rattle.book.specs.Merging.{row_of}

abbrev pub middle : ℕ → ℕ → ℕ
middle low high = low + (high - low) / 2

-- the first place from low below high whose level is not below x, by so many halvings at most
abbrev pub halved : ℕ → List ℕ → ℕ → ℕ → ℕ → ℕ
halved zero levels x low high = low
halved (suc turns) levels x low high =
    cond (nat_lt low high)
    (cond (nat_lt (slice_index levels (middle low high)) x) (halved turns levels x (middle low high + 1) high) (halved turns levels x low (middle low high)))
    low

-- how many of the first n levels the look-up finds below x
abbrev pub found_below : List ℕ → ℕ → ℕ → ℕ
found_below levels n x = halved n levels x 0 n

-- the value of scenario s, from 1, beside the last level that is found at or below k
abbrev pub row_told : {V : Type 0} → (V → V) → Operations V → Book → List ℕ → List V → ℕ → ℕ → V
row_told reading ops b levels rows s k = told_at reading ops.nothing (row_of b.places (s - 1) rows) (found_below levels b.kept (k + 1))

-- the value, the bounds and the chance of scenario s at level k, as the places tell them
abbrev pub value_of : {V : Type 0} → (V → V) → Operations V → Book → Places V → ℕ → ℕ → V
value_of reading ops b x s k = row_told reading ops b x.levels x.values s k

abbrev pub bounds_of : {V : Type 0} → Book → Places V → ℕ → ℕ → Grains
bounds_of b x s k = told_in b.places x.bounds (found_below x.levels b.kept (k + 1)) s

abbrev pub chance_of : {V : Type 0} → Book → Places V → ℕ → ℕ → Grains
chance_of b x s k = mixed_at (shares_of b.shares) (λ i. bounds_of b x i k) s
