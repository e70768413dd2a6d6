-- What the places tell of a layer, whatever lies there: the level at each place counts for the stretch up to the next one.
use Rattle.std.specs.Prelude.{ℕ, zero, suc, ◌+◌, ◌-◌, ◌*◌, min, max, cond, List, nat_lt, slice_index}
use Rattle.reckoning.specs.declared.grains.Grains.{Grains}
use Rattle.book.specs.declared.book.Book.{Book}
use Rattle.book.specs.Reserved.{mix_beside}

-- where the stretch from a on ends, of the first n levels the next being that at place i: there, and at t at the latest
abbrev pub stretch_end : List ℕ → ℕ → ℕ → ℕ → ℕ → ℕ
stretch_end levels n i a t = max a (min t (cond (nat_lt i n) (slice_index levels i) t))

-- the width of each stretch times what is left beside its level, summed over m of n levels from place i and level a on
abbrev pub stretched : (ℕ → ℕ) → List ℕ → ℕ → ℕ → ℕ → ℕ → ℕ → ℕ
stretched left levels n zero i a t = 0
stretched left levels n (suc m) i a t =
    (stretch_end levels n (i + 1) a t - a) * left i + stretched left levels n m (i + 1) (stretch_end levels n (i + 1) a t) t

-- what one count of the mix leaves of certainty from level d to t
abbrev pub layer_over : (Grains → ℕ) → Book → List ℕ → List Grains → ℕ → ℕ → ℕ
layer_over count b levels rows d t =
    stretched (λ i. 1000000000000 - count (mix_beside b rows i)) levels b.kept b.kept 0 d t
