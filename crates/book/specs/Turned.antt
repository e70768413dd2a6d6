-- What the merge makes of levels and values, whatever they are: turn by turn, from the highest place down.
use Rattle.std.specs.Prelude.{◌≡◌, ℕ, zero, suc, ◌+◌, ◌-◌, ◌<◌, ◌≤◌, min, cond, List, length, ◌==◌, nat_lt, slice_index, slice_index_or, slice_set}
use Rattle.reckoning.specs.Operations.{Operations}
use Rattle.book.specs.declared.merging.Merge.{Merge}
use Rattle.book.specs.Told.{found_below}

-- a turn's level, and how many own and moved levels are left then
pub record Step : Type 0 where
  pub top : ℕ
  pub own : ℕ
  pub moved : ℕ

abbrev pub step : ℕ → ℕ → ℕ → Step
step top own moved = record { top = top; own = own; moved = moved }

-- the higher of an own level a and a moved level b is taken, both where they are the same
abbrev pub higher : ℕ → ℕ → ℕ → ℕ → Step
higher a b own moved = cond (nat_lt a b) (step b own (moved - 1)) (cond (nat_lt b a) (step a (own - 1) moved) (step a (own - 1) (moved - 1)))

-- one turn: the last of the own levels against the last of those moved up by w, which stop at 2^32 - 1
abbrev pub turned : List ℕ → ℕ → ℕ → ℕ → Step
turned levels own moved w =
    cond (moved == 0)
    (step (slice_index levels (own - 1)) (own - 1) moved)
    (higher (slice_index levels (own - 1)) (min (slice_index levels (moved - 1) + w) 4294967295) own moved)

-- how many turns there are until no own level is left, so many at most
abbrev pub turns : ℕ → List ℕ → ℕ → ℕ → ℕ → ℕ
turns zero levels own moved w = 0
turns (suc most) levels own moved w =
    cond (own == 0) 0 (suc (turns most levels (turned levels own moved w).own (turned levels own moved w).moved w))

-- the levels once those below place t are written
abbrev pub levels_turned : ℕ → List ℕ → ℕ → ℕ → ℕ → List ℕ
levels_turned zero levels own moved w = levels
levels_turned (suc t) levels own moved w =
    cond (own == 0) levels (levels_turned t (slice_set levels t (turned levels own moved w).top) (turned levels own moved w).own (turned levels own moved w).moved w)

-- the value beside the last own level, blended with that beside the last moved one
abbrev pub blended_at : {V : Type 0} → Operations V → ℕ → List V → ℕ → ℕ → V
blended_at ops r row own moved =
    ops.blended r (slice_index_or row (own - 1) ops.nothing) (cond (moved == 0) ops.nothing (slice_index_or row (moved - 1) ops.nothing))

-- a row once its places below t are written
abbrev pub row_turned : {V : Type 0} → Operations V → List ℕ → ℕ → ℕ → ℕ → List V → ℕ → ℕ → List V
row_turned ops levels w r zero row own moved = row
row_turned ops levels w r (suc t) row own moved =
    cond (own == 0) row (row_turned ops levels w r t (slice_set row t (blended_at ops r row own moved)) (turned levels own moved w).own (turned levels own moved w).moved)

-- the merge of the first n levels with those of them that stay under the ceiling c when they move up by w
abbrev pub merge_of : List ℕ → ℕ → ℕ → ℕ → Merge
merge_of levels n w c = record { own = n; moved = found_below levels n (c + 1 - w); loss = w }

-- what is left to merge is among the levels
abbrev pub LeftOf : List ℕ → Merge → Type 0
LeftOf levels m = (m.own ≤ length levels) × (m.moved ≤ length levels)

-- a turn takes the level at top and leaves the rest
abbrev pub TurnsTo : List ℕ → Merge → ℕ → Merge → Type 0
TurnsTo levels m top rest = (0 < m.own) × (step top rest.own rest.moved ≡ turned levels m.own m.moved m.loss) × (rest.loss ≡ m.loss)
