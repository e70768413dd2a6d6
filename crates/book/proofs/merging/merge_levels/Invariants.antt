use Rattle.std.proofs.Common.{◌≡◌, ◌≤◌, length, drop}
use Rattle.book.specs.Turned.{levels_turned}
use Rattle.book.proofs.merging.merge_levels.Given as goal

abbrev pub invariant-loop-t : goal.invariant-loop-t
invariant-loop-t l =
    (l.left.own ≤ length l.levels) × (l.left.moved ≤ length l.levels) × (l.t ≤ l.merged) × (drop l.merged l.levels ≡ drop l.merged l.initial.levels)
    × (levels_turned l.merged l.initial.levels l.fn.merge.own l.fn.merge.moved l.fn.merge.loss ≡ levels_turned l.t l.levels l.left.own l.left.moved l.left.loss)
