use Rattle.std.proofs.Common.{◌≡◌, ◌+◌, ◌-◌, ◌*◌, ◌≤◌, length}
use Rattle.book.specs.Turned.{turns}
use Rattle.book.proofs.merging.merged_len.Given as goal

abbrev pub invariant-loop-rest : goal.invariant-loop-rest
invariant-loop-rest l =
    (l.left.own ≤ length l.levels) × (l.left.moved ≤ length l.levels) × (l.n + l.left.own + l.left.moved ≤ 2 * l.fn.merge.own) × (l.fn.merge.own ≤ l.n + l.left.own)
    × (turns (2 * l.fn.merge.own) l.levels l.fn.merge.own l.fn.merge.moved l.fn.merge.loss ≡ l.n + turns (2 * l.fn.merge.own - l.n) l.levels l.left.own l.left.moved l.left.loss)

abbrev pub decreases-loop-rest : goal.decreases-loop-rest
decreases-loop-rest l = l.left.own + l.left.moved
