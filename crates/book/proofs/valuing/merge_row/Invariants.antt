use Rattle.std.proofs.Common.{◌≡◌, ◌≤◌, length, drop}
use Rattle.book.specs.Turned.{LeftOf, row_turned}
use Rattle.book.proofs.valuing.merge_row.Given as goal

abbrev pub invariant-loop-t : goal.invariant-loop-t
invariant-loop-t g l =
    let ops = g.R.Reckoning.operations in
    LeftOf l.levels l.left × (l.left.own ≤ length l.row) × (l.left.moved ≤ length l.row) × (l.t ≤ l.merged) × (drop l.merged l.row ≡ drop l.merged l.initial.row)
    × (row_turned ops l.levels l.fn.merge.loss l.rate.millionths l.merged l.initial.row l.fn.merge.own l.fn.merge.moved ≡ row_turned ops l.levels l.left.loss l.rate.millionths l.t l.row l.left.own l.left.moved)
