use Rattle.std.proofs.Common.{◌-◌, ◌≤◌, length}
use Rattle.book.specs.Told.{found_below}
use Rattle.book.proofs.Halvings.{Turns}
use Rattle.book.proofs.merging.below.Given as goal

abbrev pub invariant-loop-low : goal.invariant-loop-low
invariant-loop-low l =
    (l.low ≤ l.high) × (l.high ≤ length l.levels)
    × Turns l.levels l.x l.low l.high (found_below l.levels (length l.levels) l.x)

abbrev pub decreases-loop-low : goal.decreases-loop-low
decreases-loop-low l = l.high - l.low
