use Rattle.std.proofs.Common.{arith}
use Rattle.book.proofs.Halvings.{turn_up, turn_down}
use Rattle.book.proofs.merging.below.Goals as goal

-- the level in the middle lies below x
pub loop-low-preserved-then-levels-mid : goal.loop-low-preserved-then-levels-mid
loop-low-preserved-then-levels-mid c =
    (omega arith, omega arith, turn_up c.args.levels.now c.args.x c.loop-low.low c.loop-low.high _ c.loop-low.invariant.2 (omega arith) (omega arith))

pub loop-low-preserved : goal.loop-low-preserved
loop-low-preserved c =
    (omega arith, omega arith, turn_down c.args.levels.now c.args.x c.loop-low.low c.loop-low.high _ c.loop-low.invariant.2 (omega arith) (omega arith))
