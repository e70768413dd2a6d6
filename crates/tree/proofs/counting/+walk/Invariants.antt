use Rattle.std.proofs.Common.{length}
use Rattle.tree.proofs.counting.+walk.Given as goal

abbrev pub decreases-walk : goal.decreases-walk
decreases-walk l = length l.pairs.now
