use Rattle.std.proofs.Common.{◌*◌, arith}
use Rattle.book.proofs.Descents.{turn_falls}
use Rattle.book.proofs.Turnings.{counted_more}
use Rattle.book.proofs.merging.merged_len.Goals as goal

pub loop-rest-preserved : goal.loop-rest-preserved
loop-rest-preserved c =
    let left = c.loop-rest.left in
    let f = turn_falls c.args.levels.now left c.in-Some.rest c.in-Some.field-0-0 c.in-Some.ensures in
    (omega arith, omega arith, omega arith, omega arith, counted_more c.args.levels.now left c.in-Some.rest c.in-Some.field-0-0 c.in-Some.ensures (2 * c.args.merge.own) c.loop-rest.n _ (omega arith) c.loop-rest.invariant.4)
