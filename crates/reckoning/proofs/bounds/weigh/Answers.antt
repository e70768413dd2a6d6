use Rattle.std.proofs.Common.{◌≤◌, arith}
use Rattle.reckoning.specs.Enclosing.{ways}
use Rattle.reckoning.specs.Enclosures.{ways_bound}
use Rattle.reckoning.proofs.bounds.weigh.Goals as goal

bound : (c : goal.After-from-r) → ways c.from-r.result c.args.u c.args.v ≤ 1000000000000000000
bound c = ways_bound c.from-r.result (omega arith) c.args.u c.args.v (omega arith) (omega arith)

pub overflow_add-result : goal.overflow_add-result
overflow_add-result c = omega (arith, bound c)

pub returns : goal.returns
returns c = record { sum = rw (c.from-r.ensures, c.millionths.ensures) (omega arith); bound = omega (arith, bound c) }
