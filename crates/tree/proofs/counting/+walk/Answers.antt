use Rattle.std.proofs.Common.{◌≡◌, ◌&&◌, ◌-◌, cond, ltb, leb, true, false, List, ap, arith}
use Rattle.reckoning.specs.Outcomes.{odds}
use Rattle.tree.specs.declared.pair.Pair.{Pair}
use Rattle.tree.proofs.Branches.{tally, tallied}
use Rattle.tree.proofs.counting.+walk.Goals as goal

pub returns-clause-tells : goal.returns-clause-tells
returns-clause-tells t c =
    let ps = c.in-Some.rest.now in
    let p = c.in-Some.last.now in
    let k = c.args.level in
    let without : c.if-may_stay_free.without ≡ cond (ltb 0 (odds p.rate false)) (tally ps k) 0 = grind arith in
    let with : c.if-may_claim.with ≡ cond (ltb 0 (odds p.rate true) && leb p.loss k) (tally ps (k - p.loss)) 0 = grind arith in
    omega (arith, tallied ps p k, ap (λ (qs : List Pair). tally qs k) c.in-Some.ensures.cases.0)
