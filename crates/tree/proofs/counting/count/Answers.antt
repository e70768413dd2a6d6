use Rattle.std.proofs.Common.{length, sym, ◌∙◌, arith, rules, tests}
use Rattle.std.proofs.lemmas.Bool.{lt-ltb, le-ltb}
use Rattle.reckoning.specs.Outcomes.{loss_wrong, rate_wrong}
use Rattle.tree.specs.declared.pair.Pair.{Pair}
use Rattle.tree.proofs.Anys.{any_is_some}
use Rattle.tree.proofs.counting.count.Goals as goal

pub returns-then-any-2-clause-declines : goal.returns-then-any-2-clause-declines
returns-then-any-2-clause-declines c =
    let ps = c.args.pairs.now in
    let losses = any_is_some (λ (p : Pair). loss_wrong p.loss) ps c.any.ensures.ran (cc) (λ x b q k. search (rules, tests)) in
    let rates = any_is_some (λ (p : Pair). rate_wrong p.rate) ps c.any-2.ensures.ran (cc) (λ x b q k. search (rules, tests)) in
    rw (sym losses ∙ c.if-any.false, sym rates ∙ c.if-any-2.true)

pub returns-then-pairs-gt-MOST-clause-declines : goal.returns-then-pairs-gt-MOST-clause-declines
returns-then-pairs-gt-MOST-clause-declines c =
    let ps = c.args.pairs.now in
    let losses = any_is_some (λ (p : Pair). loss_wrong p.loss) ps c.any.ensures.ran (cc) (λ x b q k. search (rules, tests)) in
    let rates = any_is_some (λ (p : Pair). rate_wrong p.rate) ps c.any-2.ensures.ran (cc) (λ x b q k. search (rules, tests)) in
    rw (sym losses ∙ c.if-any.false, sym rates ∙ c.if-any-2.false, lt-ltb 16 (length ps) (omega arith))

pub returns-clause-declines : goal.returns-clause-declines
returns-clause-declines c =
    let ps = c.args.pairs.now in
    let losses = any_is_some (λ (p : Pair). loss_wrong p.loss) ps c.any.ensures.ran (cc) (λ x b q k. search (rules, tests)) in
    let rates = any_is_some (λ (p : Pair). rate_wrong p.rate) ps c.any-2.ensures.ran (cc) (λ x b q k. search (rules, tests)) in
    rw (sym losses ∙ c.if-any.false, sym rates ∙ c.if-any-2.false, le-ltb 16 (length ps) (omega arith))
