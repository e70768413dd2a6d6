use Rattle.std.proofs.Common.{ℕ, ◌-◌, sym, ◌∙◌, inr, arith, length-set}
use Rattle.std.proofs.lemmas.List.{drop-set-lt}
use Rattle.book.proofs.Descents.{turn_falls}
use Rattle.book.proofs.Turnings.{levels_more, levels_end}
use Rattle.book.proofs.merging.merge_levels.Goals as goal

pub loop-t-preserved : goal.loop-t-preserved
loop-t-preserved c =
    let xs = c.loop-t.levels in
    let t = c.loop-t.t in
    let left = c.loop-t.left in
    let rest = c.in-Some.rest in
    let top = c.in-Some.top in
    let f = turn_falls xs left rest top c.in-Some.ensures in
    (omega (arith, length-set {A = ℕ}), omega (arith, length-set {A = ℕ}), omega arith, drop-set-lt c.args.merged xs (t - 1) top (omega arith) ∙ c.loop-t.invariant.3, c.loop-t.invariant.4 ∙ levels_more xs left rest top c.in-Some.ensures t (omega arith))

pub returns-in_default-clause-turned : goal.returns-in_default-clause-turned
returns-in_default-clause-turned c =
    sym (c.loop-t.invariant.4 ∙ levels_end c.loop-t.levels c.loop-t.left.own c.loop-t.left.moved c.loop-t.left.loss c.loop-t.t (inr c.in_default.ensures))
