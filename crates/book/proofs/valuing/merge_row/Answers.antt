use Rattle.std.proofs.Common.{◌≡◌, ◌-◌, cond, eqb, get_or, sym, ap, ◌∙◌, inr, arith, length-set}
use Rattle.std.proofs.lemmas.List.{drop-set-lt}
use Rattle.book.specs.Turned.{blended_at}
use Rattle.book.proofs.Descents.{turn_falls}
use Rattle.book.proofs.Turnings.{stays_read, falls_read, falls_nothing, row_more, row_end}
use Rattle.book.proofs.valuing.merge_row.Goals as goal
use Rattle.book.proofs.valuing.merge_row.Goals.{then-left-gt0, else-left-gt0}

pub loop-t-preserved : goal.loop-t-preserved
loop-t-preserved g c =
    let ops = g.R.Reckoning.operations in
    let xs = c.args.levels.now in
    let vs = c.loop-t.row in
    let left = c.loop-t.left in
    let rest = c.in-Some.rest in
    let t = c.loop-t.t in
    let v = c.blend.result in
    let rate = c.args.rate.millionths in
    let turn = c.in-Some.ensures in
    let some = turn.0 in
    let f = turn_falls xs left rest c.in-Some.field-0-0 turn in
    let size = length-set vs (t - 1) v in
    let stays = stays_read ops vs left.own left.moved c.index-row-left.result some (omega arith) c.index-row-left.is in
    let falls : c.if-left-gt0.falls ≡ cond (eqb left.moved 0) ops.nothing (get_or vs (left.moved - 1) ops.nothing) = elim c.if-left-gt0.branch [
      | then-left-gt0 w ↦
          w.falls-is ∙ falls_read ops vs left.own left.moved w.index-row-left-then-left-gt0.result w.if-left-gt0.true (omega arith) w.index-row-left-then-left-gt0.is
      | else-left-gt0 w ↦ falls_nothing ops vs left.own left.moved c.if-left-gt0.falls w.if-left-gt0.false (w.falls-is ∙ w.nothing-falls.ensures)
    ] in
    let blend : v ≡ blended_at ops rate vs left.own left.moved =
    c.blend.ensures ∙ ap (λ u. ops.blended rate u c.if-left-gt0.falls) stays ∙ ap (λ u. ops.blended rate (get_or vs (left.own - 1) ops.nothing) u) falls in (
      (omega arith, omega arith),
      omega arith,
      omega arith,
      omega arith,
      drop-set-lt c.args.merged vs (t - 1) v (omega arith) ∙ c.loop-t.invariant.4,
      c.loop-t.invariant.5 ∙ row_more xs left rest c.in-Some.field-0-0 turn ops rate vs v t (omega arith) blend,
    )

pub returns-in_default-clause-turned : goal.returns-in_default-clause-turned
returns-in_default-clause-turned g c =
    let left = c.loop-t.left in
    sym (c.loop-t.invariant.5 ∙ row_end g.R.Reckoning.operations c.args.levels.now left.loss c.args.rate.millionths c.loop-t.row left.own left.moved c.loop-t.t (inr c.in_default.ensures))
