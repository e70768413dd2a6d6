use Rattle.std.proofs.Common.{length, take, sym, ap, ◌∙◌, arith, length-append}
use Rattle.std.specs.List.{flat_map}
use Rattle.std.proofs.lemmas.List.Folds.{length-flat_map-take}
use Rattle.lines.specs.Places.{written}
use Rattle.rendering.proofs.FilesPut.{texts_more}
use Rattle.rendering.proofs.Writings.{written_more}
use Rattle.rendering.proofs.writing.put_lines.Goals as goal

pub put_line-at-requires : goal.put_line-at-requires
put_line-at-requires g c =
    let text = g.T.Lined.text c.args.scenarios in
    let room = length-flat_map-take text c.args.items.now c.loop-item.item-index c.item-item.result c.loop-item-test.true in
    let same = ap (λ x. length (text x)) c.item-item.is in
    let long = ap length c.line_in.ensures.text in
    record { fits = omega arith }

pub loop-item-preserved : goal.loop-item-preserved
loop-item-preserved g c =
    let text = g.T.Lined.text c.args.scenarios in
    let items = c.args.items.now in
    let i = c.loop-item.item-index in
    let before = flat_map text (take i items) in
    let line = c.line_in.ensures.text ∙ ap text c.item-item.is in
    let more = texts_more text items i c.item-item.result c.loop-item-test.true in
    let long = ap length more ∙ length-append before (text _) in
    let same = ap length line in
    record {
      place = omega arith;
      put = written_more c.args.out.now c.loop-item.out c.put_line-at.new.out c.args.from c.loop-item.at before _
          (omega arith) c.loop-item.invariant.place c.loop-item.invariant.put (c.put_line-at.ensures.after ∙ ap (written c.loop-item.out c.loop-item.at) line)
          ∙ ap (written c.args.out.now c.args.from) (sym more);
    }
