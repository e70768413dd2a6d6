use Rattle.std.proofs.Common.{◌+◌, ◌≡◌, length, arith, length-append, length-drop, length-take}
use Rattle.lines.proofs.Lines.{length_line_text}
use Rattle.tariff.proofs.ContractLines.{counted_more}
use Rattle.tariff.proofs.part.ContractPart.count_lines.Goals as goal

pub loop-place-preserved : goal.loop-place-preserved
loop-place-preserved c =
    let part = c.args.self.now in
    let ns = c.line.new.numbers in
    let r = c.in_ok-place.ensures in
    let kept = c.line.auto.numbers in
    let all = c.loop-place.invariant.2 in
    let size : length ns ≡ 2 + part.scenarios = omega (arith, kept, length-take (2 + part.scenarios) c.loop-place.numbers) in
    let long = length_line_text 67 ns in (
      omega (arith, r.2),
      omega (arith, r.1),
      simp length-append (omega (arith, size, length-drop (2 + part.scenarios) c.loop-place.numbers)),
      counted_more (2 + part.scenarios) (omega arith) part.bytes.now c.loop-place.place c.in_ok-place.place c.loop-place.lines ns c.loop-place.invariant.3 size r,
    )
