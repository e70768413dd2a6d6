use Rattle.std.proofs.Common.{◌≡◌, ◌+◌, ◌*◌, ◌^◌, pow-suc, add-one, arith}
use Rattle.std.proofs.lemmas.Int.Digits.{digits_value_more, digits_more}
use Rattle.lines.proofs.number.digits.Goals as goal

pub loop-b-preserved : goal.loop-b-preserved
loop-b-preserved c =
    let i = c.loop-b.b-index in
    let v = c.in_ok-to_digit.ensures.value in
    let m = digits_value_more 10 c.args.field.now i (omega arith) in
    let p : 10 ^ (i + 1) ≡ 10 ^ i * 10 = rw add-one (pow-suc 10 i) in
    (omega arith, digits_more 10 c.args.field.now i (omega arith) c.loop-b.invariant.1 v.0, omega arith)
