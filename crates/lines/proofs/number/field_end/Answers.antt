use Rattle.std.proofs.Common.{◌-◌, length, drop, length-drop, arith, rules, tests}
use Rattle.std.proofs.lemmas.Iterator.{IsFirst-from_position, YieldsList-from_slice}
use Rattle.std.proofs.lemmas.List.{take_all}
use Rattle.lines.specs.Reads.{EndsField}
use Rattle.lines.proofs.Lines.{field_end_found}
use Rattle.lines.proofs.number.field_end.Goals as goal

pub returns : goal.returns
returns c =
    let bs = c.args.bytes.now in
    let m = c.min-from.result in
    let first = IsFirst-from_position _ _ _ EndsField (λ b. EndsField b → ⊥) c.position-ends.ensures.ran (YieldsList-from_slice _ c.iter.ensures.rest) (λ x q k. search (rules, tests)) (λ x q k. search (rules, tests)) in
    let whole = take_all (length bs - m) (drop m bs) (omega (arith, length-drop m bs)) in
    record { value = rw (c.unwrap_or.ensures, whole) (field_end_found bs c.args.from m c.position-ends.result (search rules) (rw whole at first)) }
