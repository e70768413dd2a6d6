use Rattle.std.proofs.Common.{◌≡◌, length, decimal, sym, ap, ◌∙◌, arith, rules}
use Rattle.std.proofs.lemmas.Result.{err_from_is_err_and}
use Rattle.lines.proofs.Fields.{field_has_digits, digits_are_decimal, value_read}
use Rattle.lines.proofs.number.number.Goals as goal

pub returns-in_err-n-clause-reads : goal.returns-in_err-n-clause-reads
returns-in_err-n-clause-reads c =
    let p = err_from_is_err_and c.from_residual.result c.from_residual.ensures.1 in
    let d = rw c.in_err-n.ensures.ok_part at c.digits.ensures in
    rw p.1 (λ n h e. let s = field_has_digits _ n h e d.0 d.1 in grind arith)

pub returns-clause-reads : goal.returns-clause-reads
returns-clause-reads c =
    let f = c.args.field.now in
    let d = rw c.in_ok-n.ensures.ok_part at c.digits.ensures in
    let z : length f ≡ 0 → ⊥ = search rules in
    value_read _ f c.in_ok-n.n c.try_from.result c.map_err.result
    (λ h. digits_are_decimal f d.0 (omega arith) (λ e. grind arith) (omega arith) ∙ ap decimal (sym d.1))
    d.1 c.try_from.ensures c.map_err.ensures.cases
