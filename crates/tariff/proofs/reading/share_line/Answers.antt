use Rattle.std.proofs.Common.{◌≡◌, [], ◌∷◌, length, refl, arith, rules}
use Rattle.std.proofs.lemmas.Result.{err_from_is_err_and}
use Rattle.tariff.specs.declared.refusal.LineFault.TheVariants.{Share}
use Rattle.tariff.proofs.Faults.{mapped_err}
use Rattle.tariff.proofs.reading.share_line.Goals as goal

pub returns-in_err-next : goal.returns-in_err-next
returns-in_err-next c =
    let kept : length c.read_line-read.new.numbers ≡ 1 = c.read_line-read.auto.numbers in
    let m = mapped_err _ (Share c.args.place) (λ e f is. search rules) c.read_line-read.result c.map_err.result _ c.map_err.ensures.cases c.in_err-next.was in
    let read = rw m.1 at c.read_line-read.ensures in
    let p = err_from_is_err_and c.from_residual.result c.from_residual.ensures.1 in
    rw (p.1, p.2, m.2) (refl, λ n line. read.reads (n ∷ []) (omega arith) line, read.fault)
