use Rattle.std.proofs.lemmas.Result.{err_from_is_err_and}
use Rattle.lines.proofs.Lines.{ended_field, spaced_stands, same_number}
use Rattle.lines.proofs.line.spaced_number.Goals as goal

pub returns-in_err-n : goal.returns-in_err-n
returns-in_err-n c =
    let p = err_from_is_err_and c.from_residual-in_err-n.result c.from_residual-in_err-n.ensures.1 in
    let b = rw c.in_ok-from.ensures.ok_part at c.behind.ensures in
    let f = rw b.0 at c.field_end-end.ensures.value in
    let n = rw b.0 at c.in_err-n.ensures in
    record {
      reads = rw p.1 (λ m x. n.reads m x.small (ended_field c.args.bytes.now c.args.place c.field_end-end.result m f x));
      fault = rw (p.1, p.2) (b.2, (c.field_end-end.result, f, n.fault));
    }

pub returns : goal.returns
returns c =
    let b = rw c.in_ok-from.ensures.ok_part at c.behind.ensures in
    let f = rw b.0 at c.field_end-end.ensures.value in
    let n = rw b.0 at c.in_ok-n.ensures.reads in
    let s = spaced_stands c.args.bytes.now c.args.place c.field_end-end.result c.in_ok-n.n b.2 f n.1 in
    record { reads = (n.0, s.1, s.0, f.within, same_number c.args.bytes.now c.args.place c.field_end-end.result c.in_ok-n.n f n.0 n.1); fault = tt }
