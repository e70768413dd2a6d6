use Rattle.lines.proofs.Trailing.{spaced_reads}
use Rattle.lines.proofs.trailer.spaced_digits.Goals as goal

pub returns : goal.returns
returns c =
    let b = c.in_ok-from.ensures in
    record { reads = spaced_reads c.args.bytes.now c.args.place c.args.count c.digits.result c.requires.within b.2 (rw b.0 at c.digits.ensures) }
