use Rattle.std.proofs.Common.{rules}
use Rattle.lines.proofs.Trailing.{trailer_joined}
use Rattle.lines.proofs.trailer.read_trailer.Goals as goal

pub returns : goal.returns
returns c =
    let fields = trailer_joined c.args.bytes.now _ _ _ _ c.if-bytes-ne18.false c.in_ok-behind.ensures.2 c.in_ok-ceiling.ensures.reads.1
    c.in_ok-scenarios.ensures.reads.1 c.in_ok-contracts.ensures.reads.1 c.in_ok-place.ensures.reads.1 c.in_ok-behind-2.ensures.2
    in search rules
