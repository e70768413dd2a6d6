use Rattle.std.proofs.Common.{arith}
use Rattle.tariff.proofs.Shares.{shares_to_stored}
use Rattle.tariff.proofs.reading.read_shares.Goals as goal

pub loop-share-preserved : goal.loop-share-preserved
loop-share-preserved c =
    let read = c.in_ok-share.ensures in
    shares_to_stored c.args.body.now c.loop-share.place c.in_ok-share.field-0-1 c.in_ok-share.field-0-0 c.loop-share.share-index c.loop-share.shares (omega arith) c.loop-share.invariant read.0 read.1 read.2
