use Rattle.std.proofs.Common.{take}
use Rattle.tariff.specs.Forms.{SharesTo}
use Rattle.tariff.proofs.reading.read_shares.Given as goal

-- the shares read so far are those of the S lines up to the place
abbrev pub invariant-loop-share : goal.invariant-loop-share
invariant-loop-share l = SharesTo l.body l.place (take l.share-index l.shares)
