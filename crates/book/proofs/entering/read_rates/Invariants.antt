use Rattle.std.proofs.Common.{◌≡◌, false, length, take}
use Rattle.reckoning.specs.Outcomes.{rate_wrong}
use Rattle.book.specs.Entries.{millionths_of}
use Rattle.book.specs.Some.{some}
use Rattle.book.proofs.entering.read_rates.Given as goal

abbrev pub invariant-loop-i : goal.invariant-loop-i
invariant-loop-i l =
    (some rate_wrong (take l.i l.given) ≡ false) × (millionths_of (take l.i l.rates) ≡ take l.i l.given) × (length l.rates ≡ 8)
