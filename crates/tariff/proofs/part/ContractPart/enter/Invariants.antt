use Rattle.std.proofs.Common.{◌+◌, ◌≡◌, ◌-◌, ◌≤◌, false, [], length}
use Rattle.book.specs.Places.{held, handed_of, SamePlaces}
use Rattle.book.specs.Declines.{places_wrong}
use Rattle.book.specs.Laid.{state, Holds}
use Rattle.book.specs.Listed.{listed}
use Rattle.tariff.specs.Grammar.{LinesFrom}
use Rattle.tariff.proofs.Enterings.{SoFar}
use Rattle.tariff.proofs.part.ContractPart.enter.Given as goal

-- C lines follow, the places fit, and the contracts up to the place are entered
abbrev pub invariant-loop-place : goal.invariant-loop-place
invariant-loop-place g l =
    (l.place ≤ length l.self.bytes.now) × LinesFrom l.self.bytes.now l.place 67 (2 + l.self.scenarios)
    × (places_wrong (handed_of (held l.places)) (listed l.book) ≡ false)
    × ((listed l.initial.book).contracts ≡ [] → Holds g.R.Reckoning.operations l.initial.book (held l.initial.places) →
    SoFar g.R.Reckoning.operations (handed_of (held l.initial.places)) l.self.bytes.now (2 + l.self.scenarios) l.place
    (state l.initial.book (held l.initial.places)) (state l.book (held l.places)))
    × SamePlaces l.initial.places l.places

abbrev pub decreases-loop-place : goal.decreases-loop-place
decreases-loop-place g l = length l.self.bytes.now - l.place
