use Rattle.std.proofs.Common.{take}
use Rattle.book.specs.Places.{held, handed_of, SamePlaces}
use Rattle.book.specs.Laid.{state, Holds}
use Rattle.law.specs.Law.{CarriedOut}
use Rattle.book.specs.Listed.{listed}
use Rattle.law.specs.Runs.{Sound}
use Rattle.law.proofs.running.carry_out.Given as goal

abbrev pub invariant-loop-i : goal.invariant-loop-i
invariant-loop-i g l =
    SamePlaces l.initial.places l.places
    × (Sound (handed_of (held l.initial.places)) (listed l.initial.book) →
    Holds g.R.Reckoning.operations l.initial.book (held l.initial.places) →
    CarriedOut g.R.Reckoning.operations g.R.Reckoning.stands (handed_of (held l.initial.places)) (listed l.initial.book) (take l.i l.calls)
    (state l.initial.book (held l.initial.places)) (state l.book (held l.places)) l.initial.answers l.answers)
