use Rattle.std.proofs.Common.{◌≡◌, ◌≤◌, map}
use Rattle.book.specs.Laid.{Outside, Framed}
use Rattle.book.specs.Entries.{entry_of}
use Rattle.book.specs.Plain.{Plain}
use Rattle.book.proofs.InTurn.{GoesOn}
use Rattle.book.proofs.Rebuilds.{LaysFront}
use Rattle.book.specs.Places.{held, SamePlaces}
use Rattle.book.proofs.rebuilding.lay_all.Given as goal

abbrev pub invariant-loop-contract : goal.invariant-loop-contract
invariant-loop-contract g l =
    (l.len ≤ l.frame.places) × (1 ≤ l.len)
    × Outside l.frame.scenarios l.frame.places l.len (held l.initial.places) (held l.places)
    × ((p : Plain) → Framed p l.frame → p.contracts ≡ map (entry_of l.frame.scenarios) l.contracts → LaysFront g.R.Reckoning.operations p l.contract-index l.len (held l.places))
    × GoesOn g.R.Reckoning.operations l.frame.scenarios l.frame.ceiling l.frame.places l.contracts (held l.initial.places) l.contract-index l.len (held l.places)
    × SamePlaces l.initial.places l.places
