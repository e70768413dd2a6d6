use Rattle.rendering.proofs.ReadBack.{books_come_back}
use Rattle.rendering.proofs.round_trips.round_trips_stand.Goals as goal

pub returns-clause-books : goal.returns-clause-books
returns-clause-books g c = books_come_back g.R.Reckoning.operations
