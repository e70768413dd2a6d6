use Rattle.book.proofs.Steps.{values_are_steps_lem}
use Rattle.book.proofs.theorems.values_are_steps.Goals as goal

pub returns : goal.returns
returns g c = values_are_steps_lem g.R.Reckoning.operations
