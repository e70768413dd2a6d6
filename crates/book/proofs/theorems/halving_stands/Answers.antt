use Rattle.book.proofs.Halvings.{halving_splits}
use Rattle.book.proofs.theorems.halving_stands.Goals as goal

pub returns : goal.returns
returns c = halving_splits
