use Rattle.book.proofs.Leasts.{least_is_least}
use Rattle.book.proofs.theorems.least_stands.Goals as goal

pub returns : goal.returns
returns c = least_is_least
