use Rattle.reckoning.proofs.Attained.{greatest_is_greatest}
use Rattle.reckoning.proofs.claims.greatest_stands.Goals as goal

pub returns : goal.returns
returns c = greatest_is_greatest
