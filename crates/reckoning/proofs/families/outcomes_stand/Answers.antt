use Rattle.reckoning.proofs.EachOnce.{each_once}
use Rattle.reckoning.proofs.families.outcomes_stand.Goals as goal

pub returns : goal.returns
returns c = each_once
