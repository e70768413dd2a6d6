use Rattle.book.proofs.Reaches.{kept_rise, kept_under_ceiling, kept_are_losses, kept_by_merging}
use Rattle.book.proofs.theorems.kept_levels_stand.Goals as goal

pub returns : goal.returns
returns c = record { rise = kept_rise; ceiling = kept_under_ceiling; losses = kept_are_losses; merged = kept_by_merging }
