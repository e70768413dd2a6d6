use Rattle.tariff.proofs.OneAnswer.{good_is_read, one_answer}
use Rattle.tariff.proofs.theorems.answers_stand.Goals as goal

pub returns : goal.returns
returns g c = record { good = good_is_read g.R.Reckoning.operations; one = one_answer g.R.Reckoning.operations }
