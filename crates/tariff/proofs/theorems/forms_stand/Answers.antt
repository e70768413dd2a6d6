use Rattle.tariff.proofs.FormsApart.{right_or_wrong, told_once}
use Rattle.tariff.proofs.Rendered.{files_right, right_are_files}
use Rattle.tariff.proofs.theorems.forms_stand.Goals as goal

pub returns : goal.returns
returns c = record { right = files_right; files = right_are_files; apart = right_or_wrong; once = told_once }
