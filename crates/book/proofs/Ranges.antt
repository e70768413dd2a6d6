-- Numbers inside a range.
use Rattle.std.proofs.Common.{◌≡◌, ℕ, ◌≤◌, false, not, leb, ap, subst}
use Rattle.std.proofs.lemmas.Bool.{le-leb, and_from}
use Rattle.reckoning.specs.declared.loss.Loss.{Loss}
use Rattle.reckoning.specs.Outcomes.{outside, loss_wrong}

pub not_outside : (low high x : ℕ) → low ≤ x → x ≤ high → outside low high x ≡ false
not_outside low high x l h = ap not (and_from (leb low x) (leb x high) (le-leb low x l) (le-leb x high h))

-- a loss is in its range
pub loss_right : (loss : Loss) (w : ℕ) → loss.units ≡ w → loss_wrong w ≡ false
loss_right loss w is = subst (λ (n : ℕ). loss_wrong n ≡ false) is (not_outside 1 65535 loss.units loss.some loss.in_range)
