use Rattle.std.proofs.Common.{◌≡◌, ◌∷◌, map}
use Rattle.rendering.proofs.writing.numbers_of.Given as goal

abbrev pub invariant-loop-rate : goal.invariant-loop-rate
invariant-loop-rate l = record {
  goes : (goal.iterator-loop-rate).can_next l.rate-iterator;
  ends : (goal.iterator-loop-rate).is_finite l.rate-iterator;
  so_far : l.numbers.items ≡ l.contract.key ∷ (l.contract.loss.units ∷ map (λ r. r.now.millionths) l.yielded);
}
