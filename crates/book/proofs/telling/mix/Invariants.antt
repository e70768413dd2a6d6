use Rattle.std.proofs.Common.{◌≡◌, ◌*◌, take}
use Rattle.reckoning.specs.Outcomes.{summed}
use Rattle.book.specs.Figures.{numbered, told_in}
use Rattle.book.proofs.telling.mix.Given as goal

abbrev pub invariant-loop-s : goal.invariant-loop-s
invariant-loop-s l =
    (l.lower ≡ summed (λ x. x.0 * (told_in l.places l.rows l.found x.1).lower) (take l.s (numbered 1 l.shares)))
    × (l.upper ≡ summed (λ x. x.0 * (told_in l.places l.rows l.found x.1).upper) (take l.s (numbered 1 l.shares)))
