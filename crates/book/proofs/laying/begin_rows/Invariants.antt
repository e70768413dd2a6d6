use Rattle.std.proofs.Common.{◌≡◌, set}
use Rattle.book.proofs.Strides.{Strided}
use Rattle.book.proofs.laying.begin_rows.Given as goal

abbrev pub invariant-loop-s : goal.invariant-loop-s
invariant-loop-s g l = Strided l.places l.s l.rows l.initial.rows (λ s old new. new ≡ set old 0 g.R.Reckoning.operations.whole)
