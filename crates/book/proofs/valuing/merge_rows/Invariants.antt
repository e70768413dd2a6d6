use Rattle.std.proofs.Common.{get_or}
use Rattle.book.specs.Entries.{millionths_of}
use Rattle.book.proofs.Strides.{Strided, MergedRow}
use Rattle.book.proofs.valuing.merge_rows.Given as goal

abbrev pub invariant-loop-s : goal.invariant-loop-s
invariant-loop-s g l = Strided l.places l.s l.rows l.initial.rows (λ s. MergedRow g.R.Reckoning.operations l.levels l.merge l.merged (get_or (millionths_of l.rates) s 0))
