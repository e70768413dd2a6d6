use Rattle.std.proofs.Common.{◌≡◌, ℕ, ◌<◌, ◌≤◌, Bool, false, length, take, drop}
use Rattle.std.specs.Iterator.Adapters.{enumerate_source, enumerate_count}
use Rattle.std.specs.Slice.Iter.{iter_rest}
use Rattle.reckoning.specs.declared.grains.Grains.{Grains}
use Rattle.book.specs.Reserved.{mix_beside, AnswersBy}
use Rattle.book.proofs.book.Book.first_reached.Given as goal

abbrev pub invariant-loop-i : goal.invariant-loop-i
invariant-loop-i g l =
    (iter_rest (enumerate_source l.rest) ≡ drop (enumerate_count l.rest) (take l.self.kept l.levels)) × (enumerate_count l.rest ≤ l.self.kept)
    × ((test : Grains → Bool) → AnswersBy (goal.F-post g l.passes) test → (j : ℕ) → j < enumerate_count l.rest → test (mix_beside l.self l.bounds j) ≡ false)

abbrev pub decreases-loop-i : goal.decreases-loop-i
decreases-loop-i g l = length (iter_rest (enumerate_source l.rest))
