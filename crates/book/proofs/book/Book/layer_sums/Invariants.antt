use Rattle.std.proofs.Common.{◌≡◌, ◌-◌, ◌*◌, ◌≤◌}
use Rattle.reckoning.specs.Enclosing as Enclosing
use Rattle.book.specs.Laid.{LevelsHold, RowsHold}
use Rattle.book.specs.Listed.{listed}
use Rattle.book.specs.Merging.{reached, only_zero}
use Rattle.book.specs.Plain.{losses}
use Rattle.book.specs.Pricing.{layer_low, layer_high}
use Rattle.book.proofs.Stretches.{Ahead, StillToCome}
use Rattle.book.proofs.book.Book.layer_sums.Given as goal

abbrev pub invariant-loop-i : goal.invariant-loop-i
invariant-loop-i l =
    (l.from ≤ l.at) × (l.at ≤ l.to) × (l.low ≤ l.high) × (l.high ≤ (l.at - l.from) * 1000000000000)
    × (LevelsHold (listed l.self) l.self.kept l.levels → RowsHold Enclosing.bounds (listed l.self) l.self.kept l.bounds →
    Ahead (reached only_zero (losses (listed l.self))) l.i l.at l.to
    × (l.low ≡ layer_low (listed l.self) l.from l.at) × (l.high ≡ layer_high (listed l.self) l.from l.at))
    × StillToCome (λ g. g.upper) l.self l.levels l.bounds l.from l.to l.i l.at l.low
    × StillToCome (λ g. g.lower) l.self l.levels l.bounds l.from l.to l.i l.at l.high
