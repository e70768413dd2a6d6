use Rattle.std.proofs.Common.{◌≡◌, ◌+◌, length, drop}
use Rattle.std.specs.List.{sum_by}
use Rattle.ledger.proofs.asked.AskedCalls.calls.Given as goal

-- the numbers left are those of the calls left and those that no call has: none of the opening, and none of a call before
abbrev pub invariant-loop-asked : goal.invariant-loop-asked
invariant-loop-asked l =
    length l.rest + (l.self.opening + sum_by (λ a. a.count) l.self.asked.items)
    ≡ length l.self.numbers.items + sum_by (λ a. a.count) (drop l.asked-index l.self.asked.items)
