use Rattle.std.proofs.Common.{◌+◌, ◌≡◌, ◌-◌, ◌≤◌, length}
use Rattle.tariff.specs.Reading.{ContractsCounted}
use Rattle.tariff.proofs.part.ContractPart.count_lines.Given as goal

-- up to the place stand as many C lines as were counted
abbrev pub invariant-loop-place : goal.invariant-loop-place
invariant-loop-place l = (l.place ≤ length l.self.bytes.now) × (l.lines ≤ l.place) × (length l.numbers ≡ 11) × ContractsCounted l.self.bytes.now (2 + l.self.scenarios) l.place l.lines

abbrev pub decreases-loop-place : goal.decreases-loop-place
decreases-loop-place l = length l.self.bytes.now - l.place
