use Rattle.std.proofs.Common.{◌≡◌, ◌^◌, ◌<◌, take}
use Rattle.std.specs.Str.Parse.{AllDigits, digits_value}
use Rattle.lines.proofs.number.digits.Given as goal

abbrev pub invariant-loop-b : goal.invariant-loop-b
invariant-loop-b l = (l.n ≡ digits_value 10 (take l.b-index l.field)) × AllDigits 10 (take l.b-index l.field) × (l.n < 10 ^ l.b-index)
