use Rattle.std.proofs.Common.{◌≡◌, ◌+◌, length, take}
use Rattle.std.specs.List.{flat_map}
use Rattle.lines.specs.Places.{written}
use Rattle.rendering.proofs.writing.put_lines.Given as goal

abbrev pub invariant-loop-item : goal.invariant-loop-item
invariant-loop-item g l = record {
  place : l.at ≡ l.from + length (flat_map (g.T.Lined.text l.scenarios) (take l.item-index l.items));
  put : l.out ≡ written l.initial.out l.from (flat_map (g.T.Lined.text l.scenarios) (take l.item-index l.items));
}
