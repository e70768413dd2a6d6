use Rattle.std.proofs.Common.{◌≡◌, ◌+◌, ◌*◌, ◌≤◌, length, take}
use Rattle.lines.specs.Texts.{numbers_text}
use Rattle.rendering.proofs.writing.length_of.Given as goal

abbrev pub invariant-loop-n : goal.invariant-loop-n
invariant-loop-n l = record {
  value : l.length ≡ length (numbers_text (take l.n-index l.numbers)) + 2;
  bound : l.length ≤ 21 * l.n-index + 2;
}
