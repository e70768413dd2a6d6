use Rattle.std.proofs.Common.{◌≡◌, ◌+◌, ◌*◌, ◌≤◌, ◌∷◌, length, take}
use Rattle.lines.specs.Texts.{numbers_text}
use Rattle.rendering.proofs.writing.line_of.Given as goal

abbrev pub invariant-loop-n : goal.invariant-loop-n
invariant-loop-n l = record {
  text : l.line.bytes.items ≡ l.letter ∷ numbers_text (take l.n-index l.numbers);
  short : length l.line.bytes.items ≤ 1 + 21 * l.n-index;
}
