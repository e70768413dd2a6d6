use Rattle.std.proofs.Common.{◌≡◌, ℕ, ◌+◌, ◌^◌, ◌<◌, ◌≤◌, List, [], ◌∷◌, ◌++◌, length, take, drop}
use Rattle.std.specs.List.{AllByRecursion}
use Rattle.lines.specs.Places.{Stands}
use Rattle.lines.specs.Texts.{numbers_text}
use Rattle.lines.specs.Reads.{LineAt}
use Rattle.lines.proofs.line.read_line.Given as goal

-- the front of the line stands, and of any line that stands there the rest comes next
abbrev pub invariant-loop-n : goal.invariant-loop-n
invariant-loop-n l =
    AllByRecursion (λ n. n < 2 ^ 32) (take l.n-index l.numbers)
    × Stands l.bytes l.place (l.letter ∷ numbers_text (take l.n-index l.numbers))
    × (l.at ≡ l.place + length (l.letter ∷ numbers_text (take l.n-index l.numbers)))
    × (l.at ≤ length l.bytes)
    × ((ms : List ℕ) → length ms ≡ length l.numbers → LineAt l.bytes l.place l.letter ms →
    Stands l.bytes l.at (numbers_text (drop l.n-index ms) ++ (10 ∷ [])))
