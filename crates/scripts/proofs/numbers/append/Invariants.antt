use Rattle.std.proofs.Common.{◌≤◌, vec_len}
use Rattle.scripts.proofs.numbers.append.Given as goal

abbrev pub invariant-loop-word : goal.invariant-loop-word
invariant-loop-word l = vec_len l.initial.numbers ≤ vec_len l.numbers
