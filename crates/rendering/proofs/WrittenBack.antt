-- A file read whole is written back.
use Rattle.std.proofs.Common.{◌≡◌, ℕ, ◌≤◌, List, length, take, drop, Ok, Err, Result, sym, ap, ◌∙◌, arith}
use Rattle.std.proofs.lemmas.List.{take_at, drop_at}
use Rattle.reckoning.specs.Operations.{Operations}
use Rattle.rendering.specs.declared.text.TooFew.{TooFew}
use Rattle.rendering.specs.RoundTrips.{WrittenBack, FilesComeBack}
use Rattle.rendering.specs.Told.{Tells}

-- the text that is told stands in front
pub told_in_front : (text before after : List ℕ) (k : ℕ) → Tells text before after (Ok k) → take k after ≡ text
told_in_front text before after k (l, m, e) = ap (take k) e ∙ take_at text (drop k before) k (sym l)

written_back : (text file before after : List ℕ) (r : Result ℕ TooFew) → text ≡ file → Tells text before after r → length file ≤ length before → WrittenBack file before after r
written_back text file before after (Ok k) e (l, m, a) h =
    let n : k ≡ length file = l ∙ ap length e in
    record {
      told = ap Ok n;
      same = ap (λ (i : ℕ). take i after) (sym n) ∙ told_in_front text before after k (l, m, a) ∙ e;
      behind = ap (λ (i : ℕ). drop i after) (sym n) ∙ ap (drop k) a ∙ drop_at text (drop k before) k (sym l) ∙ ap (λ (i : ℕ). drop i before) n;
    }
written_back text file before after (Err x) e (l, a) h = absurd (omega (arith, ap length e))

pub files_come_back : {V : Type 0} (ops : Operations V) → FilesComeBack ops
files_come_back ops h file x y whole before after r read told enough = written_back _ file before after r read.same told enough
