use Rattle.std.proofs.Common.{ℕ, List, ◌∷◌, ◌++◌, decimal, get_or, take, sym, ap, ◌∙◌, arith}
use Rattle.std.proofs.lemmas.List.{take_more}
use Rattle.lines.specs.Texts.{numbers_text}
use Rattle.lines.proofs.Lines.{numbers_text_push}
use Rattle.rendering.proofs.writing.line_of.Goals as goal

pub loop-n-preserved : goal.loop-n-preserved
loop-n-preserved c =
    let numbers = c.args.numbers.now in
    let i = c.loop-n.n-index in
    let more = ap numbers_text (take_more numbers i 0 c.loop-n-test.true) ∙ numbers_text_push (take i numbers) (get_or numbers i 0) in
    record {
      text = c.put_spaced.ensures.after
          ∙ ap (λ (text : List ℕ). text ++ (32 ∷ decimal c.from.result)) c.loop-n.invariant.text
          ∙ ap (λ (n : ℕ). c.args.letter ∷ (numbers_text (take i numbers) ++ (32 ∷ decimal n))) c.from.ensures
          ∙ ap (λ (text : List ℕ). c.args.letter ∷ text) (sym more);
      short = omega arith;
    }
