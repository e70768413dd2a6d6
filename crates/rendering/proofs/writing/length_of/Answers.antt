use Rattle.std.proofs.Common.{ℕ, List, ◌∷◌, ◌++◌, decimal, get_or, take, ap, ◌∙◌, arith, length, length-append}
use Rattle.std.proofs.lemmas.List.{take_more}
use Rattle.lines.specs.Texts.{numbers_text}
use Rattle.lines.proofs.Lines.{numbers_text_push}
use Rattle.rendering.proofs.writing.length_of.Goals as goal

pub loop-n-preserved : goal.loop-n-preserved
loop-n-preserved c =
    let numbers = c.args.numbers.now in
    let i = c.loop-n.n-index in
    let more = ap length (ap numbers_text (take_more numbers i 0 c.loop-n-test.true) ∙ numbers_text_push (take i numbers) (get_or numbers i 0)) in
    let long = more ∙ length-append (numbers_text (take i numbers)) (32 ∷ decimal (get_or numbers i 0)) in
    let same = ap (λ (n : ℕ). length (decimal n)) c.from.ensures in
    record { value = omega arith; bound = omega arith }
