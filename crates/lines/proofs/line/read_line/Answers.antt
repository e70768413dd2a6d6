use Rattle.std.proofs.Common.{◌≡◌, ℕ, ◌<◌, [], ◌∷◌, ◌++◌, length, ◌∙◌, subst, arith, length-set}
use Rattle.std.proofs.lemmas.Result.{err_from_is_err_and}
use Rattle.lines.specs.Reads.{FrontAt}
use Rattle.lines.specs.Texts.{numbers_text}
use Rattle.lines.proofs.Standing.{stands_rest}
use Rattle.lines.proofs.Lines.{next_number, rest_of_line, front_of_line, end_of_line, all_one_more, line_read, front_read, fault_behind_front, line_ends}
use Rattle.lines.proofs.line.read_line.Goals as goal

pub loop-n-init : goal.loop-n-init
loop-n-init c =
    let b = rw c.in_ok-at.ensures.ok_part at c.behind.ensures in (
      tt,
      b.2,
      b.0,
      omega (arith, b.0, b.1),
      rw b.0 (λ ms l x. stands_rest c.args.bytes.now c.args.place (c.args.letter ∷ []) (numbers_text ms ++ (10 ∷ [])) x.stands),
    )

pub returns-in_err-n : goal.returns-in_err-n
returns-in_err-n c =
    let p = err_from_is_err_and c.from_residual-in_err-n.result c.from_residual-in_err-n.ensures.1 in
    let i = c.loop-n.invariant in
    let f = front_read c.args.bytes.now c.args.place c.args.letter c.loop-n.n-index c.loop-n.at c.loop-n.numbers (omega arith) i.1 i.2 in
    record {
      reads = rw p.1 (λ ms l x.
          let n : length ms ≡ length c.loop-n.numbers = l ∙ length-set c.loop-n.numbers c.loop-n.n-index _ in
          c.in_err-n.ensures.reads _
          (next_number c.args.bytes.now c.loop-n.at c.loop-n.n-index ms (omega arith) x.small (i.4 ms n x)));
      fault = rw (p.1, p.2) (fault_behind_front c.args.bytes.now c.args.place c.args.letter (length c.args.numbers.now) c.loop-n.n-index c.loop-n.at _
          (omega arith) f c.in_err-n.ensures.fault);
    }

pub loop-n-preserved : goal.loop-n-preserved
loop-n-preserved c =
    let n = c.in_ok-n.field-0-0 in
    let end = c.in_ok-n.field-0-1 in
    let r = c.in_ok-n.ensures.reads in
    let i = c.loop-n.invariant in
    let h : c.loop-n.n-index < length c.loop-n.numbers = omega arith in
    let f = front_of_line c.args.bytes.now c.args.place c.loop-n.at end c.args.letter n c.loop-n.n-index c.loop-n.numbers h i.1 i.2 r.1 r.2 in (
      all_one_more c.loop-n.numbers c.loop-n.n-index n h i.0 r.0,
      f.0,
      f.1,
      r.3,
      λ ms l x.
          let m : length ms ≡ length c.loop-n.numbers = l ∙ length-set c.loop-n.numbers c.loop-n.n-index _ in
          rest_of_line c.args.bytes.now c.loop-n.at end n c.loop-n.n-index ms (omega arith) x.small r.4 r.2 (i.4 ms m x),
    )

pub returns : goal.returns
returns c =
    let i = c.loop-n.invariant in
    let n : c.loop-n.n-index ≡ length c.loop-n.numbers = omega arith in
    let f = front_read c.args.bytes.now c.args.place c.args.letter c.loop-n.n-index c.loop-n.at c.loop-n.numbers (omega arith) i.1 i.2 in
    let e = line_ends c.args.bytes.now c.args.place c.args.letter c.loop-n.at c.loop-n.numbers c.behind-2.result c.behind-2.ensures
    (line_read c.args.bytes.now c.args.place c.loop-n.at c.args.letter c.loop-n.n-index c.loop-n.numbers (omega arith) i.0 i.1 i.2)
    (λ ms l x. end_of_line c.args.bytes.now c.loop-n.at c.loop-n.n-index ms (omega arith) (i.4 ms l x))
    (subst (λ (k : ℕ). FrontAt c.args.bytes.now c.args.place c.args.letter k c.loop-n.at) n f)
    in
    record { reads = rw c.ok_or-2.ensures.value e.0; fault = rw (c.ok_or-2.ensures.value, ← c.loop-n.auto.numbers) e.1 }
