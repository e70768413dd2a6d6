use Rattle.std.proofs.Common.{ℕ, List, ◌+◌, length, ap, ◌∙◌, arith}
use Rattle.lines.specs.Places.{written}
use Rattle.book.specs.Listed.{listed}
use Rattle.rendering.proofs.FilesPut.{shares_are, contracts_are, parts_long, file_put}
use Rattle.rendering.proofs.writing.put_file.Goals as goal

pub put_lines-place-requires : goal.put_lines-place-requires
put_lines-place-requires c =
    let long = parts_long (listed c.args.book.now) c.shares-shares.result.now c.contracts-contracts.result.now c.shares-shares.ensures.value c.contracts-contracts.ensures.value in
    record { fits = omega arith }

pub put_lines-end-requires : goal.put_lines-end-requires
put_lines-end-requires c =
    let long = parts_long (listed c.args.book.now) c.shares-shares.result.now c.contracts-contracts.result.now c.shares-shares.ensures.value c.contracts-contracts.ensures.value in
    record { fits = omega arith }

pub put_line-requires : goal.put_line-requires
put_line-requires c =
    let long = parts_long (listed c.args.book.now) c.shares-shares.result.now c.contracts-contracts.result.now c.shares-shares.ensures.value c.contracts-contracts.ensures.value in
    record { fits = omega arith }

pub returns : goal.returns
returns c =
    let p = listed c.args.book.now in
    let shares = c.shares-shares.result.now in
    let contracts = c.contracts-contracts.result.now in
    let s = shares_are p shares contracts c.shares-shares.ensures.value c.contracts-contracts.ensures.value in
    let m = contracts_are p shares contracts c.shares-shares.ensures.value c.contracts-contracts.ensures.value in
    let place = c.put_lines-place.ensures.value ∙ ap (λ (text : List ℕ). 0 + length text) s in
    record {
      after = file_put p shares contracts c.shares-shares.ensures.value c.contracts-contracts.ensures.value
          c.args.out.now c.put_lines-place.new.out c.put_lines-end.new.out c.put_line.new.out c.ceiling.result c.put_lines-place.result c.put_lines-end.result
          c.ceiling.ensures.value
          (c.put_lines-place.ensures.after ∙ ap (written c.args.out.now 0) s) (omega arith)
          (c.put_lines-end.ensures.after ∙ ap (written c.put_lines-place.new.out c.put_lines-place.result) m)
          (c.put_lines-end.ensures.value ∙ ap (λ (text : List ℕ). c.put_lines-place.result + length text) m)
          (c.put_line.ensures.after ∙ ap (written c.put_lines-end.new.out c.put_lines-end.result) c.trailer_line-trailer.ensures.text);
    }
