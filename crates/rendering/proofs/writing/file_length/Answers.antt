use Rattle.std.proofs.Common.{arith}
use Rattle.book.specs.Listed.{listed}
use Rattle.rendering.proofs.FilesPut.{parts_long}
use Rattle.rendering.proofs.writing.file_length.Goals as goal

pub returns : goal.returns
returns c =
    let long = parts_long (listed c.args.book.now) c.shares-shares.result.now c.contracts-contracts.result.now c.shares-shares.ensures.value c.contracts-contracts.ensures.value in
    record { value = omega arith }
