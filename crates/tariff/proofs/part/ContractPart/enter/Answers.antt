use Rattle.std.proofs.Common.{◌+◌, arith, rules}
use Rattle.std.proofs.lemmas.Result.{err_from_is_err_and}
use Rattle.book.specs.Places.{held, handed_of}
use Rattle.book.specs.Laid.{state}
use Rattle.tariff.proofs.Enterings.{so_far_more, part_declined}
use Rattle.tariff.proofs.part.ContractPart.enter.Goals as goal

pub returns-in_err-place : goal.returns-in_err-place
returns-in_err-place g c =
    let h = handed_of (held c.args.places.now) in
    let x = state c.args.book.now (held c.args.places.now) in
    let y = state c.loop-place.book (held c.loop-place.places) in
    let z = state c.enter_line.new.book (held c.enter_line.new.places) in
    let same = c.loop-place.invariant.4.count in
    let p = err_from_is_err_and c.from_residual.result c.from_residual.ensures.1 in
    let declined = c.in_err-place.ensures in
    record {
      lent = search rules;
      enters = λ empty holds.
          let so = c.loop-place.invariant.3 empty holds in
          rw (p.1, p.2) (part_declined g.R.Reckoning.operations h c.args.self.now.bytes.now (2 + c.args.self.now.scenarios) (omega arith) x c.args.self.now.base c.loop-place.place y z _ c.in_err-place.field-0.0 same so (declined.enters so.entered.holds));
    }

pub loop-place-preserved : goal.loop-place-preserved
loop-place-preserved g c =
    let h = handed_of (held c.args.places.now) in
    let x = state c.args.book.now (held c.args.places.now) in
    let y = state c.loop-place.book (held c.loop-place.places) in
    let z = state c.enter_line.new.book (held c.enter_line.new.places) in
    let same = c.loop-place.invariant.4.count in
    let entered = c.in_ok-place.ensures in (
      entered.walks.1,
      entered.walks.2,
      entered.places,
      λ empty holds.
          let so = c.loop-place.invariant.3 empty holds in
          so_far_more g.R.Reckoning.operations h c.args.self.now.bytes.now (2 + c.args.self.now.scenarios) (omega arith) x c.args.self.now.base c.loop-place.place c.in_ok-place.place y z _ same so (entered.enters so.entered.holds),
      search rules,
    )
