use Rattle.std.proofs.Common.{◌≡◌, ℕ, ◌+◌, length, get_or, drop, length-take, refl, arith, rules}
use Rattle.std.proofs.lemmas.List.{take_rest}
use Rattle.std.proofs.lemmas.Result.{err_from_is_err_and}
use Rattle.book.specs.declared.refusal.Refusal.{Refusal}
use Rattle.book.specs.Places.{held, handed_of}
use Rattle.book.specs.Laid.{state}
use Rattle.tariff.specs.declared.refusal.BookFault.{BookFault}
use Rattle.tariff.proofs.ContractLines.{entry_from, line_of_read, no_fault}
use Rattle.tariff.proofs.Enterings.{one_entered, one_declined}
use Rattle.tariff.proofs.Faults.{mapped_ok, mapped_err}
use Rattle.tariff.proofs.Told.{walks_on}
use Rattle.tariff.proofs.part.ContractPart.enter_line.Goals as goal

-- a C line stands at the place, since the form of the whole file was checked first
pub returns-in_err-next : goal.returns-in_err-next
returns-in_err-next g c =
    let part = c.args.self.now in
    let ns = c.line.new.numbers in
    let kept = c.line.auto.numbers in
    let size : length ns ≡ 2 + part.scenarios = omega (arith, kept, length-take {A = ℕ}) in
    absurd (no_fault (2 + part.scenarios) (omega arith) part.bytes.now part.base c.args.place ns c.in_err-next.field-0.0 (omega arith) c.requires.lines size c.in_err-next.ensures)

pub returns-in_err-map_err-clause-enters : goal.returns-in_err-map_err-clause-enters
returns-in_err-map_err-clause-enters g c =
    let part = c.args.self.now in
    let place = part.base + c.args.place in
    let ns = c.line.new.numbers in
    let kept = c.line.auto.numbers in
    let size : length ns ≡ 2 + part.scenarios = omega (arith, kept, length-take {A = ℕ}) in
    let line = line_of_read (2 + part.scenarios) (omega arith) part.bytes.now c.args.place c.in_ok-next.next ns (omega arith) c.requires.lines size c.in_ok-next.ensures in
    let h = handed_of (held c.args.places.now) in
    let x = state c.args.book.now (held c.args.places.now) in
    let y = state c.enter.new.self (held c.enter.new.places) in
    let told : Refusal → BookFault = λ refusal. record { place = place; refusal = refusal } in
    let m = mapped_err _ told (λ e f is. search rules) c.enter.result c.map_err.result _ c.map_err.ensures.cases c.in_err-map_err.was in
    let made = rw m.1 at c.enter.ensures in
    let p = err_from_is_err_and c.from_residual-in_err-map_err.result c.from_residual-in_err-map_err.ensures.1 in
    λ holds. rw (p.1, p.2.0, m.2) (
      entry_from ns,
      (c.in_ok-next.next, line, one_declined g.R.Reckoning.operations h (get_or ns 0 0) (get_or ns 1 0) _ (drop 2 ns) (take_rest ns 2) x y place (told m.0) (made.holds holds).answer refl made.unchanged),
    )

pub returns-clause-walks : goal.returns-clause-walks
returns-clause-walks g c =
    let part = c.args.self.now in
    let ns = c.line.new.numbers in
    let kept = c.line.auto.numbers in
    let size : length ns ≡ 2 + part.scenarios = omega (arith, kept, length-take {A = ℕ}) in
    let line = line_of_read (2 + part.scenarios) (omega arith) part.bytes.now c.args.place c.in_ok-next.next ns (omega arith) c.requires.lines size c.in_ok-next.ensures in
    walks_on part.bytes.now (2 + part.scenarios) c.args.place c.in_ok-next.next (entry_from ns) line

pub returns-clause-enters : goal.returns-clause-enters
returns-clause-enters g c =
    let part = c.args.self.now in
    let ns = c.line.new.numbers in
    let kept = c.line.auto.numbers in
    let size : length ns ≡ 2 + part.scenarios = omega (arith, kept, length-take {A = ℕ}) in
    let line = line_of_read (2 + part.scenarios) (omega arith) part.bytes.now c.args.place c.in_ok-next.next ns (omega arith) c.requires.lines size c.in_ok-next.ensures in
    let h = handed_of (held c.args.places.now) in
    let x = state c.args.book.now (held c.args.places.now) in
    let y = state c.enter.new.self (held c.enter.new.places) in
    let m = mapped_ok _ c.enter.result c.map_err.result _ c.map_err.ensures.cases c.in_ok-map_err.was in
    let made = rw m at c.enter.ensures in
    λ holds. (
      entry_from ns,
      line,
      one_entered g.R.Reckoning.operations h (get_or ns 0 0) (get_or ns 1 0) _ (drop 2 ns) (take_rest ns 2) x y (made.holds holds).answer (made.list refl) ((made.holds holds).again refl) (made.keeps refl),
    )
