use Rattle.std.proofs.Common.{take, sym, refl, rules}
use Rattle.book.specs.Places.{held, handed_of}
use Rattle.book.specs.Laid.{state}
use Rattle.tariff.specs.Reading.{OpenedFor}
use Rattle.tariff.proofs.Declined.{read_comes, read_unchanged}
use Rattle.tariff.proofs.Faults.{mapped_ok}
use Rattle.tariff.proofs.Filing.{read_entered}
use Rattle.tariff.proofs.reading.read.Goals as goal

pub returns : goal.returns
returns g c =
    let ops = g.R.Reckoning.operations in
    let h = handed_of (held c.args.places.now) in
    let x = state c.args.book.now (held c.args.places.now) in
    let y = state c.open.new.self (held c.open.new.places) in
    let z = state c.enter.new.book (held c.enter.new.places) in
    let same = c.open.ensures.lent.count in
    let file = c.args.file.now in
    let t = c.in_ok-trailer.trailer in
    let formed = c.in_ok-trailer.ensures.reads in
    let m = mapped_ok _ c.open.result c.map_err.result _ c.map_err.ensures.cases c.in_ok-map_err.was in
    let made = rw m at c.open.ensures in
    let opened : OpenedFor ops h t.ceiling (take t.scenarios c.check_form.new.shares) x y = record { accepted = sym made.declines; list = made.list refl; holds = made.holds refl; outside = made.keeps refl } in
    let r = c.enter.result in
    let reads = read_entered ops h file t (take t.scenarios c.check_form.new.shares) formed.0 formed.1 x y opened _ z r same c.enter.ensures.enters in
    record { reads = reads; lent = search rules; comes = read_comes ops h file x z r reads; unchanged = read_unchanged ops h file x z r reads }
