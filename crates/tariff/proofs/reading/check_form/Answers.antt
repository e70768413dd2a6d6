use Rattle.std.proofs.Common.{◌≡◌, length, take, refl, arith, rules, length-take}
use Rattle.std.proofs.lemmas.Result.{err_from_is_err_and}
use Rattle.tariff.specs.declared.refusal.FileFault.TheVariants.{Trailer}
use Rattle.tariff.specs.Forms.{trailer_at}
use Rattle.tariff.proofs.Forming.{no_trailer, ends_in, begins, formed}
use Rattle.tariff.proofs.Told.{form_told}
use Rattle.tariff.proofs.reading.check_form.Goals as goal

pub returns-in_err-trailer-clause-reads : goal.returns-in_err-trailer-clause-reads
returns-in_err-trailer-clause-reads c =
    let file = c.args.file.now in
    let read = rw c.in_err-trailer.ensures.ok_part at c.read_trailer.ensures.reads in
    let p = err_from_is_err_and c.from_residual.result c.from_residual.ensures.1 in
    let told = rw c.in_err-trailer.ensures.ok_part at c.in_err-trailer.ensures.value in
    let same : p.0 ≡ Trailer (trailer_at file) = cc in
    rw (p.1, same) (record { least = search rules; most = search rules }, refl, no_trailer file read)

pub returns : goal.returns
returns c =
    let file = c.args.file.now in
    let t = c.in_ok-trailer.trailer in
    let read = rw c.in_ok-trailer.ensures.ok_part at c.read_trailer.ensures.reads in
    let ends = ends_in file t (record { least = search rules; most = search rules }) read in
    let n = length (take t.scenarios c.args.shares.now) in
    let size : n ≡ t.scenarios = omega (arith, read.scenarios_fit, length-take t.scenarios c.args.shares.now) in
    let shares = c.read_shares.new.shares in
    let before = begins file t ends n shares size c.in_ok-read_shares.ensures in
    let reads = formed file t shares before c.in_ok-lines.lines _ c.in_ok-lines.ensures (omega arith) in
    record { formed = form_told file _ t reads; reads = reads }
