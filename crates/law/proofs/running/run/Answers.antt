use Rattle.std.proofs.Common.{ℕ, take, None, refl, subst}
use Rattle.book.specs.Places.{held, handed_of}
use Rattle.book.specs.Laid.{state}
use Rattle.law.specs.Law.{Law}
use Rattle.law.specs.Truth.{FiguresStand}
use Rattle.law.proofs.Runs.{law_run}
use Rattle.law.proofs.Truths.{figures_stand_lem}
use Rattle.law.proofs.running.run.Goals as goal

pub returns-clause-law : goal.returns-clause-law
returns-clause-law g c =
    let ops = g.R.Reckoning.operations in
    let stands = g.R.Reckoning.stands in
    let means : FiguresStand ops stands =
    figures_stand_lem ops stands (record { nothing_stands = g.met.R.Reckoning.nothing_stands; whole_stands = g.met.R.Reckoning.whole_stands; blend_stands = g.met.R.Reckoning.blend_stands }) in
    let h = handed_of (held c.args.places.now) in
    let x = state c.args.book.now (held c.args.places.now) in
    let y = state c.open.new.self (held c.open.new.places) in
    let z = state c.carry_out.new.book (held c.carry_out.new.places) in
    let same = c.open.ensures.lent.count in
    let opens = c.in_ok-open.ensures in
    subst (λ (n : ℕ). Law ops stands h c.args.ceiling c.args.shares.now None (take n c.args.calls.now) x z c.args.answers.now c.carry_out.new.answers) c.carry_out.ensures.count
    (law_run ops stands means h c.args.ceiling c.args.shares.now (take c.carry_out.result c.args.calls.now) x y z c.args.answers.now c.carry_out.new.answers
    opens.declines (opens.list refl) (opens.holds refl) (opens.keeps refl) _ same c.carry_out.ensures.carried)
