use Rattle.std.proofs.Common.{◌≡◌, ◌<◌, length, ◌∙◌, refl, arith, rules}
use Rattle.std.proofs.lemmas.List.{length-take, get_or-take, get_or_default}
use Rattle.book.specs.Places.{held, handed_of}
use Rattle.book.specs.Laid.{state}
use Rattle.book.specs.Listed.{listed}
use Rattle.law.specs.Truth.{FiguresStand}
use Rattle.law.proofs.Runs.{carried_none, law_step}
use Rattle.law.proofs.Truths.{figures_stand_lem}
use Rattle.law.proofs.running.carry_out.Goals as goal

pub loop-i-init : goal.loop-i-init
loop-i-init g c =
    let ops = g.R.Reckoning.operations in
    let stands = g.R.Reckoning.stands in
    let means : FiguresStand ops stands =
    figures_stand_lem ops stands (record { nothing_stands = g.met.R.Reckoning.nothing_stands; whole_stands = g.met.R.Reckoning.whole_stands; blend_stands = g.met.R.Reckoning.blend_stands }) in
    let h = handed_of (held c.args.places.now) in (
      search rules,
      λ sound holds. carried_none ops stands means h (listed c.args.book.now) (state c.args.book.now (held c.args.places.now)) c.args.answers.now sound refl holds,
    )

pub loop-i-preserved : goal.loop-i-preserved
loop-i-preserved g c =
    let ops = g.R.Reckoning.operations in
    let stands = g.R.Reckoning.stands in
    let means : FiguresStand ops stands =
    figures_stand_lem ops stands (record { nothing_stands = g.met.R.Reckoning.nothing_stands; whole_stands = g.met.R.Reckoning.whole_stands; blend_stands = g.met.R.Reckoning.blend_stands }) in
    let h = handed_of (held c.args.places.now) in
    let x = state c.args.book.now (held c.args.places.now) in
    let y = state c.loop-i.book (held c.loop-i.places) in
    let z = state c.step.new.book (held c.step.new.places) in
    let same = c.loop-i.invariant.0.count in
    let few = length-take c.min-n.result c.args.calls.now in
    let within : c.loop-i.i < length c.args.calls.now = omega (arith, few) in
    let room : c.loop-i.i < length c.loop-i.answers = omega (arith, few) in (
      search rules,
      λ sound holds.
          law_step ops stands means h (listed c.args.book.now) sound c.args.calls.now x y z c.args.answers.now c.loop-i.answers c.loop-i.i _ c.step.result
          within room (get_or-take c.min-n.result c.args.calls.now c.loop-i.i _ (omega (arith, few)) ∙ get_or_default _ _ _ _ within) (c.loop-i.invariant.1 sound holds) _ same c.step.ensures.does,
    )

pub returns-clause-carried : goal.returns-clause-carried
returns-clause-carried g c =
    let all : c.min-n.result ≡ c.loop-i.i = omega (arith, length-take c.min-n.result c.args.calls.now) in
    rw all c.loop-i.invariant.1
