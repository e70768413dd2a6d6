use Rattle.std.proofs.Common.{◌≡◌, ℕ, Ok, None, Option, sym, refl, ap, subst}
use Rattle.reckoning.specs.declared.grains.Grains.{Grains}
use Rattle.law.specs.declared.call.Call.{Call}
use Rattle.law.specs.declared.call.Answer.TheVariants.{Chance}
use Rattle.book.specs.Places.{Places, held, handed_of}
use Rattle.book.specs.Figures.{chance}
use Rattle.book.specs.Declines.{chance_sentences}
use Rattle.book.specs.Laid.{state, Holds}
use Rattle.book.specs.Refusals.{first}
use Rattle.book.specs.Listed.{listed}
use Rattle.book.specs.Plain.{scenarios}
use Rattle.law.specs.Runs.{One}
use Rattle.law.proofs.Runs.{outside_same}
use Rattle.law.proofs.running.step.Goals as goal

pub returns-in_ok-lower-in-ChanceAt-clause-does : goal.returns-in_ok-lower-in-ChanceAt-clause-does
returns-in_ok-lower-in-ChanceAt-clause-does g c =
    let ops = g.R.Reckoning.operations in
    let h = handed_of (held c.args.places.now) in
    let x = state c.args.book.now (held c.args.places.now) in
    let told = c.in_ok-lower-in-ChanceAt in
    let seen = c.shown-in-ChanceAt.ensures.value in
    subst (λ (d : Call). One ops h x x d (Ok (Chance told.lower told.upper))) (sym c.in-ChanceAt.is)
    (record {
      unchanged = λ n e. refl;
      list = λ e. refl;
      outside = λ e. outside_same (scenarios (listed x.book)) h.levels x.book.kept x.places;
      right = λ held. record { declined = subst (λ (y : Places _). ◌≡◌ {A = Option ℕ} None (first (chance_sentences (handed_of y) (listed x.book) c.in-ChanceAt.s c.in-ChanceAt.k))) seen told.ensures.declines; answered = λ e. ap (λ (v : Grains). Ok (Chance v.lower v.upper)) {y = chance (listed x.book) c.in-ChanceAt.s c.in-ChanceAt.k} (told.ensures.tells (subst (λ (y : Places _). Holds ops x.book y) (sym seen) held)) };
      again = λ held. held;
    })
