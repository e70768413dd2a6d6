use Rattle.std.proofs.Common.{rules}
use Rattle.reckoning.specs.declared.grains.Grains.{Grains}
use Rattle.book.specs.Listed.{listed}
use Rattle.book.specs.Pricing.{reaches}
use Rattle.book.specs.Reserved.{mix_beside, FirstOf}
use Rattle.book.proofs.Founds.{first_among, first_is_least}
use Rattle.book.proofs.book.Book.reserve.Goals as goal

pub returns : goal.returns
returns g c =
    let b = c.args.self.now in
    let p = listed b in
    let levels = c.args.places.now.levels.now in
    let rows = c.args.places.now.bounds.now in
    let low = c.first_reached-low.result in
    let high = c.first_reached-high.result in
    let upper = λ (g : Grains). reaches c.args.confidence g.upper in
    let lower = λ (g : Grains). reaches c.args.confidence g.lower in
    let enough = c.from.ensures in
    let low_told : FirstOf (λ i. upper (mix_beside b rows i)) levels b.kept low = c.first_reached-low.ensures upper (λ g r p. search rules) in
    let high_told : FirstOf (λ i. lower (mix_beside b rows i)) levels b.kept high = c.first_reached-high.ensures lower (λ g r p. search rules) in
    record {
      declines = search rules;
      range = (first_among _ levels b.kept low low_told, first_among _ levels b.kept high high_told);
      told = (low_told, high_told);
      tells = λ held. (first_is_least b levels rows held.levels held.bounds upper low low_told, first_is_least b levels rows held.levels held.bounds lower high high_told);
    }
