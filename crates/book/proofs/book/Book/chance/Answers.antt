use Rattle.std.proofs.Common.{◌≡◌, sym, ℕ, ◌+◌, ap, refl, ◌∙◌, arith, rules}
use Rattle.reckoning.specs.Enclosing as Enclosing
use Rattle.book.specs.Figures.{mixed_at, told_in}
use Rattle.book.specs.Listed.{shares_of, listed}
use Rattle.book.specs.Merging.{reached, only_zero}
use Rattle.book.specs.declared.shown.Handed.{Handed}
use Rattle.book.specs.Plain.{losses}
use Rattle.book.specs.Told.{found_below}
use Rattle.book.proofs.Halvings.{found_kept, found_picked}
use Rattle.book.proofs.Readings.{levels_picked, chance_held}
use Rattle.book.proofs.book.Book.chance.Goals as goal

pub returns : goal.returns
returns g c =
    let b = c.args.self.now in
    let s = c.args.scenario in
    let k = c.args.level in
    let levels = c.args.places.now.levels.now in
    let rows = c.args.places.now.bounds.now in
    let fits = sym (ap (λ (h : Handed). h.levels) c.handed.ensures.value) ∙ (c.if-are_places_wrong.ensures.room refl).same in
    let found : c.below-found.result ≡ found_below levels b.kept (k + 1) = c.below-found.ensures.value ∙ found_kept levels (k + 1) b.kept (omega arith) in
    record {
      declines = search rules;
      range = c.chance_at-told.ensures.range;
      told = c.chance_at-told.ensures.value ∙ ap (λ (n : ℕ). mixed_at (shares_of b.shares) (told_in b.places rows n) s) found;
      tells = λ held.
          let are = levels_picked Enclosing.bounds (listed b) b.kept levels rows held.levels held.bounds in
          c.chance_at-told.ensures.value
          ∙ chance_held b levels rows s k c.below-found.result held.levels held.bounds (omega (arith, b.shares.one_each)) (omega arith)
          (found ∙ found_picked (reached only_zero (losses (listed b))) levels b.kept (b.ceiling + 1) (k + 1) (omega arith) (omega arith) are);
    }
