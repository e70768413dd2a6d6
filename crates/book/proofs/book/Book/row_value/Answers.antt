use Rattle.std.proofs.Common.{◌≡◌, ℕ, ◌+◌, ◌-◌, [], ◌∷◌, ap, ◌∙◌, arith, rules}
use Rattle.book.specs.Figures.{told_at}
use Rattle.book.specs.Listed.{listed}
use Rattle.book.specs.Merging.{reached, only_zero, row_of}
use Rattle.book.specs.Plain.{losses}
use Rattle.book.specs.Values.{value}
use Rattle.book.specs.Told.{found_below}
use Rattle.book.proofs.Halvings.{found_kept, found_picked}
use Rattle.book.proofs.Readings.{value_ranged, levels_picked, told_held}
use Rattle.book.proofs.book.Book.row_value.Goals as goal

pub returns : goal.returns
returns g c =
    let m = g.R.Reckoning in
    let met = g.met.R.Reckoning in
    let b = c.args.self.now in
    let s = c.args.scenario in
    let k = c.args.level in
    let row = row_of b.places (s - 1) c.args.rows.now in
    let found : c.below-found.result ≡ found_below c.args.levels.now b.kept (k + 1) = c.below-found.ensures.value ∙ found_kept c.args.levels.now (k + 1) b.kept (omega arith) in
    record {
      declines = search rules;
      range = c.told.ensures.range;
      told = c.told.ensures.value ∙ ap (λ (n : ℕ). told_at m.reading m.operations.nothing row n) found;
      tells = λ held held_rows.
          let levels = c.args.levels.now in
          let are = levels_picked m.operations (listed b) b.kept levels c.args.rows.now held held_rows in
          let ranged = value_ranged m.operations m.ranged met.blend_ranged (met.stands_ranged m.operations.whole [] ([] ∷ []) met.whole_stands) b s k in
          c.told.ensures.value
          ∙ told_held m.operations (listed b) b.kept levels c.args.rows.now held held_rows m.reading m.operations.nothing s k c.below-found.result
          (omega arith) (omega (arith, b.shares.one_each)) (omega arith)
          (found ∙ found_picked (reached only_zero (losses (listed b))) levels b.kept (b.ceiling + 1) (k + 1) (omega arith) (omega arith) are)
          (met.reading_same (value m.operations (listed b) s k) ranged);
    }
