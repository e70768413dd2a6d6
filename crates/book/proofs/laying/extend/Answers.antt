use Rattle.std.proofs.Common.{◌≡◌, ℕ, ◌-◌, ◌*◌, ◌<◌, ◌≤◌, length, get_or, take, drop, sym, ap, ◌∙◌, subst, arith, rules}
use Rattle.std.proofs.lemmas.List.{length-take}
use Rattle.reckoning.specs.Enclosing as Enclosing
use Rattle.book.specs.Entries.{millionths_of, entry_of}
use Rattle.book.specs.Laid.{RowsOutside}
use Rattle.book.specs.Plain.{scenarios}
use Rattle.std.proofs.lemmas.Bool.{lt-ltb, le-ltb}
use Rattle.book.specs.Anyhow.{moved_over, count_over}
use Rattle.book.specs.declared.merging.Merge.{Merge}
use Rattle.book.specs.Merging.{row_of}
use Rattle.book.specs.Turned.{turns, levels_turned, row_turned, merge_of}
use Rattle.book.proofs.Overlays.{merge_kept, counted, written, rows_follow, counted_over, levels_over, rows_over}
use Rattle.book.proofs.Layouts.{before, levels_are, too_many, few_enough, levels_merged, rows_merged}
use Rattle.book.proofs.laying.extend.Goals as goal

pub returns-then-merged-places : goal.returns-then-merged-places
returns-then-merged-places g c =
    let f = c.args.frame in
    let levels = c.args.levels.now in
    let w = c.units.result in
    let n = c.merged_len-merged.result in
    let within : f.len ≤ length levels = omega arith in
    let merge : c.of-merge.result ≡ merge_of levels f.len w f.ceiling = c.of-merge.ensures.value ∙ merge_kept levels f.len w f.ceiling within in
    let turns : n ≡ count_over levels f.len f.ceiling w = subst (λ (m : Merge). n ≡ turns (2 * m.own) levels m.own m.moved m.loss) merge c.merged_len-merged.ensures.turns in
    record {
      outside = search rules;
      over = let count = counted_over levels f.len f.ceiling w c.args.contract.now.loss.units n c.units.ensures turns in lt-ltb f.places _ (omega arith);
      grows = search rules;
      lays = λ p framed was.
          let e = entry_of f.scenarios c.args.contract.now in
          let loss : e.loss ≡ w = sym c.units.ensures in
          let are = levels_are p e f.ceiling f.places w f.len n levels framed.ceiling framed.places loss was.levels in
          too_many p e f.ceiling f.places w f.len n levels framed.ceiling framed.places loss was.levels
          (counted (before p e) levels f.len f.ceiling w n within f.low_ceiling are turns) (omega arith);
    }

pub returns : goal.returns
returns g c =
    let f = c.args.frame in
    let ops = g.R.Reckoning.operations in
    let levels = c.args.levels.now in
    let w = c.units.result in
    let u = c.args.contract.now.loss.units in
    let n = c.merged_len-merged.result in
    let rates = take (f.scenarios - 0) c.args.contract.now.rates in
    let one_each : length rates ≡ f.scenarios = omega (arith, length-take (f.scenarios - 0) c.args.contract.now.rates, c.args.contract.now.eight) in
    let all : f.scenarios ≡ f.scenarios - 0 = omega arith in
    let are_rates : (entry_of f.scenarios c.args.contract.now).rates ≡ millionths_of rates = ap (λ (k : ℕ). millionths_of (take k c.args.contract.now.rates)) all in
    let within : f.len ≤ length levels = omega arith in
    let fits : n ≤ f.places = omega arith in
    let rest = moved_over levels f.len f.ceiling w in
    let merge : c.of-merge.result ≡ merge_of levels f.len w f.ceiling = c.of-merge.ensures.value ∙ merge_kept levels f.len w f.ceiling within in
    let turns : n ≡ count_over levels f.len f.ceiling w = subst (λ (m : Merge). n ≡ turns (2 * m.own) levels m.own m.moved m.loss) merge c.merged_len-merged.ensures.turns in
    let new_levels : c.merge_levels.new.levels ≡ levels_turned n levels f.len rest w =
    subst (λ (m : Merge). c.merge_levels.new.levels ≡ levels_turned n levels m.own m.moved m.loss) merge c.merge_levels.ensures.turned in
    let new_bounds =
    subst (λ (m : Merge). (s : ℕ) → s < length rates → row_of f.places s c.merge_rows.new.rows ≡ row_turned Enclosing.bounds levels m.loss (get_or (millionths_of rates) s 0) n (row_of f.places s c.args.bounds.now) m.own m.moved) merge c.merge_rows.ensures.turned in
    let new_values =
    subst (λ (m : Merge). (s : ℕ) → s < length rates → row_of f.places s c.merge_rows-2.new.rows ≡ row_turned ops levels m.loss (get_or (millionths_of rates) s 0) n (row_of f.places s c.args.values.now) m.own m.moved) merge c.merge_rows-2.ensures.turned in
    record {
      outside = (
        fits,
        record {
          levels = c.merge_levels.ensures.rest;
          bounds = subst (λ (k : ℕ). RowsOutside k f.places n c.args.bounds.now c.merge_rows.new.rows) one_each c.merge_rows.ensures.outside;
          values = subst (λ (k : ℕ). RowsOutside k f.places n c.args.values.now c.merge_rows-2.new.rows) one_each c.merge_rows-2.ensures.outside;
        },
      );
      over =
          let count = counted_over levels f.len f.ceiling w u n c.units.ensures turns in (
            le-ltb f.places _ (omega arith),
            count,
            record {
              levels = levels_over levels f.len f.ceiling w u n c.units.ensures turns c.merge_levels.new.levels new_levels;
              bounds = rows_over levels f.len f.ceiling w u n c.units.ensures turns Enclosing.bounds f.places rates _ c.args.bounds.now c.merge_rows.new.rows are_rates new_bounds;
              values = rows_over levels f.len f.ceiling w u n c.units.ensures turns ops f.places rates _ c.args.values.now c.merge_rows-2.new.rows are_rates new_values;
            },
          );
      grows = search rules;
      lays = λ p framed was.
          let e = entry_of f.scenarios c.args.contract.now in
          let loss : e.loss ≡ w = sym c.units.ensures in
          let are = levels_are p e f.ceiling f.places w f.len n levels framed.ceiling framed.places loss was.levels in
          let count = counted (before p e) levels f.len f.ceiling w n within f.low_ceiling are turns in
          let one_rate : length rates ≡ scenarios p = one_each ∙ sym framed.scenarios in
          let room_bounds : length rates * f.places ≤ length c.args.bounds.now = subst (λ (k : ℕ). k * f.places ≤ length c.args.bounds.now) (sym one_each) (omega arith) in
          let room_values : length rates * f.places ≤ length c.args.values.now = subst (λ (k : ℕ). k * f.places ≤ length c.args.values.now) (sym one_each) (omega arith) in (
            few_enough p e f.ceiling f.places w f.len n levels framed.ceiling framed.places loss was.levels count fits,
            record {
              levels = levels_merged p e f.ceiling f.places w f.len n levels framed.ceiling framed.places loss was.levels count c.merge_levels.new.levels (drop n levels)
                  (written (before p e) levels f.len f.ceiling w n within f.low_ceiling are c.merge_levels.new.levels count (omega arith) new_levels);
              bounds = rows_merged p e f.ceiling f.places w f.len n levels framed.ceiling framed.places loss was.levels count Enclosing.bounds rates c.args.bounds.now c.merge_rows.new.rows are_rates one_rate was.bounds
                  (rows_follow Enclosing.bounds levels f.len f.ceiling w n f.places rates c.args.bounds.now c.merge_rows.new.rows within f.low_ceiling fits room_bounds new_bounds);
              values = rows_merged p e f.ceiling f.places w f.len n levels framed.ceiling framed.places loss was.levels count ops rates c.args.values.now c.merge_rows-2.new.rows are_rates one_rate was.values
                  (rows_follow ops levels f.len f.ceiling w n f.places rates c.args.values.now c.merge_rows-2.new.rows within f.low_ceiling fits room_values new_values);
            },
          );
    }
