use Rattle.std.proofs.Common.{length, arith, rules}
use Rattle.reckoning.specs.Enclosing as Enclosing
use Rattle.book.proofs.Layouts.{levels_begun, rows_begun}
use Rattle.book.proofs.laying.begin.Goals as goal

pub returns : goal.returns
returns g c =
    let p = length c.args.places.now.levels.now in
    let n = c.args.scenarios in
    record {
      outside = search rules;
      begun = record {
        levels = search rules;
        bounds = record { each = c.begin_rows.ensures.each; rest = c.begin_rows.ensures.rest };
        values = record { each = c.begin_rows-2.ensures.each; rest = c.begin_rows-2.ensures.rest };
      };
      lent = search rules;
      lays = λ ceiling shares one_each. record {
        levels = levels_begun p ceiling shares c.args.places.now.levels.now (omega arith);
        bounds = rows_begun Enclosing.bounds n p ceiling shares c.args.places.now.bounds.now c.begin_rows.new.rows (omega arith) (omega arith) one_each c.begin_rows.ensures.each;
        values = rows_begun g.R.Reckoning.operations n p ceiling shares c.args.places.now.values.now c.begin_rows-2.new.rows (omega arith) (omega arith) one_each c.begin_rows-2.ensures.each;
      };
    }
