use Rattle.std.proofs.Common.{[], sym, ◌∙◌, subst}
use Rattle.book.proofs.Lookups.{told_none}
use Rattle.book.proofs.telling.told.Goals as goal

pub returns-then-found-eq0 : goal.returns-then-found-eq0
returns-then-found-eq0 g c =
    let m = g.R.Reckoning in
    let met = g.met.R.Reckoning in
    record {
      value = c.nothing.ensures ∙ told_none m.reading m.operations.nothing _ c.args.found c.if-found-eq0.true;
      range = subst m.ranged (sym c.nothing.ensures) (met.stands_ranged _ [] [] (met.nothing_stands []));
    }
