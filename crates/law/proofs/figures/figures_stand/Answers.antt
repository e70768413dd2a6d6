use Rattle.book.specs.Listed.{listed}
use Rattle.book.proofs.Lawfuls.{books_are_lawful}
use Rattle.law.proofs.Formed.{lawful_formed}
use Rattle.law.proofs.Truths.{figures_stand_lem}
use Rattle.law.proofs.figures.figures_stand.Goals as goal

pub returns : goal.returns
returns g c =
    let lists =
    figures_stand_lem g.R.Reckoning.operations g.R.Reckoning.stands
    (record {
      nothing_stands = g.met.R.Reckoning.nothing_stands;
      whole_stands = g.met.R.Reckoning.whole_stands;
      blend_stands = g.met.R.Reckoning.blend_stands;
    }) in
    record { lists = lists; books = λ b. lists (listed b) (lawful_formed (listed b) (books_are_lawful b)) }
