use Rattle.book.proofs.Lawfuls.{books_are_lawful}
use Rattle.book.proofs.theorems.books_stand.Goals as goal

pub returns : goal.returns
returns c = books_are_lawful
