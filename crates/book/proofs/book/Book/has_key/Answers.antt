use Rattle.std.proofs.Common.{◌∙◌}
use Rattle.book.specs.Listed.{listed}
use Rattle.book.proofs.Finds.{place_holds}
use Rattle.book.proofs.book.Book.has_key.Goals as goal

pub returns : goal.returns
returns c = c.is_some.ensures ∙ place_holds c.args.key (listed c.args.self.now).contracts c.find.result c.find.ensures.place
