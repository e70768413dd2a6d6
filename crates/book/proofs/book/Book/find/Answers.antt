use Rattle.std.proofs.Common.{◌∙◌, vec_items, rules, tests}
use Rattle.std.proofs.lemmas.Iterator.{YieldsList-from_slice}
use Rattle.std.proofs.lemmas.Iterator.Search.{position_from_yields_List}
use Rattle.std.proofs.lemmas.Iterator.Adapters.{position_from-zero}
use Rattle.book.specs.declared.contract.Contract.{Contract}
use Rattle.book.specs.Plain.{same_key}
use Rattle.book.proofs.Finds.{placed}
use Rattle.book.proofs.book.Book.find.Goals as goal

pub returns-clause-place : goal.returns-clause-place
returns-clause-place c =
    let items = vec_items c.args.self.now.contracts in
    position_from_yields_List (λ (x : Contract). same_key x.key c.args.key) _ _ c.position.result c.position.ensures.ran (YieldsList-from_slice items cc) (λ x b q k. search (rules, tests))
    ∙ position_from-zero (λ (x : Contract). same_key x.key c.args.key) items ∙ placed c.args.key c.args.self.now.shares.count 0 items
