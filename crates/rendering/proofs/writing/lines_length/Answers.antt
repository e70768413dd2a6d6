use Rattle.std.proofs.Common.{length, sym, ◌∙◌, arith, rules}
use Rattle.std.proofs.lemmas.Iterator.{YieldsList-from_slice, YieldsList-from_map}
use Rattle.std.proofs.lemmas.Iterator.Adapters.{at_most_from_yields_List, fits_from_length}
use Rattle.std.proofs.lemmas.Iterator.Consumers.{sum_by_from_yields_List}
use Rattle.std.proofs.lemmas.List.Concat.{length-flat_map}
use Rattle.rendering.proofs.writing.lines_length.Goals as goal

pub returns-clause-value : goal.returns-clause-value
returns-clause-value g c =
    let text = g.T.Lined.text c.args.scenarios in
    let items = c.args.items.now in
    sum_by_from_yields_List (λ x. length (text x)) items c.map.result c.sum.result c.sum.ensures.ran
    (YieldsList-from_map _ (λ x. length (text x)) (YieldsList-from_slice items cc) c.map.ensures.closure (λ x r q k. search rules))
    ∙ sym (length-flat_map text items)

pub returns-clause-bound : goal.returns-clause-bound
returns-clause-bound g c =
    let run = c.sum.ensures.runs tt in
    omega (arith, fits_from_length _ _ 256 65537 (at_most_from_yields_List (YieldsList-from_slice c.args.items.now cc) c.requires.few) c.map.ensures.closure (omega arith) (λ x r q k. search rules) run.0 run.0.seen run.1, run.3)
