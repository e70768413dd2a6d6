use Rattle.std.proofs.Common.{ℕ, List, ◌∷◌, sym, ap, ◌∙◌}
use Rattle.std.proofs.lemmas.Iterator.{YieldsList-from_slice, YieldsList-from_take}
use Rattle.std.proofs.lemmas.Iterator.Consumers.{YieldsList-end}
use Rattle.std.proofs.lemmas.Simd.{map-map}
use Rattle.reckoning.specs.declared.rate.Rate.{Rate}
use Rattle.book.specs.Entries.{millionths_of}
use Rattle.rendering.proofs.writing.numbers_of.Goals as goal

pub returns : goal.returns
returns c =
    let contract = c.args.contract.now in
    let rates = YieldsList-end (YieldsList-from_take c.args.scenarios (YieldsList-from_slice contract.rates cc) cc) c.loop-rate.yielded _ c.loop-rate.yielded_by _ _ c.in-None.is c.next.ensures.steps in
    record {
      value = c.loop-rate.invariant.so_far
          ∙ ap (λ (ns : List ℕ). contract.key ∷ (contract.loss.units ∷ ns)) (sym (map-map (λ (r : Rate). r.millionths) (λ r. r.now) c.loop-rate.yielded) ∙ ap millionths_of rates.0);
    }
