use Rattle.std.proofs.Common.{◌≡◌, ℕ, ◌+◌, ◌-◌, ◌*◌, length, get_or, take, drop, sym, refl, ap, ◌∙◌, subst, arith}
use Rattle.std.proofs.lemmas.List.{get_or-map}
use Rattle.reckoning.specs.declared.rate.Rate.{Rate}
use Rattle.book.specs.Entries.{millionths_of}
use Rattle.book.proofs.Strides.{ends_within, put_step, MergedRow}
use Rattle.book.proofs.valuing.merge_rows.Goals as goal

pub loop-s-preserved : goal.loop-s-preserved
loop-s-preserved g c =
    let s = c.loop-s.s in
    let p = c.args.places in
    let rates = c.args.rates.now in
    let Merged = MergedRow g.R.Reckoning.operations c.args.levels.now c.args.merge c.args.merged in
    let rate : c.index-rates-s.result.millionths ≡ get_or (millionths_of rates) s 0 =
    ap (λ (r : Rate). r.millionths) c.index-rates-s.is ∙ sym (get_or-map (λ (r : Rate). r.millionths) rates s c.index-rates-s.result 0 (omega arith)) in
    put_step p s c.loop-s.rows c.args.rows.now c.merge_row.new.row (λ s. Merged (get_or (millionths_of rates) s 0)) (ends_within s (length rates) p (s * p) _ refl (omega arith) (omega arith)) c.merge_row.auto.row c.loop-s.invariant
    (subst (λ (r : ℕ). Merged r (take (s * p + p - s * p) (drop (s * p) c.loop-s.rows)) c.merge_row.new.row) rate (c.merge_row.ensures.rest, c.merge_row.ensures.turned))
