use Rattle.std.proofs.Common.{◌≡◌, ◌+◌, ◌-◌, ◌*◌, List, length, take, drop, set, sym, refl, ap, subst, length-set, arith}
use Rattle.book.proofs.Strides.{Strided, ends_within, put_step, put_front}
use Rattle.book.proofs.laying.begin_rows.Goals as goal

pub loop-s-preserved : goal.loop-s-preserved
loop-s-preserved g c =
    let s = c.loop-s.s in
    let p = c.args.places in
    let rows = c.loop-s.rows in
    let v = c.whole.result in
    let k = s * p + p - s * p in
    let row = take k (drop (s * p) rows) in
    let within = ends_within s c.args.scenarios p (s * p) (length rows) refl (omega arith) (omega arith) in
    subst (λ (ys : List g.row.R-Value.Denot). Strided p (s + 1) ys c.args.rows.now (λ s old new. new ≡ set old 0 g.R.Reckoning.operations.whole)) (sym (put_front (s * p) k rows v (omega arith) (omega arith)))
    (put_step p s rows c.args.rows.now (set row 0 v) (λ s old new. new ≡ set old 0 g.R.Reckoning.operations.whole) within (length-set row 0 v) c.loop-s.invariant (ap (set row 0) c.whole.ensures))
