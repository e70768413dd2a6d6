use Rattle.std.proofs.Common.{◌≡◌, ℕ, ◌<◌, length, replicate, get_or, take, vec_items, sym, ap, ◌∙◌, arith, length-take}
use Rattle.book.specs.Places.{handed_of, shown}
use Rattle.book.specs.Levels.{kept}
use Rattle.book.specs.Listed.{listed}
use Rattle.book.specs.Plain.{losses}
use Rattle.std.proofs.lemmas.List.{get_or-take}
use Rattle.rendering.specs.Printed.{level_text}
use Rattle.rendering.proofs.Tables.{told_taken, table_more, table_same, levels_more, kept_at, kept_below, chance_told}
use Rattle.rendering.proofs.statement.table.Goals as goal
use Rattle.rendering.proofs.statement.table.Goals.{in-Ok+in_ok-append, in_default}

pub loop-level-preserved : goal.loop-level-preserved
loop-level-preserved c =
    let b = c.args.book.now in
    let p = listed b in
    let levels = c.args.places.now.levels.now in
    let h = handed_of (shown c.args.places.now) in
    let i = c.loop-level.level-index in
    let ks = kept p.ceiling (losses p) in
    let before = vec_items c.loop-level.text in
    let after = vec_items c.match-chance.text in
    let level = get_or (take c.min-kept.result levels) i 0 in
    let taken : i < c.min-kept.result = omega (arith, length-take c.min-kept.result levels) in
    let at : level ≡ get_or levels i 0 = get_or-take c.min-kept.result levels i 0 taken in
    elim c.match-chance.branch [
      | in-Ok+in_ok-append w ↦
          let line = level_text level w.in-Ok.lower w.in-Ok.upper in
          let more = ap vec_items w.text-is ∙ told_taken line (replicate 64 0) w.level_line-told.new.out w.level_line-told.result w.level_line-told.ensures.tells (w.level_line-told.ensures.enough (omega arith)) before (vec_items w.append.new.text) w.in_ok-append.ensures.appends in
          record {
            rows = table_more before after level w.in-Ok.lower w.in-Ok.upper c.loop-level.invariant.rows more;
            kept = λ fits holds.
                let few : i < b.kept = omega (arith, c.levels_kept.ensures.kept, c.min-kept.ensures) in
                let within : i < length ks = omega (arith, holds.levels.count) in
                levels_more p ks i level w.in-Ok.lower w.in-Ok.upper before after within (kept_at p b.kept levels holds.levels i few ∙ sym at)
                (w.in-Ok.ensures.tells holds) (c.loop-level.invariant.kept fits holds) more;
          }
      | in_default w ↦ record {
        rows = table_same before after c.loop-level.invariant.rows (ap vec_items w.text-is);
        kept = λ fits holds.
            let few : i < b.kept = omega (arith, c.levels_kept.ensures.kept, c.min-kept.ensures) in
            let e = w.in_default.ensures.declines ∙ chance_told h p level fits (let low = kept_below p b.kept levels holds.levels i few in omega arith) in
            let z : ◌≡◌ {A = ℕ} 0 1 = cc in
            absurd (omega arith);
      }
    ]
