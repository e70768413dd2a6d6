use Rattle.std.proofs.Common.{◌≡◌, ℕ, ◌<◌, ◌≤◌, true, false, length, take, drop, sym, ap, ◌∙◌, subst, arith, below_more}
use Rattle.std.specs.Iterator.Adapters.{enumerate_source, enumerate_count}
use Rattle.std.specs.Slice.Iter.{iter_rest}
use Rattle.std.proofs.lemmas.List.{length-take, length-drop, get_or-take}
use Rattle.book.specs.Reserved.{mix_beside, FirstOf}
use Rattle.book.proofs.Founds.{next_is}
use Rattle.book.proofs.book.Book.first_reached.Goals as goal
use Rattle.book.proofs.book.Book.first_reached.Goals.{in_default, in-Some+then-passes}

pub loop-i-preserved : goal.loop-i-preserved
loop-i-preserved g c =
    let b = c.args.self.now in
    let rows = c.args.bounds.now in
    let front = take b.kept c.args.levels.now in
    let n = enumerate_count c.loop-i.rest in
    let steps = c.in-Some.ensures.steps in
    let next = next_is front (iter_rest (enumerate_source c.next.new.self)) n c.in-Some.level.now (sym steps.0 ∙ c.loop-i.invariant.0) in (
      next.2 ∙ ap (λ (k : ℕ). drop k front) (sym steps.2),
      omega (arith, length-take b.kept c.args.levels.now),
      λ test answers j l.
          let here : false ≡ test (mix_beside b rows n) =
          sym c.if-passes.false ∙ answers c.chance_at.result c.passes.result c.passes.ensures ∙ ap test c.chance_at.ensures.value ∙ ap (λ (k : ℕ). test (mix_beside b rows k)) steps.1 in
          below_more (λ k. test (mix_beside b rows k) ≡ false) n (c.loop-i.invariant.2 test answers) (sym here) j (omega arith),
    )

pub returns : goal.returns
returns g c = λ test answers.
    let b = c.args.self.now in
    let levels = c.args.levels.now in
    let rows = c.args.bounds.now in
    let front = take b.kept levels in
    let n = enumerate_count c.loop-i.rest in
    let First = FirstOf (λ i. test (mix_beside b rows i)) levels b.kept in
    elim c.match-next.branch [
      | in_default w ↦
          let steps = w.in_default.ensures.steps in
          let end : b.kept ≤ n = omega (arith, ap length c.loop-i.invariant.0, length-drop n front, length-take b.kept levels) in
          subst First (sym w.result-is) (λ j l. c.loop-i.invariant.2 test answers j (omega arith))
      | in-Some+then-passes w ↦
          let steps = w.in-Some.ensures.steps in
          let next = next_is front (iter_rest (enumerate_source c.next.new.self)) n w.in-Some.level.now (sym steps.0 ∙ c.loop-i.invariant.0) in
          let inside : n < b.kept = omega (arith, length-take b.kept levels) in
          let here : true ≡ test (mix_beside b rows n) =
          sym w.if-passes.true ∙ answers w.chance_at.result w.passes.result w.passes.ensures ∙ ap test w.chance_at.ensures.value ∙ ap (λ (k : ℕ). test (mix_beside b rows k)) steps.1 in
          subst First (sym w.result-is) (n, inside, sym (get_or-take b.kept levels n 0 inside) ∙ next.1, sym here, c.loop-i.invariant.2 test answers)
    ]
