use Rattle.std.proofs.Common.{◌≡◌, ℕ, ◌+◌, ◌*◌, ◌/◌, ◌≤◌, length, sym, ap, ◌∙◌, subst, arith}
use Rattle.reckoning.specs.declared.grains.Grains.{Grains}
use Rattle.reckoning.specs.Enclosing.{Ranged}
use Rattle.reckoning.specs.Outcomes.{summed}
use Rattle.reckoning.specs.Rounding.{pair}
use Rattle.book.specs.Figures.{numbered, mixed, told_in}
use Rattle.book.proofs.Lookups.{told_lower, told_upper, bounds_told, mixed_ranged}
use Rattle.book.proofs.Mixtures.{turn, turn_bound, turn_end}
use Rattle.book.proofs.Strides.{ends_within}
use Rattle.book.proofs.telling.mix.Goals as goal

pub told-requires : goal.told-requires
told-requires c =
    let places = c.args.places in
    (omega arith, ends_within c.loop-s.s (length c.args.shares.now) places (c.loop-s.s * places) (length c.args.rows.now) mathlib.Core.Path.refl c.loop-s-test.true (omega arith))

-- the figures of the turn are those of the scenario that is numbered one more than the index
lower_is : (c : goal.After-lower) → c.lower.result ≡ (told_in c.args.places c.args.rows.now c.args.found (1 + c.loop-s.s)).lower
lower_is c =
    c.lower.ensures
    ∙ ap (λ (g : Grains). g.lower) (bounds_told c.args.places c.args.rows.now c.args.found c.loop-s.s c.told.result c.from-bounds.result.lower c.from-bounds.result.upper c.told.ensures.value c.from-bounds.ensures)

upper_is : (c : goal.After-upper) → c.upper.result ≡ (told_in c.args.places c.args.rows.now c.args.found (1 + c.loop-s.s)).upper
upper_is c =
    c.upper.ensures
    ∙ ap (λ (g : Grains). g.upper) (bounds_told c.args.places c.args.rows.now c.args.found c.loop-s.s c.told.result c.from-bounds.result.lower c.from-bounds.result.upper c.told.ensures.value c.from-bounds.ensures)

lower_fits : (c : goal.After-lower) → c.loop-s.lower + c.from-share.result * c.lower.result ≤ 1000000000000 * 1000000
lower_fits c =
    turn_bound c.args.shares.now (λ s. (told_in c.args.places c.args.rows.now c.args.found s).lower) c.loop-s.s c.loop-s.lower c.from-share.result c.lower.result
    c.loop-s-test.true c.loop-s.invariant.0 c.from-share.ensures (lower_is c) 1000000000000 (told_lower c.args.places c.args.rows.now c.args.found) c.requires.1.1

upper_fits : (c : goal.After-upper) → c.loop-s.upper + c.from-share.result * c.upper.result ≤ 1000000000000 * 1000000
upper_fits c =
    turn_bound c.args.shares.now (λ s. (told_in c.args.places c.args.rows.now c.args.found s).upper) c.loop-s.s c.loop-s.upper c.from-share.result c.upper.result
    c.loop-s-test.true c.loop-s.invariant.1 c.from-share.ensures (upper_is c) 1000000000000 (told_upper c.args.places c.args.rows.now c.args.found) c.requires.1.1

pub overflow_mul-lower : goal.overflow_mul-lower
overflow_mul-lower c = omega (arith, lower_fits c)

pub overflow_add-lower : goal.overflow_add-lower
overflow_add-lower c = omega (arith, lower_fits c)

pub overflow_mul-upper : goal.overflow_mul-upper
overflow_mul-upper c = omega (arith, upper_fits c)

pub overflow_add-upper : goal.overflow_add-upper
overflow_add-upper c = omega (arith, upper_fits c)

pub loop-s-preserved : goal.loop-s-preserved
loop-s-preserved c =
    let rows = c.args.rows.now in
    let below = bounds_told c.args.places rows c.args.found c.loop-s.s c.told.result c.from-bounds.result.lower c.from-bounds.result.upper c.told.ensures.value c.from-bounds.ensures in (
      turn c.args.shares.now (λ s. (told_in c.args.places rows c.args.found s).lower) c.loop-s.s c.loop-s.lower c.from-share.result c.lower.result
          c.loop-s-test.true c.loop-s.invariant.0 c.from-share.ensures (c.lower.ensures ∙ ap (λ (g : Grains). g.lower) below),
      turn c.args.shares.now (λ s. (told_in c.args.places rows c.args.found s).upper) c.loop-s.s c.loop-s.upper c.from-share.result c.upper.result
          c.loop-s-test.true c.loop-s.invariant.1 c.from-share.ensures (upper_is c),
    )

pub returns : goal.returns
returns c =
    let ws = c.args.shares.now in
    let g = told_in c.args.places c.args.rows.now c.args.found in
    let lower = turn_end ws (λ s. (g s).lower) c.loop-s.s c.loop-s.lower c.loop-s-test.false c.loop-s.invariant.0 in
    let upper = turn_end ws (λ s. (g s).upper) c.loop-s.s c.loop-s.upper c.loop-s-test.false c.loop-s.invariant.1 in
    let up : c.div_ceil.result ≡ (c.loop-s.upper + 999999) / 1000000 = omega (arith, c.div_ceil.ensures) in
    let value : pair (c.loop-s.lower / 1000000) c.div_ceil.result ≡ mixed ws g =
    ap (λ (b : ℕ). pair (c.loop-s.lower / 1000000) b) up
    ∙ ap (λ (a : ℕ). pair (a / 1000000) ((c.loop-s.upper + 999999) / 1000000)) lower
    ∙ ap (λ (b : ℕ). pair (summed (λ x. x.0 * (g x.1).lower) (numbered 1 ws) / 1000000) ((b + 999999) / 1000000)) upper in
    record { range = subst Ranged (sym value) (mixed_ranged c.args.places c.args.rows.now c.args.found ws c.requires.1.1); value = value }
