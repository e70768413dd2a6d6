use Rattle.std.proofs.Common.{◌≡◌, ℕ, ◌+◌, ◌-◌, ◌*◌, ◌<◌, ◌≤◌, length, sym, refl, ap, ◌∙◌, subst, arith}
use Rattle.reckoning.specs.Enclosing as Enclosing
use Rattle.reckoning.specs.declared.grains.Grains.{Grains}
use Rattle.book.specs.Figures.{chance}
use Rattle.book.specs.Listed.{listed}
use Rattle.book.specs.Merging.{reached, only_zero}
use Rattle.book.specs.Plain.{losses}
use Rattle.book.specs.Pricing.{mix_lower, mix_upper, layer_low, layer_high}
use Rattle.book.proofs.Reaches.{reached_zero}
use Rattle.book.proofs.Readings.{levels_picked, chance_held}
use Rattle.book.proofs.Stretches.{Ahead, no_levels, come_none, come_more, come_all, stretch_kept, stretch_more, stretch_within, stretch_order, ahead_none, stretch_even, ahead_more, ahead_all}
use Rattle.book.proofs.book.Book.layer_sums.Goals as goal

pub loop-i-init : goal.loop-i-init
loop-i-init c =
    let p = listed c.args.self.now in (
      omega arith,
      omega arith,
      omega arith,
      omega arith,
      λ held rows.
          (ahead_none (reached only_zero (losses p)) c.args.from c.args.to (reached_zero only_zero (losses p) refl), no_levels (λ k. 1000000000000 - mix_upper p k) c.args.from, no_levels (λ k. 1000000000000 - mix_lower p k) c.args.from),
      come_none (λ g. g.upper) c.args.self.now c.args.levels.now c.args.bounds.now c.args.from c.args.to,
      come_none (λ g. g.lower) c.args.self.now c.args.levels.now c.args.bounds.now c.args.from c.args.to,
    )

pub loop-i-preserved : goal.loop-i-preserved
loop-i-preserved c =
    let b = c.args.self.now in
    let p = listed b in
    let levels = c.args.levels.now in
    let d = c.args.from in
    let a = c.loop-i.at in
    let t = c.args.to in
    let end = c.end_of_stretch-end.result in
    let is-end = c.end_of_stretch-end.ensures ∙ stretch_kept levels b.kept (c.loop-i.i + 1) a t (omega arith) in
    let told = c.chance_at-told.result in
    let u = 1000000000000 - told.upper in
    let v = 1000000000000 - told.lower in
    let wide : c.from-wide.result ≡ end - a = c.from-wide.ensures in
    let up : a ≤ end = omega arith in
    let down : end ≤ t = omega arith in
    let lows = ap (λ (n : ℕ). n * u) wide in
    let highs = ap (λ (n : ℕ). n * v) wide in (
      omega arith,
      down,
      omega (arith, stretch_order a end c.loop-i.low c.loop-i.high u v (omega arith) (omega arith)),
      omega (arith, stretch_within 1000000000000 d a end c.loop-i.high v (omega arith) up (omega arith) (omega arith)),
      λ held rows.
          let S = reached only_zero (losses p) in
          let inv = c.loop-i.invariant.4 held rows in
          let are = levels_picked Enclosing.bounds p b.kept levels c.args.bounds.now held rows in
          let within : b.kept ≤ length levels = omega arith in
          let under : t ≤ b.ceiling + 1 = omega arith in
          let next : c.loop-i.i < b.kept = omega arith in
          let same : (k : ℕ) → a ≤ k → k < end → chance p 0 k ≡ told =
          λ k l h.
          sym (c.chance_at-told.ensures.value
          ∙ chance_held b levels c.args.bounds.now 0 k (c.loop-i.i + 1) held rows (omega arith) (omega arith)
          (stretch_even S levels b.kept b.ceiling t within are under c.loop-i.i a inv.0 next k l (omega arith) (omega arith))) in (
            subst (λ (x : ℕ). Ahead S (c.loop-i.i + 1) x t) (sym is-end) (ahead_more S levels b.kept b.ceiling t within are under c.loop-i.i a inv.0 next),
            ap (λ (n : ℕ). c.loop-i.low + n * u) wide
                ∙ stretch_more (λ k. 1000000000000 - mix_upper p k) u d a end c.loop-i.low (omega arith) up inv.1 (λ k l h. ap (λ (g : Grains). 1000000000000 - g.upper) (same k l h)),
            ap (λ (n : ℕ). c.loop-i.high + n * v) wide
                ∙ stretch_more (λ k. 1000000000000 - mix_lower p k) v d a end c.loop-i.high (omega arith) up inv.2 (λ k l h. ap (λ (g : Grains). 1000000000000 - g.lower) (same k l h)),
          ),
      come_more (λ g. g.upper) b levels c.args.bounds.now d t c.loop-i.i a c.loop-i.low end c.from-wide.result told (omega arith) c.chance_at-told.ensures.value is-end wide c.loop-i.invariant.5,
      come_more (λ g. g.lower) b levels c.args.bounds.now d t c.loop-i.i a c.loop-i.high end c.from-wide.result told (omega arith) c.chance_at-told.ensures.value is-end wide c.loop-i.invariant.6,
    )

pub returns : goal.returns
returns c =
    let b = c.args.self.now in
    let p = listed b in
    let levels = c.args.levels.now in
    let a = c.loop-i.at in
    let t = c.args.to in
    let all : c.loop-i.i ≡ b.kept = omega arith in
    record {
      range = (omega arith, omega arith);
      told = (
        come_all (λ g. g.upper) b levels c.args.bounds.now c.args.from t c.loop-i.i a c.loop-i.low (omega arith) c.loop-i.invariant.5,
        come_all (λ g. g.lower) b levels c.args.bounds.now c.args.from t c.loop-i.i a c.loop-i.high (omega arith) c.loop-i.invariant.6,
      );
      tells = λ held rows.
          let S = reached only_zero (losses p) in
          let inv = c.loop-i.invariant.4 held rows in
          let are = levels_picked Enclosing.bounds p b.kept levels c.args.bounds.now held rows in
          let within : b.kept ≤ length levels = omega arith in
          let done = ahead_all S levels b.kept b.ceiling t within are (omega arith) a (omega arith) (subst (λ (n : ℕ). Ahead S n a t) all inv.0) in
          (inv.1 ∙ ap (λ (x : ℕ). layer_low p c.args.from x) done, inv.2 ∙ ap (λ (x : ℕ). layer_high p c.args.from x) done);
    }
