-- What calls tell of a list that a run can reach is true to its outcomes.
use Rattle.std.proofs.Common.{◌≡◌, ℕ, ◌+◌, ◌≤◌, Bool, false, cond, not, ◌&&◌, ltb, leb, List, Some, None, Option, refl, ◌∙◌, arith}
use Rattle.std.proofs.lemmas.Bool.{and_from, or_from, not_from_true, cond-false, le-leb, lt-ltb, le-ltb}
use Rattle.reckoning.specs.Operations.{Operations}
use Rattle.reckoning.specs.Outcomes.{Family, outside}
use Rattle.reckoning.specs.Enclosing.{bounds}
use Rattle.law.specs.declared.call.Call.TheVariants.{ValueAt, ChanceAt, ReserveFor, LayerOf}
use Rattle.book.specs.declared.shown.Handed.{Handed}
use Rattle.book.specs.Declines.{places_wrong}
use Rattle.book.specs.Figures.{chance}
use Rattle.law.specs.Law.{TellsTruth}
use Rattle.book.specs.Plain.{Plain, scenarios}
use Rattle.book.specs.Pricing.{mix_lower, mix_upper, reserve_low, reserve_high, layer_low, layer_high}
use Rattle.law.specs.Runs.{declines, Sound}
use Rattle.law.specs.Truth.{Inside, Confidence, Layer, FiguresStand}
use Rattle.book.specs.Values.{value}

-- the first sentence does not hold, nor a later one
passes : (t : Bool) (n : ℕ) (rest : Option ℕ) → t ≡ false → rest ≡ None → cond t (Some n) rest ≡ None
passes t n rest f e = cond-false t (Some n) rest f ∙ e

in_range : (low high n : ℕ) → low ≤ n → n ≤ high → outside low high n ≡ false
in_range low high n l u = not_from_true (leb low n && leb n high) (and_from (leb low n) (leb n high) (le-leb low n l) (le-leb n high u))

-- ---- calls that ask within the book are accepted
module _ (h : Handed) (p : Plain) (fits : places_wrong h p ≡ false) where
  value_accepted : (s k : ℕ) → Inside p s k → declines h p (ValueAt s k) ≡ None
  value_accepted s k inside =
      passes (places_wrong h p) 7 _ fits
      (passes (outside 1 (scenarios p) s) 14 _ (in_range 1 (scenarios p) s inside.from_one inside.to_last)
      (passes (ltb p.ceiling k) 15 None (le-ltb p.ceiling k inside.under) refl))

  chance_accepted : (s k : ℕ) → s ≤ scenarios p → k ≤ p.ceiling → declines h p (ChanceAt s k) ≡ None
  chance_accepted s k last under =
      passes (places_wrong h p) 7 _ fits
      (passes (outside 0 (scenarios p) s) 14 _ (in_range 0 (scenarios p) s (omega arith) last)
      (passes (ltb p.ceiling k) 15 None (le-ltb p.ceiling k under) refl))

  reserve_accepted : (c : ℕ) → Confidence c → declines h p (ReserveFor c) ≡ None
  reserve_accepted c confidence =
      passes (places_wrong h p) 7 _ fits (passes (outside 1 1000000 c) 16 None (in_range 1 1000000 c confidence.from_one confidence.to_certain) refl)

  layer_accepted : (d t : ℕ) → Layer p d t → declines h p (LayerOf d t) ≡ None
  layer_accepted d t layer =
      passes (places_wrong h p) 7 _ fits
      (passes _ 17 None (or_from (not (ltb d t)) (ltb (p.ceiling + 1) t) (not_from_true (ltb d t) (lt-ltb d t layer.some)) (le-ltb (p.ceiling + 1) t layer.under)) refl)

-- ---- and what they tell is true
module _ {V : Type 0} (ops : Operations V) (stands : V → List ℕ → Family → Type 0) (means : FiguresStand ops stands) where
  pub sound_tells_truth : (h : Handed) (p : Plain) → Sound h p → TellsTruth ops stands h p
  sound_tells_truth h p sound =
      let figures = means p sound.formed in
      let fits = sound.fits in
      record {
        value_stands = λ s k inside. (value ops p s k, record { accepted = value_accepted h p fits s k inside; answers = refl }, figures.value_stands s k inside);
        bounds_stand = λ s k inside. (value bounds p s k, record { accepted = value_accepted h p fits s k inside; answers = refl }, figures.bounds_stand s k inside);
        chance_within = λ s k inside. (
          (chance p s k).lower,
          (chance p s k).upper,
          record { accepted = chance_accepted h p fits s k inside.to_last inside.under; answers = refl },
          record { encloses = figures.chance_enclosed s k inside; narrow = figures.chance_narrow s k inside },
        );
        mix_within = λ k under. (
          mix_lower p k,
          mix_upper p k,
          record { accepted = chance_accepted h p fits 0 k (omega arith) under; answers = refl },
          record { encloses = figures.mix_enclosed k under; narrow = figures.mix_narrow k under },
        );
        reserve_ends = λ c confidence. (
          reserve_low p c,
          reserve_high p c,
          record { accepted = reserve_accepted h p fits c confidence; answers = refl },
          record { not_above = figures.reserve_not_above c confidence; not_below = figures.reserve_not_below c confidence; near = λ k. figures.reserve_near c k confidence },
        );
        layer_within = λ d t layer. (
          layer_low p d t,
          layer_high p d t,
          record { accepted = layer_accepted h p fits d t layer; answers = refl },
          record { encloses = figures.layer_enclosed d t layer; narrow = figures.layer_narrow d t layer },
        );
      }
