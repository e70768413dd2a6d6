-- The laws of Bounds.
use Rattle.std.specs.Prelude.{◌≡◌, ℕ, ◌+◌, ◌-◌, ◌*◌, ◌^◌, ◌≤◌, cond, List, [], ◌∷◌, ◌++◌, length, nat_le}
use Rattle.std.proofs.Common.{sym, subst, ◌∙◌, mul-le-mul_left, add-one, arith}
use Rattle.std.proofs.Math.Nat.{pow-succ'}
use Rattle.std.proofs.lemmas.List.{length_push}
use Rattle.std.proofs.lemmas.Bool.{cond-true, cond_both, le-leb, leb-true}
use Rattle.reckoning.specs.declared.grains.Grains.{Grains}
use Rattle.reckoning.specs.Outcomes.{Family, odds, total, summed, either}
use Rattle.reckoning.specs.Rounding.{pair, Encloses, rounded_out}
use Rattle.reckoning.specs.Enclosing.{Ranged, checked, both, ways, blended, Stands}
use Rattle.reckoning.specs.Roundings.{rounded_encloses, rounded_narrow, rounded_ranged}
use Rattle.reckoning.specs.Weights.{total_either}

pub checked_ranged : (g : Grains) → Ranged (checked g)
checked_ranged g =
    cond_both (nat_le g.lower g.upper) _ _ Ranged
    (λ p. cond_both (nat_le g.upper 1000000000000) _ _ Ranged (λ q. omega (arith, leb-true _ _ p, leb-true _ _ q)) (λ _. omega arith))
    (λ _. omega arith)

pub checked_same : (g : Grains) → Ranged g → checked g ≡ g
checked_same g h = cond-true _ _ _ (le-leb _ _ h.0) ∙ cond-true _ _ _ (le-leb _ _ h.1)

pub stands_for_none : (rates : List ℕ) → Stands (pair 0 0) rates []
stands_for_none rates = record { ranged = (omega arith, omega arith); encloses = record { above = omega arith; below = omega arith }; narrow = omega arith }

pub stands_for_whole : Stands (pair 1000000000000 1000000000000) [] ([] ∷ [])
stands_for_whole = record { ranged = (omega arith, omega arith); encloses = record { above = omega arith; below = omega arith }; narrow = omega arith }

pub ranged_where_stands : (g : Grains) (rates : List ℕ) (family : Family) → Stands g rates family → Ranged g
ranged_where_stands g rates family s = s.ranged

module _ (r : ℕ) (in_range : r ≤ 1000000) where
  odds_all : summed (odds r) both ≡ 1000000
  odds_all = omega arith

  -- a weighed sum of counts is at most certainty times a million
  pub ways_bound : (u v : ℕ) → u ≤ 1000000000000 → v ≤ 1000000000000 → ways r u v ≤ 1000000000000000000
  ways_bound u v p q =
      let s = 1000000 - r in
      let split : s + r ≡ 1000000 = omega arith in
      omega (arith, mul-le-mul_left s p, mul-le-mul_left r q)

  pub blended_ranged : (u v : Grains) → Ranged (blended r u v)
  blended_ranged u v =
      rounded_ranged 1000000 (omega arith) (odds r) (λ b. cond b (checked v) (checked u)) both odds_all (checked_ranged u, (checked_ranged v, tt))

  module _ (u v : Grains) (rates : List ℕ) (us vs : Family) (su : Stands u rates us) (sv : Stands v rates vs) where
    -- the blend of operands that are in range, and so read as they are
    abbrev plain : Grains
    plain = rounded_out 1000000 (odds r) (λ b. cond b v u) both

    read : blended r u v ≡ plain
    read = rw (checked_same u su.ranged, checked_same v sv.ranged)

    sum : total (rates ++ (r ∷ [])) (either us vs) ≡ summed (λ b. odds r b * cond b (total rates vs) (total rates us)) both
    sum = total_either rates us vs r ∙ omega arith

    plain_encloses : Encloses plain.lower plain.upper (total (rates ++ (r ∷ [])) (either us vs)) (1000000 ^ length (rates ++ (r ∷ [])))
    plain_encloses =
        rw (sum, length_push, add-one, pow-succ')
        (rounded_encloses 1000000 (omega arith) (odds r) (λ b. cond b v u) both (λ b. cond b (total rates vs) (total rates us)) (1000000 ^ length rates) (su.encloses, (sv.encloses, tt)))

    plain_narrow : plain.upper ≤ plain.lower + length (rates ++ (r ∷ []))
    plain_narrow =
        rw length_push
        (rounded_narrow 1000000 (omega arith) (odds r) (λ b. cond b v u) both (length rates) odds_all (su.narrow, (sv.narrow, tt)))

    plain_stands : Stands plain (rates ++ (r ∷ [])) (either us vs)
    plain_stands = record { ranged = subst Ranged read (blended_ranged u v); encloses = plain_encloses; narrow = plain_narrow }

    pub blended_stands : Stands (blended r u v) (rates ++ (r ∷ [])) (either us vs)
    blended_stands = subst (λ (g : Grains). Stands g (rates ++ (r ∷ [])) (either us vs)) (sym read) plain_stands
