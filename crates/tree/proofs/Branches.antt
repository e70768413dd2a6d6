-- The outcomes that are counted, where one pair more stands at the end.
use Rattle.std.proofs.Common.{◌≡◌, ℕ, suc, ◌+◌, ◌-◌, ◌<◌, Bool, true, false, cond, ◌&&◌, ltb, leb, List, [], ◌∷◌, ◌++◌, length, refl, ◌∙◌, inl, inr, add-one, arith, length-append}
use Rattle.std.proofs.lemmas.List.{length_push, length-map, map_push}
use Rattle.std.proofs.lemmas.List.Elements.{filter-append}
use Rattle.std.proofs.lemmas.Bool.{ltb-true, ltb-false, and_parts, and_cases, cond_both}
use Rattle.reckoning.specs.Outcomes.{Outcome, Family, odds, weight, extended, either, outcomes, within}
use Rattle.reckoning.specs.Greatest.{weighs, weightless}
use Rattle.book.proofs.Families.{outcomes_sized, within_either}
use Rattle.tree.specs.declared.pair.Pair.{Pair}
use Rattle.tree.specs.Counted.{losses, rates, possible, counted}

length_cond : (t : Bool) (o : Outcome) (os : Family) → length (cond t (o ∷ os) os) ≡ cond t 1 0 + length os
length_cond true o os = omega arith
length_cond false o os = omega arith

module _ (rs : List ℕ) (r : ℕ) where
  -- a branch of weight above zero leads to as many outcomes as the tree of one pair fewer has
  branch_open : (b : Bool) → 0 < odds r b → (os : Family) → length (possible (rs ++ (r ∷ [])) (extended b os)) ≡ length (possible rs os)
  branch_open b h [] = refl
  branch_open b h (o ∷ os) =
      rw (weighs rs r o b h, length_cond (ltb 0 (weight rs o)) (o ++ (b ∷ [])), length_cond (ltb 0 (weight rs o)) o, branch_open b h os)

  -- a branch of weight zero leads to none
  branch_shut : (b : Bool) → odds r b ≡ 0 → (os : Family) → length (possible (rs ++ (r ∷ [])) (extended b os)) ≡ 0
  branch_shut b h [] = refl
  branch_shut b h (o ∷ os) = rw (weightless rs r o b h) (branch_shut b h os)

-- how many outcomes are counted
abbrev pub tally : List Pair → ℕ → ℕ
tally ps k = length (counted k ps)

module _ (ps : List Pair) (p : Pair) (k : ℕ) where
  -- the outcomes of the pairs before, and those that leave room for the loss of the last
  abbrev before : Family
  before = within k (losses ps) (outcomes (length ps))

  abbrev room : Family
  room = cond (leb p.loss k) (within (k - p.loss) (losses ps) (outcomes (length ps))) []

  abbrev all_rates : List ℕ
  all_rates = rates ps ++ (p.rate ∷ [])

  split : within k (losses ps ++ (p.loss ∷ [])) (outcomes (suc (length ps))) ≡ either before room
  split = within_either (losses ps) p.loss k (outcomes (length ps)) (rw length-map (outcomes_sized (length ps)))

  -- as many as lie on either branch
  abbrev pub without_claim : ℕ
  without_claim = length (possible all_rates (extended false before))

  abbrev pub with_claim : ℕ
  with_claim = length (possible all_rates (extended true room))

  two_branches : tally (ps ++ (p ∷ [])) k ≡ without_claim + with_claim
  two_branches = rw (map_push, map_push, length_push, add-one, split, filter-append, length-append)

  without_is : without_claim ≡ cond (ltb 0 (odds p.rate false)) (tally ps k) 0
  without_is =
      cond_both (ltb 0 (odds p.rate false)) (tally ps k) 0 (λ n. without_claim ≡ n)
      (λ e. branch_open (rates ps) p.rate false (ltb-true _ _ e) before)
      (λ e. branch_shut (rates ps) p.rate false (omega (arith, ltb-false _ _ e)) before)

  with_is : with_claim ≡ cond (ltb 0 (odds p.rate true) && leb p.loss k) (tally ps (k - p.loss)) 0
  with_is =
      cond_both (ltb 0 (odds p.rate true) && leb p.loss k) (tally ps (k - p.loss)) 0 (λ n. with_claim ≡ n)
      (λ e. let both = and_parts _ _ e in branch_open (rates ps) p.rate true (ltb-true _ _ both.0) room ∙ rw both.1)
      (λ e.
      elim (and_cases (ltb 0 p.rate) (leb p.loss k) e) [
        | inl never ↦ branch_shut (rates ps) p.rate true (omega (arith, ltb-false 0 p.rate never)) room
        | inr above ↦ rw above
      ])

  -- as many as the tree of the pairs before has on either branch that counts
  pub tallied : tally (ps ++ (p ∷ [])) k ≡ cond (ltb 0 (odds p.rate false)) (tally ps k) 0 + cond (ltb 0 (odds p.rate true) && leb p.loss k) (tally ps (k - p.loss)) 0
  tallied = two_branches ∙ rw (without_is, with_is)
