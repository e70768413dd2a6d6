-- The outcomes of no greater loss where one contract more has entered.
use Rattle.std.proofs.Common.{◌≡◌, ℕ, zero, suc, ◌+◌, ◌-◌, ◌<◌, ◌≤◌, Bool, true, false, cond, leb, List, [], ◌∷◌, ◌++◌, length, refl, ap, inl, inr, arith}
use Rattle.std.specs.List.{AllByRecursion}
use Rattle.std.proofs.lemmas.List.{length_push}
use Rattle.std.proofs.lemmas.List.Elements.{filter-append}
use Rattle.std.proofs.ByRecursion.{All-append}
use Rattle.std.proofs.lemmas.Bool.{cases_lt, le-leb, lt-leb}
use Rattle.std.proofs.lemmas.Bool.Decides.{nat_tests}
use Rattle.reckoning.specs.Outcomes.{Outcome, Family, lost, loss, extended, either, outcomes, within}

-- outcomes of n contracts
abbrev pub Sized : ℕ → Family → Type 0
Sized n os = AllByRecursion (λ o. length o ≡ n) os

extended_sized : (n : ℕ) (b : Bool) (os : Family) → Sized n os → Sized (suc n) (extended b os)
extended_sized n b [] h = tt
extended_sized n b (o ∷ os) h = (omega (arith, length_push o b, h.0), extended_sized n b os h.1)

pub outcomes_sized : (n : ℕ) → Sized n (outcomes n)
outcomes_sized zero = (refl, tt)
outcomes_sized (suc n) =
    All-append (λ o. length o ≡ suc n) (extended false (outcomes n)) (extended true (outcomes n))
    (extended_sized n false (outcomes n) (outcomes_sized n))
    (extended_sized n true (outcomes n) (outcomes_sized n))

pub loss_push : (ws : List ℕ) (o : Outcome) (w : ℕ) (b : Bool) → length o ≡ length ws → loss (ws ++ (w ∷ [])) (o ++ (b ∷ [])) ≡ loss ws o + lost w b
loss_push [] [] w b e = omega arith
loss_push [] (x ∷ o) w b e = absurd (omega arith)
loss_push (v ∷ ws) [] w b e = absurd (omega arith)
loss_push (v ∷ ws) (x ∷ o) w b e = omega (arith, loss_push ws o w b (omega arith))

extended_cond : (b : Bool) (o : Outcome) (os : Family) (t : Bool) → cond t ((o ++ (b ∷ [])) ∷ extended b os) (extended b os) ≡ extended b (cond t (o ∷ os) os)
extended_cond b o os true = refl
extended_cond b o os false = refl

-- the same test of each outcome gives the same outcomes, extended
within_extended : (ws : List ℕ) (w k j : ℕ) (b : Bool) → ((l : ℕ) → leb (l + lost w b) k ≡ leb l j) →
    (os : Family) → Sized (length ws) os → within k (ws ++ (w ∷ [])) (extended b os) ≡ extended b (within j ws os)
within_extended ws w k j b same [] h = refl
within_extended ws w k j b same (o ∷ os) h =
    rw (loss_push ws o w b h.0, same (loss ws o), within_extended ws w k j b same os h.1)
    (extended_cond b o (within j ws os) (leb (loss ws o) j))

module _ (ws : List ℕ) (w k : ℕ) where
  within_false : (os : Family) → Sized (length ws) os → within k (ws ++ (w ∷ [])) (extended false os) ≡ extended false (within k ws os)
  within_false = within_extended ws w k k false (λ l. ap (λ n. leb n k) (omega arith))

  within_reached : w ≤ k → (os : Family) → Sized (length ws) os → within k (ws ++ (w ∷ [])) (extended true os) ≡ extended true (within (k - w) ws os)
  within_reached h = within_extended ws w k (k - w) true (λ l. grind (arith, nat_tests))

  within_short : k < w → (os : Family) → Sized (length ws) os → within k (ws ++ (w ∷ [])) (extended true os) ≡ []
  within_short less [] h = refl
  within_short less (o ∷ os) h = rw (loss_push ws o w true h.0, lt-leb (loss ws o + w) k (omega arith)) (within_short less os h.1)

  within_true : (os : Family) → Sized (length ws) os → within k (ws ++ (w ∷ [])) (extended true os) ≡ extended true (cond (leb w k) (within (k - w) ws os) [])
  within_true os h =
      elim (cases_lt k w) [
        | inl less ↦ rw (lt-leb w k less) (within_short less os h)
        | inr fits ↦ rw (le-leb w k fits) (within_reached fits os h)
      ]

  -- at level k: as before without a claim, and as at k - w with one
  pub within_either : (os : Family) → Sized (length ws) os → within k (ws ++ (w ∷ [])) (either os os) ≡ either (within k ws os) (cond (leb w k) (within (k - w) ws os) [])
  within_either os h = rw (filter-append, within_false os h, within_true os h)
