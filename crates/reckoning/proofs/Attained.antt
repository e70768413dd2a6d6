-- What Claims tells is attained, and passed by none.
use Rattle.std.proofs.Common.{◌≡◌, ℕ, zero, suc, ◌<◌, ◌≤◌, Bool, true, false, cond, ◌⊎◌, List, [], ◌∷◌, length, Some, None, Option, nat_lt, slice_index_or, refl, sym, ap, subst, ◌∙◌, inl, inr, ⊎_elim, arith}
use Rattle.std.proofs.Math.Nat.{max-eq_left, max-eq_right}
use Rattle.std.specs.List.{ContainsAt}
use Rattle.std.proofs.ByRecursion.{has_append_right}
use Rattle.std.proofs.lemmas.Bool.{cases_lt, ltb-true, ltb-false}
use Rattle.reckoning.specs.Outcomes.{Outcome, Family, weight}
use Rattle.reckoning.specs.Counting.{claims, greater, greatest, Comes, IsGreatest, GreatestIsGreatest}

-- an outcome that comes in a shorter family comes in a longer one
comes_later : (rates : List ℕ) (o : Outcome) (os : Family) (k : ℕ) → Comes rates os k → Comes rates (o ∷ os) k
comes_later rates o os k c = record { outcome = c.outcome; member = has_append_right (o ∷ []) os c.outcome c.member; weighs = c.weighs; count = c.count }

comes_first : (rates : List ℕ) (o : Outcome) (os : Family) → 0 < weight rates o → Comes rates (o ∷ os) (claims o)
comes_first rates o os h = record { outcome = o; member = (0, omega arith, λ d. refl); weighs = h; count = refl }

has_cases : {X : Type 0} (y : X) (ys : List X) (x : X) (k : ℕ) → k < length (y ∷ ys) → ((d : X) → slice_index_or (y ∷ ys) k d ≡ x) → ContainsAt ys x ⊎ (y ≡ x)
has_cases y ys x zero h at = inr (at y)
has_cases y ys x (suc k) h at = inl (k, omega arith, at)

-- where it comes: first, or later
comes_cases : (rates : List ℕ) (o : Outcome) (os : Family) (k : ℕ) → Comes rates (o ∷ os) k → ((0 < weight rates o) × (claims o ≡ k)) ⊎ Comes rates os k
comes_cases rates o os k c =
    ⊎_elim
    (λ h. inr (record { outcome = c.outcome; member = h; weighs = c.weighs; count = c.count }))
    (λ e. inl (subst (λ (x : Outcome). 0 < weight rates x) (sym e) c.weighs, ap claims e ∙ c.count))
    (has_cases o os c.outcome c.member.0 c.member.1 c.member.2)

-- one outcome more in front, of weight above zero or not
greatest_step : (rates : List ℕ) (o : Outcome) (os : Family) (b : Bool) (m : Option ℕ) → (b ≡ true → 0 < weight rates o) → (b ≡ false → weight rates o ≤ 0) →
    IsGreatest rates os m → IsGreatest rates (o ∷ os) (greater (cond b (Some (claims o)) None) m)
greatest_step rates o os true None yes' no' none =
    (comes_first rates o os (yes' refl), λ k c. ⊎_elim (λ first. omega arith) (λ later. absurd (none k later)) (comes_cases rates o os k c))
greatest_step rates o os true (Some m) yes' no' (at, most) = (
  ⊎_elim
      (λ less. rw (max-eq_right {n = claims o} {m = m} (omega arith)) (comes_later rates o os m at))
      (λ more. rw (max-eq_left {n = claims o} {m = m} more) (comes_first rates o os (yes' refl)))
      (cases_lt (claims o) m),
  λ k c. ⊎_elim (λ first. omega arith) (λ later. omega (arith, most k later)) (comes_cases rates o os k c),
)
greatest_step rates o os false None yes' no' none = λ k c. ⊎_elim (λ first. omega (arith, no' refl)) (none k) (comes_cases rates o os k c)
greatest_step rates o os false (Some m) yes' no' (at, most) =
    (comes_later rates o os m at, λ k c. ⊎_elim (λ first. omega (arith, no' refl)) (most k) (comes_cases rates o os k c))

pub greatest_is_greatest : GreatestIsGreatest
greatest_is_greatest rates [] = λ k c. omega (arith, c.member.1)
greatest_is_greatest rates (o ∷ os) =
    greatest_step rates o os (nat_lt 0 (weight rates o)) (greatest rates os) (ltb-true _ _) (ltb-false _ _) (greatest_is_greatest rates os)
