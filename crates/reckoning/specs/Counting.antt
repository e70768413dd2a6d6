-- Claims: the greatest number of claims in a family.
use Rattle.std.specs.Prelude.{◌≡◌, ℕ, suc, ◌<◌, ◌≤◌, min, max, true, false, cond, List, [], ◌∷◌, Some, None, Option, ◌==◌, nat_lt}
use Rattle.std.specs.List.{ContainsAt}
use Rattle.reckoning.specs.Outcomes.{Outcome, Family, weight}
use Rattle.reckoning.specs.Operations.{Operations}

abbrev pub claims : Outcome → ℕ
claims [] = 0
claims (true ∷ bs) = suc (claims bs)
claims (false ∷ bs) = claims bs

abbrev pub greater : Option ℕ → Option ℕ → Option ℕ
greater None b = b
greater (Some i) None = Some i
greater (Some i) (Some j) = Some (max i j)

-- the greatest number of claims among the outcomes of weight above zero, none if there are none
abbrev pub greatest : List ℕ → Family → Option ℕ
greatest rates [] = None
greatest rates (o ∷ os) = greater (cond (nat_lt 0 (weight rates o)) (Some (claims o)) None) (greatest rates os)

abbrev pub Ranged : Option ℕ → Type 0
Ranged None = Unit {0}
Ranged (Some k) = k ≤ 256

-- a place's count as it is read, and with one claim more
abbrev pub checked : Option ℕ → Option ℕ
checked None = None
checked (Some k) = Some (min k 256)

abbrev pub one_more : Option ℕ → Option ℕ
one_more None = None
one_more (Some k) = Some (min (suc k) 256)

-- without u where the new contract claims for sure, without v where it never does
abbrev pub blended : ℕ → Option ℕ → Option ℕ → Option ℕ
blended r u v = greater (cond (r == 1000000) None (checked u)) (cond (r == 0) None (one_more v))

abbrev pub counts : Operations (Option ℕ)
counts = record { nothing = None; whole = Some 0; blended = blended }

pub record Stands (u : Option ℕ) (rates : List ℕ) (family : Family) : Type 0 where
  pub ranged : Ranged u
  pub is : u ≡ greatest rates family

-- an outcome of the family that can come about, with that many claims
pub record Comes (rates : List ℕ) (family : Family) (k : ℕ) : Type 0 where
  pub outcome : Outcome
  pub member : ContainsAt family outcome
  pub weighs : 0 < weight rates outcome
  pub count : claims outcome ≡ k

-- what greatest tells is attained and passed by none; and none is told exactly where no outcome can come about
abbrev pub IsGreatest : List ℕ → Family → Option ℕ → Type 0
IsGreatest rates family None = (k : ℕ) → Comes rates family k → ⊥
IsGreatest rates family (Some m) = Comes rates family m × ((k : ℕ) → Comes rates family k → k ≤ m)

abbrev pub GreatestIsGreatest : Type 0
GreatestIsGreatest = (rates : List ℕ) (family : Family) → IsGreatest rates family (greatest rates family)
