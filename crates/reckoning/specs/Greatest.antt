-- The laws of Claims.
use Rattle.std.specs.Prelude.{◌≡◌, ℕ, suc, ◌-◌, ◌*◌, ◌<◌, ◌≤◌, Bool, true, false, cond, List, [], ◌∷◌, ◌++◌, length, Some, None, Option, ◌==◌, nat_lt, refl}
use Rattle.std.proofs.Common.{sym, ap, ◌∙◌, ⊎_elim, mul-pos, arith}
use Rattle.std.proofs.Math.Nat.{max-eq_left, max-eq_right, lt_of_mul-lt-mul_left}
use Rattle.std.proofs.lemmas.Bool.{cases_lt, le-ltb, ltb-true, eqb-true, eqb-false, cond_both}
use Rattle.std.proofs.lemmas.Bool.Decides.{nat_tests}
use Rattle.reckoning.specs.Outcomes.{Outcome, Family, odds, weight, extended, either}
use Rattle.reckoning.specs.Counting.{claims, greater, greatest, Ranged, checked, one_more, blended, Stands}
use Rattle.reckoning.specs.Weights.{weight_push}

pub stands_for_none : (rates : List ℕ) → Stands None rates []
stands_for_none rates = record { ranged = tt; is = refl }

pub stands_for_whole : Stands (Some 0) [] ([] ∷ [])
stands_for_whole = record { ranged = omega arith; is = refl }

pub ranged_where_stands : (u : Option ℕ) (rates : List ℕ) (family : Family) → Stands u rates family → Ranged u
ranged_where_stands u rates family s = s.ranged

greater_none : (a : Option ℕ) → greater a None ≡ a
greater_none None = refl
greater_none (Some k) = refl

-- what holds of both holds of the greater
greater_keeps : (P : Option ℕ → Type 0) (a b : Option ℕ) → P a → P b → P (greater a b)
greater_keeps P None b p q = q
greater_keeps P (Some i) None p q = p
greater_keeps P (Some i) (Some j) p q =
    ⊎_elim (λ l. rw (max-eq_right {n = i} {m = j} (omega arith)) q) (λ m. rw (max-eq_left {n = i} {m = j} m) p) (cases_lt i j)

greater_assoc : (a b c : Option ℕ) → greater (greater a b) c ≡ greater a (greater b c)
greater_assoc None b c = refl
greater_assoc (Some i) None c = refl
greater_assoc (Some i) (Some j) None = refl
greater_assoc (Some i) (Some j) (Some k) = ap Some (omega arith)

greatest_append : (rs : List ℕ) (xs ys : Family) → greatest rs (xs ++ ys) ≡ greater (greatest rs xs) (greatest rs ys)
greatest_append rs [] ys = refl
greatest_append rs (x ∷ xs) ys =
    let first = cond (nat_lt 0 (weight rs x)) (Some (claims x)) None in
    ap (greater first) (greatest_append rs xs ys) ∙ sym (greater_assoc first (greatest rs xs) (greatest rs ys))

-- one claim more
abbrev more : Option ℕ → Option ℕ
more None = None
more (Some k) = Some (suc k)

more_greater : (a b : Option ℕ) → more (greater a b) ≡ greater (more a) (more b)
more_greater None b = refl
more_greater (Some i) None = refl
more_greater (Some i) (Some j) = ap Some (omega arith)

more_cond : (b : Bool) (k : ℕ) → cond b (Some (suc k)) None ≡ more (cond b (Some k) None)
more_cond true k = refl
more_cond false k = refl

claims_false : (o : Outcome) → claims (o ++ (false ∷ [])) ≡ claims o
claims_false [] = refl
claims_false (true ∷ o) = ap suc (claims_false o)
claims_false (false ∷ o) = claims_false o

claims_true : (o : Outcome) → claims (o ++ (true ∷ [])) ≡ suc (claims o)
claims_true [] = refl
claims_true (true ∷ o) = ap suc (claims_true o)
claims_true (false ∷ o) = claims_true o

positive : (w s : ℕ) → 0 < s → nat_lt 0 (w * s) ≡ nat_lt 0 w
positive w s h = grind (arith, nat_tests, mul-pos)

module _ (rs : List ℕ) (r : ℕ) where
  pub weighs : (o : Outcome) (b : Bool) → 0 < odds r b → nat_lt 0 (weight (rs ++ (r ∷ [])) (o ++ (b ∷ []))) ≡ nat_lt 0 (weight rs o)
  weighs o b h = rw weight_push (grind (arith, nat_tests, mul-pos))

  pub weightless : (o : Outcome) (b : Bool) → odds r b ≡ 0 → nat_lt 0 (weight (rs ++ (r ∷ [])) (o ++ (b ∷ []))) ≡ false
  weightless o b h = le-ltb 0 _ (omega (arith, weight_push rs o r b, ap (λ k. weight rs o * k) h))

  extended_none : (os : Family) (b : Bool) → odds r b ≡ 0 → greatest (rs ++ (r ∷ [])) (extended b os) ≡ None
  extended_none [] b h = refl
  extended_none (o ∷ os) b h = rw (weightless o b h) (extended_none os b h)

  extended_false : (os : Family) → 0 < 1000000 - r → greatest (rs ++ (r ∷ [])) (extended false os) ≡ greatest rs os
  extended_false [] h = refl
  extended_false (o ∷ os) h = rw (weighs o false h, claims_false o, extended_false os h)

  extended_true : (os : Family) → 0 < r → greatest (rs ++ (r ∷ [])) (extended true os) ≡ more (greatest rs os)
  extended_true [] h = refl
  extended_true (o ∷ os) h =
      rw (weighs o true h, claims_true o, extended_true os h, more_cond (nat_lt 0 (weight rs o)) (claims o))
      (sym (more_greater (cond (nat_lt 0 (weight rs o)) (Some (claims o)) None) (greatest rs os)))

-- at most n claims
abbrev Within : ℕ → Option ℕ → Type 0
Within n None = Unit {0}
Within n (Some k) = k ≤ n

factor : (a b : ℕ) → 0 < a * b → 0 < b
factor a b h = lt_of_mul-lt-mul_left a (omega arith)

claims_within : (rs : List ℕ) (o : Outcome) → 0 < weight rs o → claims o ≤ length rs
claims_within [] [] h = omega arith
claims_within [] (b ∷ bs) h = omega arith
claims_within (r ∷ rs) [] h = omega arith
claims_within (r ∷ rs) (true ∷ bs) h = omega (arith, claims_within rs bs (factor r (weight rs bs) h))
claims_within (r ∷ rs) (false ∷ bs) h = omega (arith, claims_within rs bs (factor (1000000 - r) (weight rs bs) h))

greatest_within : (rs : List ℕ) (os : Family) → Within (length rs) (greatest rs os)
greatest_within rs [] = tt
greatest_within rs (o ∷ os) =
    greater_keeps (Within (length rs)) _ _
    (cond_both (nat_lt 0 (weight rs o)) (Some (claims o)) None (Within (length rs)) (λ e. claims_within rs o (ltb-true _ _ e)) (λ _. tt))
    (greatest_within rs os)

checked_is : (n : ℕ) → n ≤ 255 → (u : Option ℕ) → Within n u → checked u ≡ u
checked_is n few None h = refl
checked_is n few (Some k) h = ap Some (omega arith)

one_more_is : (n : ℕ) → n ≤ 255 → (v : Option ℕ) → Within n v → one_more v ≡ more v
one_more_is n few None h = refl
one_more_is n few (Some k) h = ap Some (omega arith)

pub checked_ranged : (u : Option ℕ) → Ranged (checked u)
checked_ranged None = tt
checked_ranged (Some k) = omega arith

one_more_ranged : (v : Option ℕ) → Ranged (one_more v)
one_more_ranged None = tt
one_more_ranged (Some k) = omega arith

pub blended_ranged : (r : ℕ) (u v : Option ℕ) → Ranged (blended r u v)
blended_ranged r u v =
    greater_keeps Ranged _ _
    (cond_both (r == 1000000) None (checked u) Ranged (λ _. tt) (λ _. checked_ranged u))
    (cond_both (r == 0) None (one_more v) Ranged (λ _. tt) (λ _. one_more_ranged v))

module _ (r : ℕ) (h : r ≤ 1000000) (rates : List ℕ) (few : length rates ≤ 255) where
  without : (us : Family) → cond (r == 1000000) None (checked (greatest rates us)) ≡ greatest (rates ++ (r ∷ [])) (extended false us)
  without us =
      cond_both (r == 1000000) None (checked (greatest rates us)) (λ x. x ≡ greatest (rates ++ (r ∷ [])) (extended false us))
      (λ e. sym (extended_none rates r us false (omega (arith, eqb-true _ _ e))))
      (λ e. checked_is (length rates) few (greatest rates us) (greatest_within rates us) ∙ sym (extended_false rates r us (omega (arith, eqb-false _ _ e))))

  with_one : (vs : Family) → cond (r == 0) None (one_more (greatest rates vs)) ≡ greatest (rates ++ (r ∷ [])) (extended true vs)
  with_one vs =
      cond_both (r == 0) None (one_more (greatest rates vs)) (λ x. x ≡ greatest (rates ++ (r ∷ [])) (extended true vs))
      (λ e. sym (extended_none rates r vs true (eqb-true _ _ e)))
      (λ e. one_more_is (length rates) few (greatest rates vs) (greatest_within rates vs) ∙ sym (extended_true rates r vs (omega (arith, eqb-false _ _ e))))

  blended_greatest : (us vs : Family) → blended r (greatest rates us) (greatest rates vs) ≡ greatest (rates ++ (r ∷ [])) (either us vs)
  blended_greatest us vs = ap (λ x. greater x (cond (r == 0) None (one_more (greatest rates vs)))) (without us) ∙ ap (greater (greatest (rates ++ (r ∷ [])) (extended false us))) (with_one vs) ∙ sym (greatest_append (rates ++ (r ∷ [])) (extended false us) (extended true vs))

  pub blended_stands : (u v : Option ℕ) (us vs : Family) → Stands u rates us → Stands v rates vs → Stands (blended r u v) (rates ++ (r ∷ [])) (either us vs)
  blended_stands u v us vs su sv = record { ranged = blended_ranged r u v; is = rw (su.is, sv.is) (blended_greatest us vs) }

pub checked_same : (u : Option ℕ) → Ranged u → checked u ≡ u
checked_same None h = refl
checked_same (Some k) h = ap Some (omega arith)
