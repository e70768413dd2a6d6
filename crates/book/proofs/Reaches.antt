-- Sets of levels: what is picked of them, what one contract more reaches, and that outcomes come to just that.
use Rattle.std.proofs.Common.{◌≡◌, ℕ, zero, suc, ◌+◌, ◌-◌, ◌<◌, ◌≤◌, Bool, true, false, cond, ◌&&◌, ◌||◌, eqb, leb, List, [], ◌∷◌, ◌++◌, length, sym, refl, ap, ◌∙◌, subst, inl, inr, append_assoc, arith}
use Rattle.std.specs.List.{ContainsAt}
use Rattle.std.proofs.ByRecursion.{has_get_or}
use Rattle.std.proofs.lemmas.List.{append-nil, length_push, get_or_default}
use Rattle.std.proofs.lemmas.Bool.{cases_lt, cases_order, and_left, or_right, or_cases, and_from, le-leb, lt-leb, eq-eqb, eqb-true}
use Rattle.std.proofs.lemmas.Bool.Decides.{nat_tests}
use Rattle.reckoning.specs.Outcomes.{Outcome, Family, loss, extended, outcomes}
use Rattle.book.specs.Levels.{picked, comes_to}
use Rattle.book.specs.Merging.{widened, reached, only_zero}
use Rattle.book.specs.Some.{some}
use Rattle.book.specs.Theorems.{Rising, AllAtMost, KeptRise, KeptUnderCeiling, KeptAreLosses, KeptByMerging}
use Rattle.book.proofs.Picks.{picked_yes, rank_mono, select}
use Rattle.book.proofs.Descents.{own_widened}
use Rattle.book.proofs.Families.{Sized, outcomes_sized, loss_push}
use Rattle.book.proofs.Somes.{some_append, some_at}

-- ---- what is picked
pub picked_to : (S : ℕ → Bool) (n x : ℕ) → ContainsAt (picked S n) x → (S x ≡ true) × (x < n)
picked_to S n x h =
    let s = select S n h.0 h.1 in
    let e : s.0 ≡ x = sym s.1 ∙ h.2 0 in
    (subst (λ (v : ℕ). S v ≡ true) e s.2, subst (λ (v : ℕ). v < n) e s.3)

pub picked_from : (S : ℕ → Bool) (n x : ℕ) → S x ≡ true → x < n → ContainsAt (picked S n) x
picked_from S n x t l =
    let i = length (picked S x) in
    let up = λ (v : ℕ) (tv : S v ≡ true). ap length (picked_yes S v tv) ∙ length_push (picked S v) v in
    let m = rank_mono S (suc x) n l in
    let ux = up x t in
    let k : i < length (picked S n) = omega arith in
    let s = select S n i k in
    let y = s.0 in
    let si = s.4 in
    let uy = up y s.2 in
    let e : y ≡ x = elim (cases_order y x) [
      | inl q ↦ q
      | inr q ↦ elim q [
        | inl h ↦ let g = rank_mono S (suc y) x h in absurd (omega arith)
        | inr h ↦ let g = rank_mono S (suc x) y h in absurd (omega arith)
      ]
    ] in
    (i, k, λ d. get_or_default (picked S n) i d 0 k ∙ s.1 ∙ e)

pub picked_same : (S T : ℕ → Bool) (n : ℕ) → ((x : ℕ) → S x ≡ T x) → picked S n ≡ picked T n
picked_same S T zero h = refl
picked_same S T (suc n) h =
    let r = picked_same S T n h in
    ap (λ (b : Bool). cond b (picked S n ++ (n ∷ [])) (picked S n)) (h n)
    ∙ ap (λ (ys : List ℕ). cond (T n) (ys ++ (n ∷ [])) ys) r

pub picked_rises : (S : ℕ → Bool) (n : ℕ) → Rising (picked S n)
picked_rises S n i j lt l =
    let a = select S n i (omega arith) in
    let b = select S n j l in
    let a1 = a.1 in let a4 = a.4 in let b1 = b.1 in let b4 = b.4 in
    elim (cases_lt a.0 b.0) [
      | inl h ↦ omega arith
      | inr h ↦ let m = rank_mono S b.0 a.0 h in absurd (omega arith)
    ]

pub picked_under : (S : ℕ → Bool) (c : ℕ) → AllAtMost c (picked S (c + 1))
picked_under S c i l = let s = select S (c + 1) i l in let s1 = s.1 in let s3 = s.3 in omega arith

-- ---- what is reached
pub widened_from : (w : ℕ) (S : ℕ → Bool) (x : ℕ) → w ≤ x → S (x - w) ≡ true → widened w S x ≡ true
widened_from w S x l t = or_right (S x) (leb w x && S (x - w)) (and_from (leb w x) (S (x - w)) (le-leb w x l) t)

widened_same : (w : ℕ) (S T : ℕ → Bool) → ((z : ℕ) → S z ≡ T z) → (x : ℕ) → widened w S x ≡ widened w T x
widened_same w S T h x =
    ap (λ (b : Bool). b || (leb w x && S (x - w))) (h x) ∙ ap (λ (b : Bool). T x || (leb w x && b)) (h (x - w))

reached_same : (S T : ℕ → Bool) (ws : List ℕ) → ((z : ℕ) → S z ≡ T z) → (x : ℕ) → reached S ws x ≡ reached T ws x
reached_same S T [] h = h
reached_same S T (w ∷ ws) h = reached_same (widened w S) (widened w T) ws (widened_same w S T h)

pub reached_push : (S : ℕ → Bool) (ws : List ℕ) (w : ℕ) → reached S (ws ++ (w ∷ [])) ≡ widened w (reached S ws)
reached_push S [] w = refl
reached_push S (v ∷ ws) w = reached_push (widened v S) ws w

pub reached_zero : (S : ℕ → Bool) (ws : List ℕ) → S 0 ≡ true → reached S ws 0 ≡ true
reached_zero S [] t = t
reached_zero S (w ∷ ws) t = reached_zero (widened w S) ws (own_widened w S 0 t)

module _ (ws : List ℕ) (w k : ℕ) where
  -- the test of an outcome, and of one with a contract more
  abbrev old : ℕ → Outcome → Bool
  old x o = eqb (loss ws o) x

  abbrev new : Outcome → Bool
  new o = eqb (loss (ws ++ (w ∷ [])) o) k

  some_stays : (os : Family) → Sized (length ws) os → some new (extended false os) ≡ some (old k) os
  some_stays [] h = refl
  some_stays (o ∷ os) h =
      let e : loss (ws ++ (w ∷ [])) (o ++ (false ∷ [])) ≡ loss ws o = omega (arith, loss_push ws o w false h.0) in
      ap (λ (x : ℕ). eqb x k || some new (extended false os)) e ∙ ap (λ (b : Bool). eqb (loss ws o) k || b) (some_stays os h.1)

  some_claims : w ≤ k → (os : Family) → Sized (length ws) os → some new (extended true os) ≡ some (old (k - w)) os
  some_claims fits [] h = refl
  some_claims fits (o ∷ os) h =
      let e : loss (ws ++ (w ∷ [])) (o ++ (true ∷ [])) ≡ loss ws o + w = loss_push ws o w true h.0 in
      let same : eqb (loss ws o + w) k ≡ eqb (loss ws o) (k - w) = grind (arith, nat_tests) in
      ap (λ (x : ℕ). eqb x k || some new (extended true os)) e ∙ ap (λ (b : Bool). b || some new (extended true os)) same
      ∙ ap (λ (b : Bool). eqb (loss ws o) (k - w) || b) (some_claims fits os h.1)

  none_claims : k < w → (os : Family) → Sized (length ws) os → some new (extended true os) ≡ false
  none_claims less [] h = refl
  none_claims less (o ∷ os) h =
      let e : loss (ws ++ (w ∷ [])) (o ++ (true ∷ [])) ≡ loss ws o + w = loss_push ws o w true h.0 in
      let no : eqb (loss ws o + w) k ≡ false = grind (arith, nat_tests) in
      ap (λ (x : ℕ). eqb x k || some new (extended true os)) e ∙ ap (λ (b : Bool). b || some new (extended true os)) no ∙ none_claims less os h.1

  claims_is : (os : Family) → Sized (length ws) os → some new (extended true os) ≡ (leb w k && some (old (k - w)) os)
  claims_is os h =
      elim (cases_lt k w) [
        | inl less ↦ none_claims less os h ∙ sym (and_left (leb w k) (some (old (k - w)) os) (lt-leb w k less))
        | inr fits ↦ some_claims fits os h ∙ sym (ap (λ (b : Bool). b && some (old (k - w)) os) (le-leb w k fits))
      ]

  pub comes_push : comes_to (ws ++ (w ∷ [])) k ≡ widened w (comes_to ws) k
  comes_push =
      let n = length ws in
      let more : length (ws ++ (w ∷ [])) ≡ suc n = omega (arith, length_push ws w) in
      ap (λ (i : ℕ). some new (outcomes i)) more
      ∙ some_append new (extended false (outcomes n)) (extended true (outcomes n))
      ∙ ap (λ (b : Bool). b || some new (extended true (outcomes n))) (some_stays (outcomes n) (outcomes_sized n))
      ∙ ap (λ (b : Bool). some (old k) (outcomes n) || b) (claims_is (outcomes n) (outcomes_sized n))

comes_none : (k : ℕ) → only_zero k ≡ comes_to [] k
comes_none k = grind (arith, nat_tests)

reached_comes : (us ws : List ℕ) (k : ℕ) → reached (comes_to us) ws k ≡ comes_to (us ++ ws) k
reached_comes us [] k = ap (λ (vs : List ℕ). comes_to vs k) (sym (append-nil us))
reached_comes us (w ∷ ws) k =
    reached_same (widened w (comes_to us)) (comes_to (us ++ (w ∷ []))) ws (λ x. sym (comes_push us w x)) k
    ∙ reached_comes (us ++ (w ∷ [])) ws k
    ∙ ap (λ (vs : List ℕ). comes_to vs k) (append_assoc us (w ∷ []) ws)

-- outcomes come to just what the merge reaches
pub comes_reached : (ws : List ℕ) (k : ℕ) → comes_to ws k ≡ reached only_zero ws k
comes_reached ws k = sym (reached_same only_zero (comes_to []) ws comes_none k ∙ reached_comes [] ws k)

-- ---- the theorems
pub kept_by_merging : KeptByMerging
kept_by_merging c ws = picked_same (comes_to ws) (reached only_zero ws) (c + 1) (comes_reached ws)

pub kept_rise : KeptRise
kept_rise c ws = picked_rises (comes_to ws) (c + 1)

pub kept_under_ceiling : KeptUnderCeiling
kept_under_ceiling c ws = picked_under (comes_to ws) c

some_has : {X : Type 0} (t : X → Bool) (xs : List X) → some t xs ≡ true → (x : X) × ContainsAt xs x × (t x ≡ true)
some_has t [] h = absurd (let z : ◌≡◌ {A = ℕ} 0 1 = cc in omega arith)
some_has {X} t (x ∷ xs) h =
    elim (or_cases (t x) (some t xs) h) [
      | inl here ↦ (x, has_get_or (x ∷ xs) 0 x (omega arith), here)
      | inr there ↦ let r = some_has t xs there in let m : ContainsAt xs r.0 = r.1 in (r.0, (suc m.0, omega (arith, m.1), λ d. m.2 d), r.2)
    ]

has_some : {X : Type 0} (t : X → Bool) (xs : List X) (x : X) → ContainsAt xs x → t x ≡ true → some t xs ≡ true
has_some t xs x h yes' = some_at t xs h.0 x h.1 (ap t (h.2 x) ∙ yes')

pub kept_are_losses : KeptAreLosses
kept_are_losses c ws x = (
  (λ h.
      let p = picked_to (comes_to ws) (c + 1) x h in
      let l = p.1 in
      let r = some_has (λ o. eqb (loss ws o) x) (outcomes (length ws)) p.0 in
      (omega arith, record { outcome = r.0; member = r.1; comes = eqb-true (loss ws r.0) x r.2 })),
  (λ l o. picked_from (comes_to ws) (c + 1) x (has_some (λ o. eqb (loss ws o) x) (outcomes (length ws)) o.outcome o.member (eq-eqb (loss ws o.outcome) x o.comes)) (omega arith)),
)
