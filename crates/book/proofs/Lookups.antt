-- What a row tells, place by place.
use Rattle.std.proofs.Common.{◌≡◌, ℕ, ◌+◌, ◌-◌, ◌≤◌, eqb, List, [], ◌∷◌, get_or, sym, ap, ◌∙◌, arith}
use Rattle.std.proofs.lemmas.Bool.{cond-true, cond_both, eq-eqb}
use Rattle.reckoning.specs.declared.grains.Grains.{Grains}
use Rattle.reckoning.specs.Enclosing.{Ranged, checked}
use Rattle.reckoning.specs.Outcomes.{summed}
use Rattle.reckoning.specs.Rounding.{pair}
use Rattle.reckoning.specs.Roundings.{rounded_ranged}
use Rattle.std.specs.List.{AllByRecursion}
use Rattle.reckoning.specs.Enclosures.{checked_ranged, checked_same}
use Rattle.book.specs.Merging.{row_of}
use Rattle.book.specs.Figures.{numbered, mixed, told_at, told_in}
use Rattle.book.proofs.Mixtures.{shares_numbered}

pub told_none : {V : Type 0} (reading : V → V) (nothing : V) (row : List V) (n : ℕ) → n ≡ 0 → nothing ≡ told_at reading nothing row n
told_none reading nothing row n none = sym (cond-true (eqb n 0) nothing (reading (get_or row (n - 1) nothing)) (eq-eqb n 0 none))

pub told_ranged : (row : List Grains) (n : ℕ) → Ranged (told_at checked (pair 0 0) row n)
told_ranged row n = cond_both (eqb n 0) (pair 0 0) (checked (get_or row (n - 1) (pair 0 0))) Ranged (λ _. omega arith) (λ _. checked_ranged (get_or row (n - 1) (pair 0 0)))

-- what is told is in range, so it is read as it is
pub told_same : (row : List Grains) (n : ℕ) → checked (told_at checked (pair 0 0) row n) ≡ told_at checked (pair 0 0) row n
told_same row n = checked_same (told_at checked (pair 0 0) row n) (told_ranged row n)

pub told_lower : (p : ℕ) (rows : List Grains) (n s : ℕ) → (told_in p rows n s).lower ≤ 1000000000000
told_lower p rows n s = let h = told_ranged (row_of p (s - 1) rows) n in omega arith

pub told_upper : (p : ℕ) (rows : List Grains) (n s : ℕ) → (told_in p rows n s).upper ≤ 1000000000000
told_upper p rows n s = (told_ranged (row_of p (s - 1) rows) n).1

-- checked bounds made of what is told are what is told
pub bounds_told : (p : ℕ) (rows : List Grains) (n s : ℕ) (g : Grains) (a b : ℕ) → g ≡ told_at checked (pair 0 0) (row_of p s rows) n → pair a b ≡ checked g → pair a b ≡ told_in p rows n (1 + s)
bounds_told p rows n s g a b is of =
    let k : s ≡ 1 + s - 1 = omega arith in
    of ∙ ap checked is ∙ told_same (row_of p s rows) n ∙ ap (λ (k : ℕ). told_at checked (pair 0 0) (row_of p k rows) n) k

pub mixed_ranged : (p : ℕ) (rows : List Grains) (n : ℕ) (ws : List ℕ) → summed (λ w. w) ws ≡ 1000000 → Ranged (mixed ws (told_in p rows n))
mixed_ranged p rows n ws all =
    rounded_ranged 1000000 (omega arith) (λ x. x.0) (λ x. told_in p rows n x.1) (numbered 1 ws) (shares_numbered 1 ws ∙ all) (each (numbered 1 ws))
  where
    each : (xs : List (ℕ × ℕ)) → AllByRecursion (λ x. Ranged (told_in p rows n x.1)) xs
    each [] = tt
    each (x ∷ xs) = (told_ranged (row_of p (x.1 - 1) rows) n, each xs)
