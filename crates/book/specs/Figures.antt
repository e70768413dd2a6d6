-- The figures that calls tell.
use Rattle.std.specs.Prelude.{ℕ, suc, ◌-◌, cond, List, [], ◌∷◌, ◌==◌, slice_index_or}
use Rattle.reckoning.specs.declared.grains.Grains.{Grains}
use Rattle.reckoning.specs.Enclosing.{bounds, checked}
use Rattle.reckoning.specs.Rounding.{pair, rounded_out}
use Rattle.book.specs.Merging.{row_of}
use Rattle.book.specs.Plain.{Plain}
use Rattle.book.specs.Values.{value}

-- shares beside the numbers of their scenarios, the first numbered s
abbrev pub numbered : ℕ → List ℕ → List (ℕ × ℕ)
numbered s [] = []
numbered s (w ∷ ws) = (w, s) ∷ numbered (suc s) ws

-- share times pair summed over the scenarios, and divided by a million, the lower count down and the upper up
abbrev pub mixed : List ℕ → (ℕ → Grains) → Grains
mixed shares g = rounded_out 1000000 (λ x. x.0) (λ x. g x.1) (numbered 1 shares)

-- what a row tells where n of its levels are not above the level asked for: the last of them, nothing if there is none
abbrev pub told_at : {V : Type 0} → (V → V) → V → List V → ℕ → V
told_at reading nothing row n = cond (n == 0) nothing (reading (slice_index_or row (n - 1) nothing))

-- what a row of pairs tells of scenario s, from 1
abbrev pub told_in : ℕ → List Grains → ℕ → ℕ → Grains
told_in p rows n s = told_at checked (pair 0 0) (row_of p (s - 1) rows) n

-- the pair of scenario s, where 0 is the mix
abbrev pub mixed_at : List ℕ → (ℕ → Grains) → ℕ → Grains
mixed_at shares g s = cond (s == 0) (mixed shares g) (g s)

-- the bounds of scenario s at level k, where 0 is the mix
abbrev pub chance : Plain → ℕ → ℕ → Grains
chance p s k = mixed_at p.shares (λ i. value bounds p i k) s
