-- How the merge sees levels: as a set that each contract widens, and values as steps at its members.
use Rattle.std.specs.Prelude.{◌≡◌, ℕ, suc, ◌+◌, ◌-◌, ◌*◌, ◌<◌, Bool, true, false, ◌&&◌, ◌||◌, List, [], ◌∷◌, ◌++◌, map, length, take, drop, ◌==◌, nat_le}
use Rattle.reckoning.specs.Operations.{Operations}
use Rattle.book.specs.Levels.{picked}
use Rattle.book.specs.Values.{entered}

-- the set S, and S moved up by w
abbrev pub widened : ℕ → (ℕ → Bool) → ℕ → Bool
widened w S x = S x || (nat_le w x && S (x - w))

-- a set once contracts of these losses are entered in turn
abbrev pub reached : (ℕ → Bool) → List ℕ → ℕ → Bool
reached S [] = S
reached S (w ∷ ws) = reached (widened w S) ws

-- the levels of a book without contracts
abbrev pub only_zero : ℕ → Bool
only_zero x = x == 0

-- y is the last member of S below x
pub record Last (S : ℕ → Bool) (x y : ℕ) : Type 0 where
  pub is : S y ≡ true
  pub below : y < x
  pub none : (z : ℕ) → y < z → z < x → S z ≡ false

-- f changes only at members of S
abbrev pub Flat : {V : Type 0} → (ℕ → Bool) → (ℕ → V) → Type 0
Flat S f = (k : ℕ) → S (suc k) ≡ false → f (suc k) ≡ f k

-- row s of rows of p places each
abbrev pub row_of : {V : Type 0} → ℕ → ℕ → List V → List V
row_of p s rows = take p (drop (s * p) rows)

-- where the first m levels are S up to the ceiling c, and the row has the values f beside them, the new row has the values after a contract of loss w and rate r
abbrev pub Follows : {V : Type 0} → Operations V → List ℕ → ℕ → ℕ → ℕ → ℕ → ℕ → List V → List V → Type 0
Follows {V} ops levels m n w r c old new =
    (S : ℕ → Bool) (f : ℕ → V) → S 0 ≡ true → Flat S f → take m levels ≡ picked S (c + 1) → take m old ≡ map f (picked S (c + 1)) →
    n ≡ length (picked (widened w S) (c + 1)) → new ≡ map (entered ops w r f) (picked (widened w S) (c + 1)) ++ drop n old
