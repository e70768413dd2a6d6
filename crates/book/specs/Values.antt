-- The value at each level of a book, by the recursion over its contracts.
use Rattle.std.specs.Prelude.{ℕ, ◌-◌, cond, List, [], ◌∷◌, map, nat_le, slice_index}
use Rattle.reckoning.specs.Operations.{Operations}
use Rattle.book.specs.Plain.{Plain}

-- the earlier value at k - w, nothing below w
abbrev pub lagged : {V : Type 0} → V → ℕ → (ℕ → V) → ℕ → V
lagged nothing w f k = cond (nat_le w k) (f (k - w)) nothing

-- the values once a contract of loss w and rate r is entered
abbrev pub entered : {V : Type 0} → Operations V → ℕ → ℕ → (ℕ → V) → ℕ → V
entered m w r f k = m.blended r (f k) (lagged m.nothing w f k)

-- the values once these contracts are entered in turn, each a loss beside a rate
abbrev pub values : {V : Type 0} → Operations V → List (ℕ × ℕ) → (ℕ → V) → ℕ → V
values m [] f = f
values m (c ∷ cs) f = values m cs (entered m c.0 c.1 f)

-- the loss and the rate of each contract in scenario s, from 1
abbrev pub terms : Plain → ℕ → List (ℕ × ℕ)
terms p s = map (λ c. (c.loss, slice_index c.rates (s - 1))) p.contracts

-- at scenario s and level k: whole without contracts
abbrev pub value : {V : Type 0} → Operations V → Plain → ℕ → ℕ → V
value m p s k = values m (terms p s) (λ _. m.whole) k
