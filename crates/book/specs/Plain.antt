-- The plain list: what a book is by the arguments of its calls alone.
use Rattle.std.specs.Prelude.{ℕ, ◌-◌, Bool, true, cond, not, ◌&&◌, List, [], ◌∷◌, ◌++◌, map, length, ◌==◌, slice_index}
use Rattle.book.specs.Some.{some}

pub record Entry : Type 0 where
  pub key : ℕ
  pub loss : ℕ
  pub rates : List ℕ

pub record Plain : Type 0 where
  pub ceiling : ℕ
  pub shares : List ℕ
  pub places : ℕ
  pub contracts : List Entry

-- a book before open
abbrev pub unopened : Plain
unopened = record { ceiling = 1; shares = 1000000 ∷ []; places = 0; contracts = [] }

abbrev pub size : Plain → ℕ
size p = length p.contracts

abbrev pub scenarios : Plain → ℕ
scenarios p = length p.shares

-- in order of entry
abbrev pub losses : Plain → List ℕ
losses p = map (λ c. c.loss) p.contracts

-- of scenario s, from 1
abbrev pub rates : Plain → ℕ → List ℕ
rates p s = map (λ c. slice_index c.rates (s - 1)) p.contracts

-- the one word for two keys that are the same
abbrev pub same_key : ℕ → ℕ → Bool
same_key j k = j == k

abbrev pub holds_key : ℕ → List Entry → Bool
holds_key k es = some (λ e. same_key e.key k) es

-- no key stands twice
abbrev pub distinct_keys : List Entry → Bool
distinct_keys [] = true
distinct_keys (e ∷ es) = not (holds_key e.key es) && distinct_keys es

abbrev pub opened : ℕ → ℕ → List ℕ → Plain
opened places ceiling shares = record { ceiling = ceiling; shares = shares; places = places; contracts = [] }

-- with one contract more
abbrev pub with_entry : Plain → Entry → Plain
with_entry p e = record { ceiling = p.ceiling; shares = p.shares; places = p.places; contracts = p.contracts ++ (e ∷ []) }

abbrev pub entry : ℕ → ℕ → List ℕ → Entry
entry k w rs = record { key = k; loss = w; rates = rs }

-- without the contract of that key; the later ones move up
abbrev pub without : ℕ → List Entry → List Entry
without k [] = []
without k (e ∷ es) = cond (same_key e.key k) es (e ∷ without k es)

-- with other rates for the contract of that key, at its position
abbrev pub re_rated : ℕ → List ℕ → List Entry → List Entry
re_rated k rs [] = []
re_rated k rs (e ∷ es) = cond (same_key e.key k) (entry e.key e.loss rs ∷ es) (e ∷ re_rated k rs es)

-- with these contracts
abbrev pub with_entries : Plain → List Entry → Plain
with_entries p es = record { ceiling = p.ceiling; shares = p.shares; places = p.places; contracts = es }
