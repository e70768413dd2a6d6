-- What laying a list out anew leaves, whatever the places held.
use Rattle.std.specs.Prelude.{◌≡◌, ℕ, ◌*◌, ◌<◌, List, [], ◌∷◌, drop, MatchBool, nat_lt, slice_set}
use Rattle.reckoning.specs.Enclosing as Enclosing
use Rattle.reckoning.specs.Operations.{Operations}
use Rattle.book.specs.Anyhow.{count_over, LaidOver}
use Rattle.book.specs.Places.{Places}
use Rattle.book.specs.Laid.{Outside}
use Rattle.book.specs.Merging.{row_of}
use Rattle.book.specs.Plain.{Entry, Plain, scenarios}

-- whole stands at the front of each of n rows of p places; the rest is as it was
pub record RowsBegun {V : Type 0} (ops : Operations V) (n p : ℕ) (old new : List V) : Type 0 where
  pub each : (s : ℕ) → s < n → row_of p s new ≡ slice_set (row_of p s old) 0 ops.whole
  pub rest : drop (n * p) new ≡ drop (n * p) old

-- the book without contracts, laid over the places: level 0, and whole beside it
pub record Begun {V : Type 0} (ops : Operations V) (n p : ℕ) (old new : Places V) : Type 0 where
  pub levels : new.levels ≡ slice_set old.levels 0 0
  pub bounds : RowsBegun Enclosing.bounds n p old.bounds new.bounds
  pub values : RowsBegun ops n p old.values new.values

-- contracts laid over the places in turn, from len levels to n of them; where a contract would make more than p, it and those behind it are left out
abbrev pub LaidInTurn : {V : Type 0} → Operations V → ℕ → ℕ → ℕ → List Entry → ℕ → ℕ → Places V → Places V → Type 0
LaidInTurn ops s ceiling p [] len n old new = (n ≡ len) × (new ≡ old)
LaidInTurn {V} ops s ceiling p (e ∷ es) len n old new =
    MatchBool (nat_lt p (count_over old.levels len ceiling e.loss))
    ((n ≡ len) × (new ≡ old))
    ((mid : Places V) × LaidOver ops len ceiling p e.loss e.rates old mid × Outside s p (count_over old.levels len ceiling e.loss) old mid
    × LaidInTurn ops s ceiling p es (count_over old.levels len ceiling e.loss) n mid new)

-- the list laid out anew from its first contract: n levels are kept then
pub record RebuiltOver {V : Type 0} (ops : Operations V) (p : Plain) (n : ℕ) (old new : Places V) : Type 0 where
  pub begun : Places V
  pub begins : Begun ops (scenarios p) p.places old begun
  pub lays : LaidInTurn ops (scenarios p) p.ceiling p.places p.contracts 1 n begun new
