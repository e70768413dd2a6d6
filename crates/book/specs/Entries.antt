-- A contract as an entry of the plain list.
use Rattle.std.specs.Prelude.{ℕ, List, map, take}
use Rattle.reckoning.specs.declared.rate.Rate.{Rate}
use Rattle.book.specs.declared.contract.Contract.{Contract}
use Rattle.book.specs.Plain.{Entry}

-- rates as numbers of millionths
abbrev pub millionths_of : List Rate → List ℕ
millionths_of rates = map (λ r. r.millionths) rates

-- in n scenarios
abbrev pub entry_of : ℕ → Contract → Entry
entry_of n c = record { key = c.key; loss = c.loss.units; rates = millionths_of (take n c.rates) }
