-- Well formed lists: shares, rates and a number of contracts as the calls admit them.
use Rattle.std.specs.Prelude.{◌≡◌, ℕ, ◌≤◌, length}
use Rattle.std.specs.List.{AllByRecursion}
use Rattle.reckoning.specs.Outcomes.{summed}
use Rattle.book.specs.Plain.{Entry, Plain, size, scenarios}

-- a contract of n scenarios: one rate for each, none above a million millionths
pub record Rated (n : ℕ) (e : Entry) : Type 0 where
  pub one_each : length e.rates ≡ n
  pub millionths : AllByRecursion (λ r. r ≤ 1000000) e.rates

-- shares that come to a million, contracts rated in each scenario, at most 256 of them
pub record WellFormed (p : Plain) : Type 0 where
  pub whole : summed (λ w. w) p.shares ≡ 1000000
  pub rated : AllByRecursion (Rated (scenarios p)) p.contracts
  pub few : size p ≤ 256
