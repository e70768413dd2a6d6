-- Lawful lists: those that a book can be, whatever calls were made on it.
use Rattle.std.specs.Prelude.{◌≡◌, ℕ, ◌^◌, ◌<◌, ◌≤◌, true, false}
use Rattle.std.specs.List.{AllByRecursion}
use Rattle.reckoning.specs.Outcomes.{loss_wrong}
use Rattle.book.specs.declared.book.Book.{Book}
use Rattle.book.specs.Declines.{ceiling_wrong, shares_wrong, rates_wrong}
use Rattle.book.specs.Listed.{listed}
use Rattle.book.specs.Plain.{Entry, Plain, size, scenarios, distinct_keys}

-- a contract of n scenarios as enter admits it
pub record LawfulEntry (n : ℕ) (e : Entry) : Type 0 where
  pub key : e.key < 2 ^ 32
  pub loss : loss_wrong e.loss ≡ false
  pub rates : rates_wrong n e.rates ≡ false

-- ceiling and shares as open admits them, at most 256 contracts, each under a key of its own
pub record Lawful (p : Plain) : Type 0 where
  pub ceiling : ceiling_wrong p.ceiling ≡ false
  pub shares : shares_wrong p.shares ≡ false
  pub few : size p ≤ 256
  pub each : AllByRecursion (LawfulEntry (scenarios p)) p.contracts
  pub distinct : distinct_keys p.contracts ≡ true

-- every book's list is lawful, whatever the places hold
abbrev pub BooksAreLawful : Type 0
BooksAreLawful = (b : Book) → Lawful (listed b)
