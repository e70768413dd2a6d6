-- The plain list that a book is.
use Rattle.std.specs.Prelude.{ℕ, List, map, take, vec_items}
use Rattle.book.specs.declared.shares.Shares.{Shares}
use Rattle.book.specs.declared.book.Book.{Book}
use Rattle.book.specs.Entries.{entry_of}
use Rattle.book.specs.Plain.{Plain}

abbrev pub shares_of : Shares → List ℕ
shares_of s = take s.count s.each

abbrev pub listed : Book → Plain
listed b =
    record {
      ceiling = b.ceiling;
      shares = shares_of b.shares;
      places = b.places;
      contracts = map (entry_of b.shares.count) (vec_items b.contracts);
    }
