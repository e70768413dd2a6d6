-- The one file of a book.
use Rattle.std.specs.Prelude.{ℕ, List, [], ◌∷◌, ◌++◌, map, length}
use Rattle.book.specs.Plain.{Entry, Plain, size, scenarios}
use Rattle.tariff.specs.Grammar.{lines_text}
use Rattle.lines.specs.Texts.{trailer_text}

-- the numbers of a C line: key, loss, one rate a scenario
abbrev pub numbers_of : Entry → List ℕ
numbers_of e = e.key ∷ (e.loss ∷ e.rates)

-- the S lines, one share each
abbrev pub shares_text : List ℕ → List ℕ
shares_text shares = lines_text 83 (map (λ w. w ∷ []) shares)

-- the C lines
abbrev pub contracts_text : List Entry → List ℕ
contracts_text entries = lines_text 67 (map numbers_of entries)

-- S lines, C lines, and the trailer, which has the place of the first C line
abbrev pub file_text : Plain → List ℕ
file_text p =
    shares_text p.shares ++ (contracts_text p.contracts ++ trailer_text p.ceiling (scenarios p) (size p) (length (shares_text p.shares)))
