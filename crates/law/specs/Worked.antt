-- Small books worked through: one table of figures, which a computed test goes over.
use Rattle.std.specs.Prelude.{◌≡◌, ℕ, ◌*◌, Bool, true, false, ◌&&◌, List, [], ◌∷◌, Some, None, Option, ◌==◌}
use Rattle.std.specs.Str.{bytes_eq}
use Rattle.reckoning.specs.Counting.{counts}
use Rattle.book.specs.Plain.{Entry, Plain, entry, losses, without}
use Rattle.book.specs.Levels.{kept}
use Rattle.book.specs.Values.{value}
use Rattle.book.specs.Figures.{chance}
use Rattle.book.specs.Pricing.{reserve_low, reserve_high, layer_low, layer_high}

-- a figure of a book, and what it should be
pub data Figure : Type 0 where
  -- the kept levels
  keeps : List ℕ → Figure
  -- at a scenario, 0 for the mix, and a level: the lower and the upper chance
  chance_is : ℕ → ℕ → ℕ → ℕ → Figure
  -- at a scenario and a level: the greatest number of claims
  claims_are : ℕ → ℕ → Option ℕ → Figure
  -- for a confidence: the two ends
  reserve_is : ℕ → Option ℕ → Option ℕ → Figure
  -- from one level to another: the two sums
  layer_is : ℕ → ℕ → ℕ → ℕ → Figure

-- a book beside figures of it
pub record Row : Type 0 where
  pub book : Plain
  pub figures : List Figure

-- whether every element of a list passes a test
abbrev pub every : {X : Type 0} → (X → Bool) → List X → Bool
every t [] = true
every t (x ∷ xs) = t x && every t xs

-- whether two lists, two counts or two levels are the same
abbrev pub same_numbers : List ℕ → List ℕ → Bool
same_numbers xs ys = bytes_eq xs ys

abbrev pub same_count : Option ℕ → Option ℕ → Bool
same_count None None = true
same_count None (Some j) = false
same_count (Some i) None = false
same_count (Some i) (Some j) = i == j

-- whether the book has the figure
abbrev pub has_figure : Plain → Figure → Bool
has_figure p (keeps levels) = same_numbers (kept p.ceiling (losses p)) levels
has_figure p (chance_is s k a b) = (chance p s k).lower == a && (chance p s k).upper == b
has_figure p (claims_are s k n) = same_count (value counts p s k) n
has_figure p (reserve_is c low high) = same_count (reserve_low p c) low && same_count (reserve_high p c) high
has_figure p (layer_is d t a b) = layer_low p d t == a && layer_high p d t == b

-- whether it has all of its figures
abbrev pub agrees : Row → Bool
agrees row = every (has_figure row.book) row.figures

-- a book of ceiling 6, with these shares and contracts
abbrev pub book_of : List ℕ → List Entry → Plain
book_of shares entries = record { ceiling = 6; shares = shares; places = 8; contracts = entries }

-- of one scenario
abbrev pub one_scenario : List Entry → Plain
one_scenario entries = book_of (1000000 ∷ []) entries

abbrev pub with_figures : Plain → List Figure → Row
with_figures p figures = record { book = p; figures = figures }

-- both bounds at a level of scenario 1, in thousandths of certainty
abbrev pub both_are : ℕ → ℕ → Figure
both_are k n = chance_is 1 k (n * 1000000000) (n * 1000000000)

-- an empty book
abbrev pub none_entered : Row
none_entered = with_figures (one_scenario []) (both_are 0 1000 ∷ both_are 6 1000 ∷ [])

-- the contracts of the worked book
abbrev pub three : List Entry
three = entry 11 3 (200000 ∷ []) ∷ entry 12 2 (500000 ∷ []) ∷ entry 13 2 (100000 ∷ []) ∷ []

-- with every kind of figure
abbrev pub three_entered : Row
three_entered =
    with_figures (one_scenario three)
    (keeps (0 ∷ 2 ∷ 3 ∷ 4 ∷ 5 ∷ []) ∷
    both_are 0 360 ∷ both_are 2 760 ∷ both_are 3 850 ∷ both_are 4 890 ∷ both_are 5 990 ∷
    claims_are 1 0 (Some 0) ∷ claims_are 1 2 (Some 1) ∷ claims_are 1 3 (Some 1) ∷ claims_are 1 4 (Some 2) ∷ claims_are 1 5 (Some 2) ∷
    reserve_is 850000 (Some 3) (Some 3) ∷ reserve_is 850001 (Some 4) (Some 4) ∷ reserve_is 990001 None None ∷
    layer_is 2 5 500000000000 500000000000 ∷ [])

-- the same after a strike of 11
abbrev pub one_struck : Row
one_struck =
    with_figures (one_scenario (without 11 three))
    (keeps (0 ∷ 2 ∷ 4 ∷ []) ∷ both_are 0 450 ∷ both_are 2 950 ∷ both_are 4 1000 ∷ [])

-- where the bounds are a grain apart
abbrev pub three_rare : Row
three_rare =
    with_figures (one_scenario (entry 1 1 (1 ∷ []) ∷ entry 2 1 (1 ∷ []) ∷ entry 3 1 (1 ∷ []) ∷ [])) (chance_is 1 0 999997000002 999997000003 ∷ [])

-- a claim for sure: no outcome of less can come about
abbrev pub one_certain : Row
one_certain = with_figures (one_scenario (entry 1 5 (1000000 ∷ []) ∷ [])) (both_are 4 0 ∷ claims_are 1 4 None ∷ [])

-- a loss that never comes about has a level too
abbrev pub one_never : Row
one_never = with_figures (one_scenario (entry 1 5 (0 ∷ []) ∷ [])) (keeps (0 ∷ 5 ∷ []) ∷ [])

-- the mix of two scenarios
abbrev pub two_scenarios : Row
two_scenarios =
    with_figures (book_of (250000 ∷ 750000 ∷ []) (entry 1 1 (200000 ∷ 400000 ∷ []) ∷ [])) (chance_is 0 0 650000000000 650000000000 ∷ [])

abbrev pub table : List Row
table = none_entered ∷ three_entered ∷ one_struck ∷ three_rare ∷ one_certain ∷ one_never ∷ two_scenarios ∷ []

-- every book of the table has all of its figures
abbrev pub WorkedCasesStand : Type 0
WorkedCasesStand = every agrees table ≡ true
