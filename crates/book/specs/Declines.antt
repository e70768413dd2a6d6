-- When a call is declined: its sentences in the order of their numbers, read with the plain list for the book.
use Rattle.std.specs.Prelude.{ℕ, ◌+◌, ◌*◌, Bool, not, ◌||◌, List, [], ◌∷◌, ◌++◌, length, ◌==◌, nat_le, nat_lt}
use Rattle.reckoning.specs.Outcomes.{summed, outside, loss_wrong, rate_wrong}
use Rattle.book.specs.Levels.{kept}
use Rattle.book.specs.declared.shown.Handed.{Handed}
use Rattle.book.specs.Plain.{Plain, size, scenarios, losses, holds_key}
use Rattle.book.specs.Refusals.{Sentences}
use Rattle.book.specs.Some.{some}

-- too few or too many places for n scenarios
abbrev pub short : Handed → ℕ → Bool
short h n = outside 1 65536 h.levels || (nat_lt h.bounds (h.levels * n) || nat_lt h.values (h.levels * n))

-- the places do not fit the book
abbrev pub places_wrong : Handed → Plain → Bool
places_wrong h p = short h (scenarios p) || not (h.levels == p.places)

abbrev pub ceiling_wrong : ℕ → Bool
ceiling_wrong c = outside 1 65535 c

abbrev pub shares_wrong : List ℕ → Bool
shares_wrong ws = outside 1 8 (length ws) || not (summed (λ w. w) ws == 1000000)

-- for n scenarios
abbrev pub rates_wrong : ℕ → List ℕ → Bool
rates_wrong n rs = not (length rs == n) || some rate_wrong rs

abbrev pub too_many_levels : Plain → ℕ → Bool
too_many_levels p w = nat_lt p.places (length (kept p.ceiling (losses p ++ (w ∷ []))))

abbrev pub open_sentences : Handed → ℕ → List ℕ → Sentences
open_sentences h c ws = (5, ceiling_wrong c) ∷ (6, shares_wrong ws) ∷ (7, short h (length ws)) ∷ []

-- those of enter that hang on the list alone, and all
abbrev pub enter_early : Handed → Plain → ℕ → ℕ → List ℕ → Sentences
enter_early h p k w rs = (7, places_wrong h p) ∷ (8, loss_wrong w) ∷ (9, rates_wrong (scenarios p) rs) ∷ (11, holds_key k p.contracts) ∷ (12, nat_le 256 (size p)) ∷ []

abbrev pub enter_sentences : Handed → Plain → ℕ → ℕ → List ℕ → Sentences
enter_sentences h p k w rs = enter_early h p k w rs ++ (13, too_many_levels p w) ∷ []

-- those of value where the places fit, and all
abbrev pub value_late : Plain → ℕ → ℕ → Sentences
value_late p s k = (14, outside 1 (scenarios p) s) ∷ (15, nat_lt p.ceiling k) ∷ []

abbrev pub value_sentences : Handed → Plain → ℕ → ℕ → Sentences
value_sentences h p s k = (7, places_wrong h p) ∷ value_late p s k

abbrev pub chance_sentences : Handed → Plain → ℕ → ℕ → Sentences
chance_sentences h p s k = (7, places_wrong h p) ∷ (14, outside 0 (scenarios p) s) ∷ (15, nat_lt p.ceiling k) ∷ []

abbrev pub key_absent : Plain → ℕ → Bool
key_absent p k = not (holds_key k p.contracts)

abbrev pub rerate_sentences : Handed → Plain → ℕ → List ℕ → Sentences
rerate_sentences h p k rs = (7, places_wrong h p) ∷ (9, rates_wrong (scenarios p) rs) ∷ (10, key_absent p k) ∷ []

abbrev pub strike_sentences : Handed → Plain → ℕ → Sentences
strike_sentences h p k = (7, places_wrong h p) ∷ (10, key_absent p k) ∷ []

abbrev pub reserve_sentences : Handed → Plain → ℕ → Sentences
reserve_sentences h p c = (7, places_wrong h p) ∷ (16, outside 1 1000000 c) ∷ []

abbrev pub layer_sentences : Handed → Plain → ℕ → ℕ → Sentences
layer_sentences h p d t = (7, places_wrong h p) ∷ (17, not (nat_lt d t) || nat_lt (p.ceiling + 1) t) ∷ []
