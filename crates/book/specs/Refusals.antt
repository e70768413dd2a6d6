-- A refusal by its number, and the number of the first sentence that holds.
use Rattle.std.specs.Prelude.{◌≡◌, ℕ, Bool, cond, ◌⊎◌, List, [], ◌∷◌, Some, None, Ok, Err, Option, Result}
use Rattle.book.specs.declared.refusal.Refusal.{Refusal}
use Rattle.book.specs.declared.refusal.Refusal.TheVariants.{Ceiling, Shares, Places, Loss, Rates, Absent, Present, Full, Levels, Scenario, Level, Confidence, Range}

abbrev pub number_of : Refusal → ℕ
number_of Ceiling = 5
number_of Shares = 6
number_of Places = 7
number_of Loss = 8
number_of Rates = 9
number_of Absent = 10
number_of Present = 11
number_of Full = 12
number_of Levels = 13
number_of Scenario = 14
number_of Level = 15
number_of Confidence = 16
number_of Range = 17

-- the number of a call's refusal, none where it is accepted
abbrev pub refusal_of : {T : Type 0} → Result T Refusal → Option ℕ
refusal_of (Ok x) = None
refusal_of (Err e) = Some (number_of e)

-- sentences under their numbers, and the number of the first that holds
abbrev pub Sentences : Type 0
Sentences = List (ℕ × Bool)

abbrev pub first : Sentences → Option ℕ
first [] = None
first (s ∷ ss) = cond s.1 (Some s.0) (first ss)

-- the early sentences decide; where none of them holds the call is accepted or gets the number n
abbrev pub FreeOf : ℕ → Option ℕ → Option ℕ → Type 0
FreeOf n (Some early) r = r ≡ Some early
FreeOf n None r = (r ≡ None) ⊎ (r ≡ Some n)
