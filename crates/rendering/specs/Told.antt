-- What a call that puts a text answers, and the number of its refusal.
use Rattle.std.specs.Prelude.{◌≡◌, ℕ, ◌<◌, ◌≤◌, List, ◌++◌, length, drop, Ok, Err, Result}
use Rattle.rendering.specs.declared.text.TooFew.{TooFew}

-- the text stands at the front and its length is told, or it does not fit and nothing is written
abbrev pub Tells : List ℕ → List ℕ → List ℕ → Result ℕ TooFew → Type 0
Tells text before after (Ok k) = (k ≡ length text) × (k ≤ length before) × (after ≡ text ++ drop k before)
Tells text before after (Err e) = (length before < length text) × (after ≡ before)

-- the number under which too few bytes are refused
abbrev pub number_of : TooFew → ℕ
number_of e = 18
