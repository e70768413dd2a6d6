-- Calls by their words and numbers.
use Rattle.std.specs.Prelude.{◌≡◌, ℕ, Bool, List, [], ◌∷◌, Some, None, codes, Option, ◌==◌, nat_le}
use Rattle.law.specs.declared.call.Call.{Call}
use Rattle.law.specs.declared.call.Call.TheVariants as calls
use Rattle.scripts.specs.declared.verb.Verb.{Verb}
use Rattle.scripts.specs.declared.verb.Verb.TheVariants.{Enter, Rerate, Strike, Bounds, Claims, Chance, Reserve, Layer}

-- the words by which a verb is asked for; value takes a second one
abbrev pub NamedBy : List ℕ → List ℕ → Verb → Type 0
NamedBy first second Enter = first ≡ codes "enter"
NamedBy first second Rerate = first ≡ codes "rerate"
NamedBy first second Strike = first ≡ codes "strike"
NamedBy first second Bounds = (first ≡ codes "value") × (second ≡ codes "bounds")
NamedBy first second Claims = (first ≡ codes "value") × (second ≡ codes "claims")
NamedBy first second Chance = first ≡ codes "chance"
NamedBy first second Reserve = first ≡ codes "reserve"
NamedBy first second Layer = first ≡ codes "layer"

-- the verb that the words ask for, or they ask for none
abbrev pub Named : List ℕ → List ℕ → Option Verb → Type 0
Named first second (Some v) = NamedBy first second v
Named first second None = (v : Verb) → NamedBy first second v → ⊥

-- how many words ask for a verb
abbrev pub words_of : Verb → ℕ
words_of Enter = 1
words_of Rerate = 1
words_of Strike = 1
words_of Bounds = 2
words_of Claims = 2
words_of Chance = 1
words_of Reserve = 1
words_of Layer = 1

-- the verb of a call, and its numbers in order
abbrev pub verb_asked : Call → Verb
verb_asked (calls.Enter k w rs) = Enter
verb_asked (calls.ReRate k rs) = Rerate
verb_asked (calls.Strike k) = Strike
verb_asked (calls.BoundsAt s k) = Bounds
verb_asked (calls.ValueAt s k) = Claims
verb_asked (calls.ChanceAt s k) = Chance
verb_asked (calls.ReserveFor c) = Reserve
verb_asked (calls.LayerOf d t) = Layer

abbrev pub numbers_asked : Call → List ℕ
numbers_asked (calls.Enter k w rs) = k ∷ (w ∷ rs.now)
numbers_asked (calls.ReRate k rs) = k ∷ rs.now
numbers_asked (calls.Strike k) = k ∷ []
numbers_asked (calls.BoundsAt s k) = s ∷ (k ∷ [])
numbers_asked (calls.ValueAt s k) = s ∷ (k ∷ [])
numbers_asked (calls.ChanceAt s k) = s ∷ (k ∷ [])
numbers_asked (calls.ReserveFor c) = c ∷ []
numbers_asked (calls.LayerOf d t) = d ∷ (t ∷ [])

-- whether a verb takes so many numbers
abbrev pub takes : Verb → ℕ → Bool
takes Enter n = nat_le 2 n
takes Rerate n = nat_le 1 n
takes Strike n = n == 1
takes Bounds n = n == 2
takes Claims n = n == 2
takes Chance n = n == 2
takes Reserve n = n == 1
takes Layer n = n == 2
