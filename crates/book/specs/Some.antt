-- Whether some element of a list passes a test.
use Rattle.std.specs.Prelude.{Bool, false, ◌||◌, List, [], ◌∷◌}

abbrev pub some : {X : Type 0} → (X → Bool) → List X → Bool
some t [] = false
some t (x ∷ xs) = t x || some t xs
