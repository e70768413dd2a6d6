-- Whether some element passes a test: at a place, over a front, over a map.
use Rattle.std.proofs.Common.{◌≡◌, ℕ, zero, suc, ◌<◌, Bool, true, false, ◌||◌, List, [], ◌∷◌, ◌++◌, map, length, get_or, sym, refl, ap, ◌∙◌, arith}
use Rattle.std.proofs.lemmas.Bool.{or_left, or_right}
use Rattle.book.specs.Some.{some}

or_assoc : (a b c : Bool) → ((a || b) || c) ≡ (a || (b || c))
or_assoc true b c = refl
or_assoc false b c = refl

module _ {X : Type 0} (t : X → Bool) where
  pub some_append : (xs ys : List X) → some t (xs ++ ys) ≡ (some t xs || some t ys)
  some_append [] ys = refl
  some_append (x ∷ xs) ys = ap (λ b. t x || b) (some_append xs ys) ∙ sym (or_assoc (t x) (some t xs) (some t ys))

  pub some_at : (xs : List X) (i : ℕ) (d : X) → i < length xs → t (get_or xs i d) ≡ true → some t xs ≡ true
  some_at [] i d l h = absurd (omega arith)
  some_at (x ∷ xs) zero d l h = or_left (t x) (some t xs) h
  some_at (x ∷ xs) (suc i) d l h = or_right (t x) (some t xs) (some_at xs i d (omega arith) h)

pub some_map : {X Y : Type 0} (t : Y → Bool) (f : X → Y) (xs : List X) → some t (map f xs) ≡ some (λ x. t (f x)) xs
some_map t f [] = refl
some_map t f (x ∷ xs) = ap (λ b. t (f x) || b) (some_map t f xs)
