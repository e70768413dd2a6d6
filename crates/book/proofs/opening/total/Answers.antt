use Rattle.std.proofs.Common.{◌≡◌, ℕ, ◌+◌, List, [], ◌∷◌, refl, ap, ◌∙◌, rules}
use Rattle.std.specs.List.{sum_by}
use Rattle.std.proofs.lemmas.List.Sums.{sum_by-cons}
use Rattle.reckoning.specs.Outcomes.{summed}
use Rattle.book.proofs.opening.total.Goals as goal

summed_by : (f : ℕ → ℕ) (xs : List ℕ) → sum_by f xs ≡ summed f xs
summed_by f [] = refl
summed_by f (x ∷ xs) = sum_by-cons f x xs ∙ ap (λ (s : ℕ). f x + s) (summed_by f xs)

pub returns : goal.returns
returns c = let is : c.sum.result ≡ sum_by (λ (w : ℕ). w) c.args.shares.now = search rules in is ∙ summed_by (λ w. w) c.args.shares.now
