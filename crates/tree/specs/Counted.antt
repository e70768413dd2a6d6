-- Which outcomes a count tells, and when it is declined.
use Rattle.std.specs.Prelude.{ℕ, Bool, ltb, List, [], ◌∷◌, map, length, Some, None, Ok, Err, filter, Option, Result, nat_lt}
use Rattle.reckoning.specs.Outcomes.{Family, weight, outcomes, within, loss_wrong, rate_wrong}
use Rattle.book.specs.Refusals.{Sentences}
use Rattle.book.specs.Some.{some}
use Rattle.tree.specs.declared.pair.Pair.{Pair}
use Rattle.tree.specs.declared.refusal.CountRefusal.{CountRefusal}
use Rattle.tree.specs.declared.refusal.CountRefusal.TheVariants.{Loss, Rate, TooMany}

-- the losses in the order of the pairs
abbrev pub losses : List Pair → List ℕ
losses ps = map (λ p. p.loss) ps

-- the rates in the order of the pairs
abbrev pub rates : List Pair → List ℕ
rates ps = map (λ p. p.rate) ps

-- those of a family that have a weight above zero
abbrev pub possible : List ℕ → Family → Family
possible rs os = filter (λ o. ltb 0 (weight rs o)) os

-- the outcomes of the pairs of weight above zero and loss at most the level
abbrev pub counted : ℕ → List Pair → Family
counted level ps = possible (rates ps) (within level (losses ps) (outcomes (length ps)))

-- the number under which a refusal is told
abbrev pub number_of : CountRefusal → ℕ
number_of Loss = 8
number_of Rate = 9
number_of TooMany = 19

-- the number of a count's refusal, none where it is accepted
abbrev pub refusal_of : {T : Type 0} → Result T CountRefusal → Option ℕ
refusal_of (Ok n) = None
refusal_of (Err e) = Some (number_of e)

-- a pair's loss is out of range
abbrev pub some_loss_wrong : List Pair → Bool
some_loss_wrong ps = some (λ p. loss_wrong p.loss) ps

-- a pair's rate exceeds a million
abbrev pub some_rate_wrong : List Pair → Bool
some_rate_wrong ps = some (λ p. rate_wrong p.rate) ps

-- the sentences under which a count is declined
abbrev pub count_sentences : List Pair → Sentences
count_sentences ps = (8, some_loss_wrong ps) ∷ (9, some_rate_wrong ps) ∷ (19, nat_lt 16 (length ps)) ∷ []
