-- The plain list under calls: when it declines one, what it answers, what is left of it.
use Rattle.std.specs.Prelude.{◌≡◌, ℕ, max, false, List, [], ◌∷◌, length, Some, None, Ok, Option, Result}
use Rattle.reckoning.specs.Enclosing.{bounds}
use Rattle.reckoning.specs.Operations.{Operations}
use Rattle.law.specs.declared.call.Call.{Call}
use Rattle.law.specs.declared.call.Call.TheVariants.{Enter, ReRate, Strike, BoundsAt, ValueAt, ChanceAt, ReserveFor, LayerOf}
use Rattle.law.specs.declared.call.Answer.{Answer}
use Rattle.law.specs.declared.call.Answer.TheVariants.{Done, Bounds, Value, Chance, Reserve, Layer}
use Rattle.book.specs.declared.refusal.Refusal.{Refusal}
use Rattle.book.specs.declared.shown.Handed.{Handed}
use Rattle.book.specs.Declines.{places_wrong, open_sentences, enter_early, enter_sentences, rerate_sentences, strike_sentences, value_sentences, chance_sentences, reserve_sentences, layer_sentences}
use Rattle.book.specs.Figures.{chance}
use Rattle.book.specs.Laid.{State, Holds, Outside}
use Rattle.book.specs.Levels.{kept}
use Rattle.book.specs.Listed.{listed}
use Rattle.book.specs.Plain.{Plain, scenarios, losses, entry, opened, with_entry, with_entries, without, re_rated}
use Rattle.book.specs.Pricing.{reserve_low, reserve_high, layer_low, layer_high}
use Rattle.book.specs.Refusals.{refusal_of, Sentences, first, FreeOf}
use Rattle.book.specs.Values.{value}
use Rattle.law.specs.WellFormed.{WellFormed}

-- the sentences of a call, one table each
abbrev pub sentences : Handed → Plain → Call → Sentences
sentences h p (Enter k w rs) = enter_sentences h p k w rs.now
sentences h p (ReRate k rs) = rerate_sentences h p k rs.now
sentences h p (Strike k) = strike_sentences h p k
sentences h p (BoundsAt s k) = value_sentences h p s k
sentences h p (ValueAt s k) = value_sentences h p s k
sentences h p (ChanceAt s k) = chance_sentences h p s k
sentences h p (ReserveFor c) = reserve_sentences h p c
sentences h p (LayerOf d t) = layer_sentences h p d t

-- the number by which a call, or the opening, is declined; none where it is accepted
abbrev pub declines : Handed → Plain → Call → Option ℕ
declines h p c = first (sentences h p c)

abbrev pub declines_open : Handed → ℕ → List ℕ → Option ℕ
declines_open h ceiling shares = first (open_sentences h ceiling shares)

-- what an accepted call leaves of the list
abbrev pub changed : Plain → Call → Plain
changed p (Enter k w rs) = with_entry p (entry k w rs.now)
changed p (ReRate k rs) = with_entries p (re_rated k rs.now p.contracts)
changed p (Strike k) = with_entries p (without k p.contracts)
changed p (BoundsAt s k) = p
changed p (ValueAt s k) = p
changed p (ChanceAt s k) = p
changed p (ReserveFor c) = p
changed p (LayerOf d t) = p

-- what is left where the call is declined by that number, or by none
abbrev pub unless : Option ℕ → Plain → Plain → Plain
unless (Some n) same other = same
unless None same other = other

-- the list after the opening, after a call, and after calls in turn
abbrev pub after_open : Handed → Plain → ℕ → List ℕ → Plain
after_open h p ceiling shares = unless (declines_open h ceiling shares) p (opened h.levels ceiling shares)

abbrev pub after : Handed → Plain → Call → Plain
after h p c = unless (declines h p c) p (changed p c)

abbrev pub afters : Handed → Plain → List Call → Plain
afters h p [] = p
afters h p (c ∷ cs) = afters h (after h p c) cs

-- what an accepted call answers
abbrev pub answer : {V : Type 0} → Operations V → Plain → Call → Answer V
answer ops p (Enter k w rs) = Done
answer ops p (ReRate k rs) = Done
answer ops p (Strike k) = Done
answer ops p (BoundsAt s k) = Bounds (value bounds p s k)
answer ops p (ValueAt s k) = Value (value ops p s k)
answer ops p (ChanceAt s k) = Chance (chance p s k).lower (chance p s k).upper
answer ops p (ReserveFor c) = Reserve (reserve_low p c) (reserve_high p c)
answer ops p (LayerOf d t) = Layer (layer_low p d t) (layer_high p d t)

-- what comes of a call: a refusal, or an answer
abbrev pub Told : Type 0 → Type 0
Told V = Result (Answer V) Refusal

-- a call answers rightly: declined exactly when the list declines it, by that number; accepted, it answers what is defined for the list
pub record Right {V : Type 0} (ops : Operations V) (h : Handed) (p : Plain) (c : Call) (a : Told V) : Type 0 where
  pub declined : refusal_of a ≡ declines h p c
  pub answered : refusal_of a ≡ None → a ≡ Ok (answer ops p c)

-- how many levels the list keeps, and the most that it keeps at any time while calls are made in turn
abbrev pub count_kept : Plain → ℕ
count_kept p = length (kept p.ceiling (losses p))

abbrev pub most_kept : Handed → Plain → List Call → ℕ
most_kept h p [] = count_kept p
most_kept h p (c ∷ cs) = max (count_kept p) (most_kept h (after h p c) cs)

-- a list that a run can reach: it is well formed, and the places fit it
pub record Sound (h : Handed) (p : Plain) : Type 0 where
  pub formed : WellFormed p
  pub fits : places_wrong h p ≡ false

-- whatever the places hold, a call is declined as the list declines it; only in 13 is an enter free
abbrev pub DeclinedAs : Handed → Plain → Call → Option ℕ → Type 0
DeclinedAs h p (Enter k w rs) r = FreeOf 13 (first (enter_early h p k w rs.now)) r
DeclinedAs h p (ReRate k rs) r = r ≡ declines h p (ReRate k rs)
DeclinedAs h p (Strike k) r = r ≡ declines h p (Strike k)
DeclinedAs h p (BoundsAt s k) r = r ≡ declines h p (BoundsAt s k)
DeclinedAs h p (ValueAt s k) r = r ≡ declines h p (ValueAt s k)
DeclinedAs h p (ChanceAt s k) r = r ≡ declines h p (ChanceAt s k)
DeclinedAs h p (ReserveFor c) r = r ≡ declines h p (ReserveFor c)
DeclinedAs h p (LayerOf d t) r = r ≡ declines h p (LayerOf d t)

-- what one call does to a book and its places, x before it and y after it
pub record One {V : Type 0} (ops : Operations V) (h : Handed) (x y : State V) (c : Call) (a : Told V) : Type 0 where
  -- declined, it leaves everything as it was
  pub unchanged : (n : ℕ) → refusal_of a ≡ Some n → y ≡ x
  -- accepted, it leaves the list that the call makes, and no other place written than those of the kept levels
  pub list : refusal_of a ≡ None → listed y.book ≡ changed (listed x.book) c
  pub outside : refusal_of a ≡ None → Outside (scenarios (listed x.book)) h.levels y.book.kept x.places y.places
  -- where the places hold what the book says, it answers rightly, and they do so again
  pub right : Holds ops x.book x.places → Right ops h (listed x.book) c a
  pub again : Holds ops x.book x.places → Holds ops y.book y.places
