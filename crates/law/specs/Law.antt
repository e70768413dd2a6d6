-- The law over runs: an opening and then calls, all lent the same places.
use Rattle.std.specs.Prelude.{◌≡◌, ℕ, ◌+◌, ◌-◌, ◌*◌, ◌<◌, ◌≤◌, ◌≢◌, List, length, take, drop, Some, None, Option, slice_index_or}
use Rattle.reckoning.specs.declared.grains.Grains.{Grains}
use Rattle.reckoning.specs.Enclosing.{Stands}
use Rattle.reckoning.specs.Operations.{Operations}
use Rattle.reckoning.specs.Outcomes.{Family}
use Rattle.reckoning.specs.Rounding.{Encloses}
use Rattle.law.specs.declared.call.Call.{Call}
use Rattle.law.specs.declared.call.Call.TheVariants.{BoundsAt, ValueAt, ChanceAt, ReserveFor, LayerOf}
use Rattle.law.specs.declared.call.Answer.{Answer}
use Rattle.law.specs.declared.call.Answer.TheVariants.{Bounds, Value, Chance, Reserve, Layer}
use Rattle.book.specs.declared.shown.Handed.{Handed}
use Rattle.law.specs.Exact.{family, exact, exact_mix, all, all_mix, quantile, premium_mix}
use Rattle.book.specs.Laid.{State, Holds, Outside}
use Rattle.book.specs.Least.{NotAbove}
use Rattle.book.specs.Listed.{listed}
use Rattle.book.specs.Plain.{Plain, size, scenarios, rates, unopened}
use Rattle.law.specs.Runs.{declines, declines_open, after_open, afters, answer, Told, Right, most_kept}
use Rattle.law.specs.Truth as Truth
use Rattle.law.specs.Truth.{Inside, Confidence, Near}

-- ---- what is told of a list
-- asked of the list, the call is accepted and answers a
pub record Tells {V : Type 0} (ops : Operations V) (h : Handed) (p : Plain) (c : Call) (a : Answer V) : Type 0 where
  pub accepted : declines h p c ≡ None
  pub answers : answer ops p c ≡ a

-- two counts of 10^-12 enclose the figure e / all, and differ by at most so much
pub record Within (wide low high e all : ℕ) : Type 0 where
  pub encloses : Encloses low high e all
  pub narrow : high ≤ low + wide

-- two levels enclose the exact quantile, and where they differ the exact chance at the lower one is near the confidence
pub record Ends (p : Plain) (c : ℕ) (low high : Option ℕ) : Type 0 where
  pub not_above : NotAbove low (quantile p c)
  pub not_below : NotAbove (quantile p c) high
  pub near : (k : ℕ) → low ≢ high → low ≡ Some k → Near (size p + 1) c (exact_mix p k) (all_mix p)

-- what calls tell of a list with n contracts is true to their outcomes; `stands` is the meaning of the reckoning that is kept beside the bounds
pub record TellsTruth {V : Type 0} (ops : Operations V) (stands : V → List ℕ → Family → Type 0) (h : Handed) (p : Plain) : Type 0 where
  -- at any scenario and level a value is told, and it stands for exactly the outcomes of no greater loss
  pub value_stands : (s k : ℕ) → Inside p s k → (v : V) × Tells ops h p (ValueAt s k) (Value v) × stands v (rates p s) (family p k)
  -- and bounds, which stand for these outcomes too
  pub bounds_stand : (s k : ℕ) → Inside p s k → (g : Grains) × Tells ops h p (BoundsAt s k) (Bounds g) × Stands g (rates p s) (family p k)
  -- and a chance, whose bounds enclose the exact one and differ by at most n grains
  pub chance_within : (s k : ℕ) → Inside p s k → (low : ℕ) × (high : ℕ) × Tells ops h p (ChanceAt s k) (Chance low high) × Within (size p) low high (exact p s k) (all p)
  -- n + 1 grains for the mix
  pub mix_within : (k : ℕ) → k ≤ p.ceiling → (low : ℕ) × (high : ℕ) × Tells ops h p (ChanceAt 0 k) (Chance low high) × Within (size p + 1) low high (exact_mix p k) (all_mix p)
  -- for any confidence a reserve is told, whose ends enclose the exact quantile
  pub reserve_ends : (c : ℕ) → Confidence c → (low : Option ℕ) × (high : Option ℕ) × Tells ops h p (ReserveFor c) (Reserve low high) × Ends p c low high
  -- for any layer two sums are told, which enclose the exact premium and differ by at most n + 1 grains a level
  pub layer_within : (d t : ℕ) → Truth.Layer p d t → (low : ℕ) × (high : ℕ) × Tells ops h p (LayerOf d t) (Layer low high) × Within ((t - d) * (size p + 1)) low high (premium_mix p d t) (all_mix p)

-- ---- a run
-- calls carried out in turn on a book of the list p: x is the state before them and y the state after them, old and new are the places of the answers
pub record CarriedOut {V : Type 0} (ops : Operations V) (stands : V → List ℕ → Family → Type 0) (h : Handed) (p : Plain) (calls : List Call) (x y : State V) (old new : List (Told V)) : Type 0 where
  -- each call is declined exactly when the list as it stood before the call declines it, and by that number; an accepted one answers what is defined for that list
  pub each_right : (i : ℕ) (c : Call) (a : Told V) → i < length calls → Right ops h (afters h p (take i calls)) (slice_index_or calls i c) (slice_index_or new i a)
  -- after the opening and after every call, accepted or declined, what calls tell of the list is true to its outcomes
  pub always_true : (i : ℕ) → i ≤ length calls → TellsTruth ops stands h (afters h p (take i calls))
  -- at the end the book is the list after all calls, and the places hold what it says
  pub list : listed y.book ≡ afters h p calls
  pub holds : Holds ops y.book y.places
  -- places that never held a kept level are as they were
  pub outside : Outside (scenarios p) h.levels (most_kept h p calls) x.places y.places
  -- and so are the answers beyond the run
  pub rest : drop (length calls) new ≡ drop (length calls) old

-- the opening with this ceiling and these shares is declined by `refusal`, or accepted and then the calls are carried out
pub record Law {V : Type 0} (ops : Operations V) (stands : V → List ℕ → Family → Type 0) (h : Handed) (ceiling : ℕ) (shares : List ℕ) (refusal : Option ℕ) (calls : List Call) (x y : State V) (old new : List (Told V)) : Type 0 where
  -- it is declined exactly when its sentences decline it, and by that number
  pub opening : refusal ≡ declines_open h ceiling shares
  -- declined, it leaves book, places and answers as they were
  pub unchanged : (n : ℕ) → refusal ≡ Some n → y ≡ x
  pub unanswered : (n : ℕ) → refusal ≡ Some n → new ≡ old
  -- accepted, it is followed by the calls: the list is that of a book before open, then opened
  pub run : refusal ≡ None → CarriedOut ops stands h (after_open h unopened ceiling shares) calls x y old new
