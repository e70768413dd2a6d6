-- The list of all outcomes has each once.
use Rattle.std.proofs.Common.{◌≡◌, ℕ, zero, suc, ◌+◌, Bool, true, false, cond, ◌&&◌, [], ◌∷◌, ◌++◌, length, refl, ap, ◌∙◌, arith, length-append}
use Rattle.std.specs.List.{AllByRecursion}
use Rattle.std.proofs.ByRecursion.{All-append}
use Rattle.std.proofs.lemmas.Bool.{and_left, and_right, cond-false}
use Rattle.reckoning.specs.Every.{same_claim, same_outcome, times, EachOnce}
use Rattle.reckoning.specs.Outcomes.{Outcome, Family, extended, outcomes}
use Rattle.reckoning.specs.Sums.{summed_append}

-- ---- outcomes by their last contract
empty_apart : (p : Outcome) (b : Bool) → same_outcome [] (p ++ (b ∷ [])) ≡ false
empty_apart [] b = refl
empty_apart (x ∷ p) b = refl

apart_empty : (q : Outcome) (b : Bool) → same_outcome (q ++ (b ∷ [])) [] ≡ false
apart_empty [] b = refl
apart_empty (x ∷ q) b = refl

same_ends : (b : Bool) (q p : Outcome) → same_outcome (q ++ (b ∷ [])) (p ++ (b ∷ [])) ≡ same_outcome q p
same_ends true [] [] = refl
same_ends false [] [] = refl
same_ends b [] (x ∷ p) = and_right (same_claim b x) (same_outcome [] (p ++ (b ∷ []))) (empty_apart p b)
same_ends b (x ∷ q) [] = and_right (same_claim x b) (same_outcome (q ++ (b ∷ [])) []) (apart_empty q b)
same_ends b (x ∷ q) (y ∷ p) = ap (λ (t : Bool). same_claim x y && t) (same_ends b q p)

other_ends : (b c : Bool) → same_claim b c ≡ false → (q p : Outcome) → same_outcome (q ++ (b ∷ [])) (p ++ (c ∷ [])) ≡ false
other_ends b c other [] [] = and_left (same_claim b c) true other
other_ends b c other [] (x ∷ p) = and_right (same_claim b x) (same_outcome [] (p ++ (c ∷ []))) (empty_apart p c)
other_ends b c other (x ∷ q) [] = and_right (same_claim x c) (same_outcome (q ++ (b ∷ [])) []) (apart_empty q b)
other_ends b c other (x ∷ q) (y ∷ p) = and_right (same_claim x y) (same_outcome (q ++ (b ∷ [])) (p ++ (c ∷ []))) (other_ends b c other q p)

-- ---- how often they stand in a family with one contract more
times_same : (b : Bool) (q : Outcome) (os : Family) → times (q ++ (b ∷ [])) (extended b os) ≡ times q os
times_same b q [] = refl
times_same b q (o ∷ os) = ap (λ (t : Bool). cond t 1 0 + times (q ++ (b ∷ [])) (extended b os)) (same_ends b q o) ∙ ap (λ (k : ℕ). cond (same_outcome q o) 1 0 + k) (times_same b q os)

times_other : (b c : Bool) → same_claim b c ≡ false → (q : Outcome) (os : Family) → times (q ++ (b ∷ [])) (extended c os) ≡ 0
times_other b c other q [] = refl
times_other b c other q (o ∷ os) =
    let here = cond-false {A = ℕ} (same_outcome (q ++ (b ∷ [])) (o ++ (c ∷ []))) 1 0 (other_ends b c other q o) in
    omega (arith, here, times_other b c other q os)

times_either : (o : Outcome) (us vs : Family) → times o (us ++ vs) ≡ times o us + times o vs
times_either o us vs = summed_append (λ p. cond (same_outcome o p) 1 0) us vs

-- ---- an outcome is empty or has a last contract
data Ended : Outcome → Type 0 where
  empty : Ended []
  ends : (q : Outcome) (b : Bool) → Ended (q ++ (b ∷ []))

ended : (o : Outcome) → Ended o
ended [] = empty
ended (x ∷ o) = behind x (ended o)
  where
    behind : (x : Bool) {o : Outcome} → Ended o → Ended (x ∷ o)
    behind x empty = ends [] x
    behind x (ends q b) = ends (x ∷ q) b

once_ended : (n : ℕ) → ((q : Outcome) → length q ≡ n → times q (outcomes n) ≡ 1) → {o : Outcome} → Ended o → length o ≡ suc n → times o (outcomes (suc n)) ≡ 1
once_ended n once empty long = absurd (omega arith)
once_ended n once (ends q true) long =
    let l : length q ≡ n = omega (arith, length-append q (true ∷ [])) in
    omega (arith, times_either (q ++ (true ∷ [])) (extended false (outcomes n)) (extended true (outcomes n)), times_other true false refl q (outcomes n), times_same true q (outcomes n), once q l)
once_ended n once (ends q false) long =
    let l : length q ≡ n = omega (arith, length-append q (false ∷ [])) in
    omega (arith, times_either (q ++ (false ∷ [])) (extended false (outcomes n)) (extended true (outcomes n)), times_same false q (outcomes n), times_other false true refl q (outcomes n), once q l)

once : (n : ℕ) (o : Outcome) → length o ≡ n → times o (outcomes n) ≡ 1
once zero [] long = refl
once zero (b ∷ o) long = absurd (omega arith)
once (suc n) o long = once_ended n (once n) (ended o) long

extended_long : (b : Bool) (n : ℕ) (os : Family) → AllByRecursion (λ o. length o ≡ n) os → AllByRecursion (λ o. length o ≡ suc n) (extended b os)
extended_long b n [] all = tt
extended_long b n (o ∷ os) all = let l = all.0 in (omega (arith, length-append o (b ∷ [])), extended_long b n os all.1)

only : (n : ℕ) → AllByRecursion (λ o. length o ≡ n) (outcomes n)
only zero = (refl, tt)
only (suc n) = All-append (λ o. length o ≡ suc n) (extended false (outcomes n)) (extended true (outcomes n)) (extended_long false n (outcomes n) (only n)) (extended_long true n (outcomes n) (only n))

pub each_once : EachOnce
each_once = record { once = once; only = only }
