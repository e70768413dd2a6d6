-- What the least level is.
use Rattle.std.proofs.Common.{◌≡◌, ℕ, zero, suc, ◌<◌, ◌≤◌, Bool, true, false, cond, refl, ap, subst, inl, inr, arith, Option, Some, None}
use Rattle.std.proofs.lemmas.Bool.{cases_lt, cases_order, cond_both, both_ways}
use Rattle.book.specs.Least.{Least, least, NotAbove, LeastIsLeast}

-- false below n and at n
none_up_to : (t : ℕ → Bool) (n : ℕ) → ((k : ℕ) → k < n → t k ≡ false) → t n ≡ false → (k : ℕ) → k ≤ n → t k ≡ false
none_up_to t n below here k l =
    elim (cases_lt k n) [
      | inl less ↦ below k less
      | inr not_less ↦ let same : n ≡ k = omega arith in subst (λ (v : ℕ). t v ≡ false) same here
    ]

one_level_more : (t : ℕ → Bool) (n : ℕ) (f : Option ℕ) → Least t n f → Least t (suc n) (elim f [ Some q ↦ Some q | None ↦ cond (t (suc n)) (Some (suc n)) None ])
one_level_more t n (Some q) h = let l = h.0 in (omega arith, h.1, h.2)
one_level_more t n None none =
    cond_both (t (suc n)) (Some (suc n)) None (Least t (suc n))
    (λ holds. (omega arith, holds, λ k l. none k (omega arith)))
    (λ fails. none_up_to t (suc n) (λ k l. none k (omega arith)) fails)

pub least_is : (t : ℕ → Bool) (n : ℕ) → Least t n (least t n)
least_is t zero =
    cond_both (t zero) (Some zero) None (Least t zero)
    (λ holds. (omega arith, holds, λ k l. absurd (omega arith)))
    (λ fails. none_up_to t zero (λ k l. absurd (omega arith)) fails)
least_is t (suc n) = one_level_more t n (least t n) (least_is t n)

pub least_at : (t : ℕ → Bool) (n k : ℕ) → least t n ≡ Some k → Least t n (Some k)
least_at t n k e = subst (Least t n) e (least_is t n)

pub least_unique : (t : ℕ → Bool) (n : ℕ) (f g : Option ℕ) → Least t n f → Least t n g → f ≡ g
least_unique t n (Some a) (Some b) p q =
    elim (cases_order a b) [
      | inl same ↦ ap Some same
      | inr r ↦ elim r [ inl l ↦ absurd (both_ways (t a) (q.2 a l) p.1) | inr l ↦ absurd (both_ways (t b) (p.2 b l) q.1) ]
    ]
least_unique t n (Some a) None p q = absurd (both_ways (t a) (q a p.0) p.1)
least_unique t n None (Some b) p q = absurd (both_ways (t b) (p b q.0) q.1)
least_unique t n None None p q = refl

-- a weaker test is met no later
met_no_later : (s t : ℕ → Bool) (n : ℕ) → ((k : ℕ) → k ≤ n → s k ≡ true → t k ≡ true) → (f g : Option ℕ) → Least t n f → Least s n g → NotAbove f g
met_no_later s t n weaker (Some a) (Some b) p q =
    elim (cases_lt b a) [ inl l ↦ absurd (both_ways (t b) (p.2 b l) (weaker b q.0 q.1)) | inr l ↦ l ]
met_no_later s t n weaker (Some a) None p q = tt
met_no_later s t n weaker None (Some b) p q = both_ways (t b) (p b q.0) (weaker b q.0 q.1)
met_no_later s t n weaker None None p q = tt

pub least_not_above : (s t : ℕ → Bool) (n : ℕ) → ((k : ℕ) → k ≤ n → s k ≡ true → t k ≡ true) → NotAbove (least t n) (least s n)
least_not_above s t n weaker = met_no_later s t n weaker (least t n) (least s n) (least_is t n) (least_is s n)

pub least_is_least : LeastIsLeast
least_is_least = record { is_least = least_is; only_one = λ t n f h. least_unique t n f (least t n) h (least_is t n) }
