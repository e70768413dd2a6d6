-- What one call does, from what its own clauses say.
use Rattle.std.proofs.Common.{◌≡◌, ℕ, IfOk, IfErr, Some, None, Ok, Err, Result, sym, refl, ap, ◌∙◌, subst, arith}
use Rattle.reckoning.specs.Operations.{Operations}
use Rattle.law.specs.declared.call.Call.{Call}
use Rattle.law.specs.declared.call.Answer.{Answer}
use Rattle.law.specs.declared.call.Answer.TheVariants.{Done}
use Rattle.book.specs.declared.refusal.Refusal.{Refusal}
use Rattle.book.specs.declared.shown.Handed.{Handed}
use Rattle.book.specs.Laid.{State, Holds, Outside}
use Rattle.book.specs.Listed.{listed}
use Rattle.book.specs.Plain.{scenarios}
use Rattle.book.specs.Refusals.{refusal_of}
use Rattle.law.specs.Runs.{Told, declines, changed, answer, DeclinedAs, One}
use Rattle.law.proofs.Runs.{outside_same}

-- a call's result as what comes of the call: its refusal, or what `told` makes of what it tells
abbrev pub answered : {T V : Type 0} → (T → Answer V) → Result T Refusal → Told V
answered told (Ok x) = Ok (told x)
answered told (Err e) = Err e

-- what one call does, and that it is declined by the list whatever the places hold
pub record OneCall {V : Type 0} (ops : Operations V) (h : Handed) (x y : State V) (c : Call) (a : Told V) : Type 0 where
  pub does : One ops h x y c a
  pub declines : DeclinedAs h (listed x.book) c (refusal_of a)

-- what holds of every accepted result
pub made_on : {X Y : Type 0} (P Q : X → Type 0) → ((x : X) → P x → Q x) → (r : Result X Y) → IfOk r P → IfOk r Q
made_on P Q on (Ok x) h = on x h
made_on P Q on (Err y) h = tt

module _ {T V : Type 0} (told : T → Answer V) where
  -- the answer has the number of the result's refusal
  answered_number : (r : Result T Refusal) → refusal_of (answered told r) ≡ refusal_of r
  answered_number (Ok x) = refl
  answered_number (Err e) = refl

  answered_as : (r : Result T Refusal) (a : Answer V) → IfOk r (λ x. told x ≡ a) → refusal_of (answered told r) ≡ None → answered told r ≡ Ok a
  answered_as (Ok x) a is none = ap Ok is
  answered_as (Err e) a is none = let z : ◌≡◌ {A = ℕ} 0 1 = cc in absurd (omega arith)

  -- a call that only reads
  module _ (ops : Operations V) (h : Handed) (x : State V) (c : Call) (same : changed (listed x.book) c ≡ listed x.book) where
    read_one : (r : Result T Refusal) → DeclinedAs h (listed x.book) c (refusal_of r) → refusal_of r ≡ declines h (listed x.book) c → (Holds ops x.book x.places → IfOk r (λ t. told t ≡ answer ops (listed x.book) c)) →
        OneCall ops h x x c (answered told r)
    read_one r free declined tells = record {
      declines = subst (DeclinedAs h (listed x.book) c) (sym (answered_number r)) free;
      does = record {
        unchanged = λ n e. refl;
        list = λ e. sym same;
        outside = λ e. outside_same (scenarios (listed x.book)) h.levels x.book.kept x.places;
        right = λ held. record { declined = answered_number r ∙ declined; answered = answered_as r (answer ops (listed x.book) c) (tells held) };
        again = λ held. held;
      };
    }

    pub one_reading : (r : Result T Refusal) (a : Told V) → a ≡ answered told r → DeclinedAs h (listed x.book) c (refusal_of r) → refusal_of r ≡ declines h (listed x.book) c →
        (Holds ops x.book x.places → IfOk r (λ t. told t ≡ answer ops (listed x.book) c)) → OneCall ops h x x c a
    one_reading r a is free declined tells = subst (OneCall ops h x x c) (sym is) (read_one r free declined tells)

-- a call that changes the book
module _ {T V : Type 0} (ops : Operations V) (h : Handed) (x y : State V) (c : Call) (does : Done ≡ answer ops (listed x.book) c) where
  unchanged_by : (r : Result T Refusal) → IfErr r (λ _. y ≡ x) → (n : ℕ) → refusal_of r ≡ Some n → y ≡ x
  unchanged_by (Ok t) u n e = let z : ◌≡◌ {A = ℕ} 0 1 = cc in absurd (omega arith)
  unchanged_by (Err e) u n is = u

  holds_again : (r : Result T Refusal) → IfErr r (λ _. y ≡ x) → Holds ops x.book x.places → (refusal_of r ≡ None → Holds ops y.book y.places) → Holds ops y.book y.places
  holds_again (Ok t) u held accepted = accepted refl
  holds_again (Err e) u held accepted = subst (λ (z : State V). Holds ops z.book z.places) (sym u) held

  done_as : (r : Result T Refusal) → IfOk r (λ t. Done ≡ answer ops (listed x.book) c)
  done_as (Ok t) = does
  done_as (Err e) = tt

  changed_one : (r : Result T Refusal) → DeclinedAs h (listed x.book) c (refusal_of r) → (Holds ops x.book x.places → refusal_of r ≡ declines h (listed x.book) c) → (refusal_of r ≡ None → listed y.book ≡ changed (listed x.book) c) →
      (Holds ops x.book x.places → refusal_of r ≡ None → Holds ops y.book y.places) → (refusal_of r ≡ None → Outside (scenarios (listed x.book)) h.levels y.book.kept x.places y.places) →
      IfErr r (λ _. y ≡ x) → OneCall ops h x y c (answered (λ _. Done) r)
  changed_one r free declined list holds keeps unchanged =
      let done : T → Answer V = λ _. Done in
      let number = answered_number done r in
      record {
        declines = subst (DeclinedAs h (listed x.book) c) (sym number) free;
        does = record {
          unchanged = λ n e. unchanged_by r unchanged n (sym number ∙ e);
          list = λ e. list (sym number ∙ e);
          outside = λ e. keeps (sym number ∙ e);
          right = λ held. record { declined = number ∙ declined held; answered = answered_as done r (answer ops (listed x.book) c) (done_as r) };
          again = λ held. holds_again r unchanged held (holds held);
        };
      }

  pub one_changing : (r : Result T Refusal) (a : Told V) → a ≡ answered (λ _. Done) r → DeclinedAs h (listed x.book) c (refusal_of r) → (Holds ops x.book x.places → refusal_of r ≡ declines h (listed x.book) c) →
      (refusal_of r ≡ None → listed y.book ≡ changed (listed x.book) c) → (Holds ops x.book x.places → refusal_of r ≡ None → Holds ops y.book y.places) →
      (refusal_of r ≡ None → Outside (scenarios (listed x.book)) h.levels y.book.kept x.places y.places) → IfErr r (λ _. y ≡ x) → OneCall ops h x y c a
  one_changing r a is free declined list holds keeps unchanged = subst (OneCall ops h x y c) (sym is) (changed_one r free declined list holds keeps unchanged)
