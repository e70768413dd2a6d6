-- The decimal digits of a number of 32 bits, read one by one.
use Rattle.std.proofs.Common.{◌≡◌, ℕ, ◌^◌, ◌<◌, ◌≤◌, List, length, get_or, decimal, Ok, Err, Result, sym, ap, ◌∙◌, ⊎_elim, eq-zero-or-pos, arith}
use Rattle.std.specs.Result.{OkIff, MatchResult, IsErrAnd}
use Rattle.std.specs.Str.Parse.{AllDigits, digits_value}
use Rattle.std.specs.Int.{IsInRange}
use Rattle.std.proofs.lemmas.Str.Parse.{IsNumeralModel, numerals_by_value, tells_digits, digit_at}
use Rattle.std.proofs.lemmas.Fmt.{decimal_nonempty, length-decimal-le, first_decimal, decimal_digit, digits_decimal, digits_value-decimal, decimal-digits_value}
use Rattle.lines.specs.declared.fault.NumberFault.{NumberFault}
use Rattle.lines.specs.Reads.{ReadsNumber}

pub digits_with_value : IsNumeralModel (AllDigits 10) (digits_value 10)
digits_with_value = numerals_by_value (AllDigits 10) tells_digits

pub field_not_empty : (bs : List ℕ) (n : ℕ) → n < 2 ^ 32 → bs ≡ decimal n → 0 < length bs
field_not_empty bs n h e = rw e (decimal_nonempty n (omega arith))

pub field_at_most_ten : (bs : List ℕ) (n : ℕ) → n < 2 ^ 32 → bs ≡ decimal n → length bs ≤ 10
field_at_most_ten bs n h e = rw e (length-decimal-le 10 n (omega arith) (omega arith) (omega arith))

pub zero_leads_alone : (bs : List ℕ) (n : ℕ) → n < 2 ^ 32 → bs ≡ decimal n → get_or bs 0 0 ≡ 48 → length bs ≡ 1
zero_leads_alone bs n h e z =
    ⊎_elim
    (λ (o : n ≡ 0). ap length e ∙ ap length (decimal_digit n (omega arith)))
    (λ (o : 0 < n). absurd (omega (arith, first_decimal n o (omega arith), ap (λ (xs : List ℕ). get_or xs 0 0) e)))
    (eq-zero-or-pos n)

pub field_has_digits : (bs : List ℕ) (n : ℕ) → n < 2 ^ 32 → bs ≡ decimal n → (i : ℕ) → i < length bs → IsInRange 48 57 (get_or bs i 0)
field_has_digits bs n h e i l = digit_at bs i (rw e (digits_decimal digits_with_value n (omega arith))) l

pub field_value : (bs : List ℕ) (n : ℕ) → n < 2 ^ 32 → bs ≡ decimal n → digits_value 10 bs ≡ n
field_value bs n h e = rw e (digits_value-decimal digits_with_value n (omega arith))

-- digits without a leading zero are the decimal digits of their value
pub digits_are_decimal : (bs : List ℕ) → AllDigits 10 bs → 0 < length bs → (get_or bs 0 0 ≡ 48 → length bs ≡ 1) → digits_value 10 bs < 2 ^ 32 → bs ≡ decimal (digits_value 10 bs)
digits_are_decimal bs d s z v = sym (decimal-digits_value digits_with_value bs d s z (omega arith))

-- what is read of a field of digits with this value, once that is brought to 32 bits
pub value_read : {E : Type 0} (Q : E → NumberFault → Type 0) (field : List ℕ) (n : ℕ) (fits : Result ℕ E) (r : Result ℕ NumberFault) →
    (n < 2 ^ 32 → field ≡ decimal n) → n ≡ digits_value 10 field → OkIff fits (n < 2 ^ 32) n →
    MatchResult fits (λ m. r ≡ Ok m) (λ e. IsErrAnd r (Q e)) → ReadsNumber field r
value_read Q field n (Ok m) r d v o e = rw (e, o.1) (o.0, d o.0)
value_read Q field n (Err x) (Ok m) d v o e = absurd e
value_read Q field n (Err x) (Err y) d v o e = λ m h f. let w = field_value field m h f in o (omega arith)
