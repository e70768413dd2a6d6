-- Numbers in a fixed count of digits.
use Rattle.std.proofs.Common.{◌≡◌, ℕ, zero, suc, ◌+◌, ◌*◌, ◌/◌, ◌%◌, ◌^◌, ◌<◌, ◌≤◌, List, [], ◌∷◌, ◌++◌, length, get_or, decimal, sym, refl, ap, ◌∙◌, ⊎_elim, pow-suc, add-one, arith}
use Rattle.std.specs.Int.{IsInRange}
use Rattle.std.proofs.lemmas.List.{length_push, get_or_append_left, get_or_push, same_from_push}
use Rattle.std.proofs.lemmas.Bool.{cases_lt}
use Rattle.std.proofs.lemmas.Fmt.{decimal_by_steps}
use Rattle.lines.specs.Texts.{padded}

pub length_padded : (k n : ℕ) → length (padded k n) ≡ k
length_padded zero n = refl
length_padded (suc k) n = length_push (padded k (n / 10)) (48 + n % 10) ∙ ap (λ (m : ℕ). m + 1) (length_padded k (n / 10)) ∙ add-one k

pub padded_step : (k n : ℕ) → padded (k + 1) n ≡ padded k (n / 10) ++ ((48 + n % 10) ∷ [])
padded_step k n = rw add-one

-- one more digit at the end
pub padded_push : (k n d : ℕ) → d < 10 → padded (k + 1) (n * 10 + d) ≡ padded k n ++ ((48 + d) ∷ [])
padded_push k n d h =
    let q : (n * 10 + d) / 10 ≡ n = omega arith in
    let r : (n * 10 + d) % 10 ≡ d = omega arith in
    padded_step k (n * 10 + d) ∙ ap (λ (m : ℕ). padded k m ++ ((48 + (n * 10 + d) % 10) ∷ [])) q ∙ ap (λ (m : ℕ). padded k n ++ ((48 + m) ∷ [])) r

pub padded_has_digits : (k n i : ℕ) → i < k → IsInRange 48 57 (get_or (padded k n) i 0)
padded_has_digits zero n i h = absurd (omega arith)
padded_has_digits (suc k) n i h =
    let l = length_padded k (n / 10) in
    ⊎_elim
    (λ (b : i < k). let f : i < length (padded k (n / 10)) = omega arith in rw (get_or_append_left (padded k (n / 10)) ((48 + n % 10) ∷ []) 0 i f) (padded_has_digits k (n / 10) i b))
    (λ (b : k ≤ i). let f : length (padded k (n / 10)) ≡ i = omega arith in rw (get_or_push (padded k (n / 10)) (48 + n % 10) 0 i f) (omega arith, omega arith))
    (cases_lt i k)

-- digits written are read back
pub same_from_padded : (k m n : ℕ) → m < 10 ^ k → n < 10 ^ k → padded k m ≡ padded k n → m ≡ n
same_from_padded zero m n a b e = omega arith
same_from_padded (suc k) m n a b e =
    let p = pow-suc 10 k in
    let s = same_from_push (padded k (m / 10)) (padded k (n / 10)) (48 + m % 10) (48 + n % 10) e in
    let q = same_from_padded k (m / 10) (n / 10) (omega arith) (omega arith) s.0 in
    let r = s.1 in
    omega arith

-- the decimal digits of a number are as many digits of it as there are
pub decimal_padded : (n : ℕ) → n < 2 ^ 64 → decimal n ≡ padded (length (decimal n)) n
decimal_padded n h =
    decimal_by_steps (λ m ds. ds ≡ padded (length ds) m)
    (λ m b. let r : m % 10 ≡ m = omega arith in ap (λ (d : ℕ). (48 + d) ∷ []) (sym r))
    (λ m ds b e. ap (λ (xs : List ℕ). xs ++ ((48 + m % 10) ∷ [])) e ∙ sym (padded_step (length ds) m) ∙ ap (λ (k : ℕ). padded k m) (sym (length_push ds (48 + m % 10))))
    n h
