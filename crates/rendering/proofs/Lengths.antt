-- What a lawful list admits, and how long the lines of its file are.
use Rattle.std.proofs.Common.{◌≡◌, ℕ, ◌*◌, ◌≤◌, false, not, ◌&&◌, eqb, leb, List, [], ◌∷◌, length, decimal, arith, length-append}
use Rattle.std.specs.List.{AllByRecursion}
use Rattle.std.proofs.lemmas.Fmt.{length-decimal-le}
use Rattle.std.proofs.lemmas.Bool.{and_parts, or_parts, not-false, leb-true, ltb-false, eqb-true}
use Rattle.reckoning.specs.Outcomes.{summed, outside, rate_wrong}
use Rattle.book.specs.Declines.{shares_wrong, rates_wrong}
use Rattle.book.specs.Lawful.{LawfulEntry}
use Rattle.book.specs.Plain.{Entry}
use Rattle.book.specs.Some.{some}
use Rattle.tariff.specs.Files.{numbers_of, shares_text, contracts_text}
use Rattle.lines.specs.Texts.{numbers_text, line_text}
use Rattle.lines.proofs.Lines.{length_line_text}

pub in_range : (low high n : ℕ) → outside low high n ≡ false → (low ≤ n) × (n ≤ high)
in_range low high n e =
    let both = and_parts (leb low n) (leb n high) (not-false (leb low n && leb n high) e) in
    (leb-true low n both.0, leb-true n high both.1)

-- no part exceeds the sum
parts_at_most : (ws : List ℕ) (most : ℕ) → summed (λ w. w) ws ≤ most → AllByRecursion (λ w. w ≤ most) ws
parts_at_most [] most h = tt
parts_at_most (w ∷ ws) most h = (omega arith, parts_at_most ws most (omega arith))

pub shares_admitted : (ws : List ℕ) → shares_wrong ws ≡ false → (length ws ≤ 8) × AllByRecursion (λ w. w ≤ 1000000) ws
shares_admitted ws e =
    let both = or_parts (outside 1 8 (length ws)) (not (eqb (summed (λ w. w) ws) 1000000)) e in
    let all = eqb-true (summed (λ w. w) ws) 1000000 (not-false (eqb (summed (λ w. w) ws) 1000000) both.1) in
    ((in_range 1 8 (length ws) both.0).1, parts_at_most ws 1000000 (omega arith))

none_above : (rs : List ℕ) → some rate_wrong rs ≡ false → AllByRecursion (λ r. r ≤ 1000000) rs
none_above [] e = tt
none_above (r ∷ rs) e = let both = or_parts (rate_wrong r) (some rate_wrong rs) e in (ltb-false 1000000 r both.0, none_above rs both.1)

pub rates_admitted : (n : ℕ) (rs : List ℕ) → rates_wrong n rs ≡ false → (length rs ≡ n) × AllByRecursion (λ r. r ≤ 1000000) rs
rates_admitted n rs e =
    let both = or_parts (not (eqb (length rs) n)) (some rate_wrong rs) e in
    (eqb-true (length rs) n (not-false (eqb (length rs) n) both.0), none_above rs both.1)

-- up to a million has at most seven digits
length_numbers_text : (ns : List ℕ) → AllByRecursion (λ n. n ≤ 1000000) ns → length (numbers_text ns) ≤ 8 * length ns
length_numbers_text [] all = omega arith
length_numbers_text (n ∷ ns) all =
    let here = all.0 in
    let digits = length-decimal-le 7 n (omega arith) (omega arith) (omega arith) in
    let rest = length_numbers_text ns all.1 in
    let both = length-append (decimal n) (numbers_text ns) in
    omega arith

-- an S line has at most 10 bytes
pub length_shares_text : (ws : List ℕ) → AllByRecursion (λ w. w ≤ 1000000) ws → length (shares_text ws) ≤ 10 * length ws
length_shares_text [] all = omega arith
length_shares_text (w ∷ ws) all =
    let line = length_line_text 83 (w ∷ []) in
    let here = length_numbers_text (w ∷ []) (all.0, tt) in
    let rest = length_shares_text ws all.1 in
    let both = length-append (line_text 83 (w ∷ [])) (shares_text ws) in
    omega arith

-- a C line of at most eight rates has at most 83
length_contract_line : (n : ℕ) (e : Entry) → n ≤ 8 → LawfulEntry n e → length (line_text 67 (numbers_of e)) ≤ 83
length_contract_line n e few lawful =
    let line = length_line_text 67 (numbers_of e) in
    let range = in_range 1 65535 e.loss lawful.loss in
    let small = lawful.key in
    let rates = rates_admitted n e.rates lawful.rates in
    let key-digits = length-decimal-le 10 e.key (omega arith) (omega arith) (omega arith) in
    let loss-digits = length-decimal-le 5 e.loss (omega arith) (omega (arith, range.1)) (omega (arith, range.1)) in
    let rates-digits = length_numbers_text e.rates rates.1 in
    let behind-loss = length-append (decimal e.loss) (numbers_text e.rates) in
    let behind-key = length-append (decimal e.key) (numbers_text (e.loss ∷ e.rates)) in
    let count = rates.0 in
    omega arith

pub length_contracts_text : (n : ℕ) (es : List Entry) → n ≤ 8 → AllByRecursion (LawfulEntry n) es → length (contracts_text es) ≤ 83 * length es
length_contracts_text n [] few all = omega arith
length_contracts_text n (e ∷ es) few all =
    let here = length_contract_line n e few all.0 in
    let rest = length_contracts_text n es few all.1 in
    let both = length-append (line_text 67 (numbers_of e)) (contracts_text es) in
    omega arith
