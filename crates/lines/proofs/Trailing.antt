-- The fields of a trailer.
use Rattle.std.proofs.Common.{◌≡◌, ℕ, zero, suc, ◌+◌, ◌-◌, ◌<◌, ◌≤◌, List, [], ◌∷◌, length, get_or, take, drop, Some, None, Option, sym, refl, ap, ◌∙◌, subst, add-one, arith, length-drop, length-take}
use Rattle.std.specs.Char.{digit_value}
use Rattle.std.specs.Str.Parse.{AllDigits, digits_value}
use Rattle.std.proofs.lemmas.Bool.Decides.{nat_tests}
use Rattle.std.proofs.lemmas.Grind.{common_steps}
use Rattle.std.proofs.lemmas.Int.Digits.{digits_value-lt, digits_value_more}
use Rattle.std.proofs.lemmas.Str.Parse.{digit_at}
use Rattle.std.proofs.lemmas.List.{take_more, take_all}
use Rattle.lines.specs.Places.{Stands}
use Rattle.lines.specs.Reads.{ReadsValue}
use Rattle.lines.specs.Texts.{padded, trailer_text}
use Rattle.lines.specs.Trailers.{TrailerOf, ReadsSpacedDigits}
use Rattle.lines.proofs.Padded.{length_padded, padded_push, padded_has_digits, same_from_padded}
use Rattle.lines.proofs.Standing.{stands_rest, stands_joined, part_stands}

-- digits are those of their value, as many as they are
one_more_digit : (ds : List ℕ) (i : ℕ) → i < length ds → AllDigits 10 ds → take i ds ≡ padded i (digits_value 10 (take i ds)) → take (i + 1) ds ≡ padded (i + 1) (digits_value 10 (take (i + 1) ds))
one_more_digit ds i h d e =
    let r = digit_at ds i d h in
    let w : 48 + digit_value (get_or ds i 0) ≡ get_or ds i 0 = grind (arith, nat_tests) in
    let t = take_more ds i 0 h in
    let v = digits_value_more 10 ds i h in
    let p = padded_push i (digits_value 10 (take i ds)) (digit_value (get_or ds i 0)) (omega arith) in
    cc

first_digits : (ds : List ℕ) (i : ℕ) → i ≤ length ds → AllDigits 10 ds → take i ds ≡ padded i (digits_value 10 (take i ds))
first_digits ds zero h d = refl
first_digits ds (suc i) h d = rw add-one at (one_more_digit ds i (omega arith) d (first_digits ds i (omega arith) d))

digits_are_padded : (ds : List ℕ) → AllDigits 10 ds → ds ≡ padded (length ds) (digits_value 10 ds)
digits_are_padded ds d = subst (λ (xs : List ℕ). xs ≡ padded (length ds) (digits_value 10 xs)) (take_all (length ds) ds (omega arith)) (first_digits ds (length ds) (omega arith) d)

-- digits behind a space
part_length : (bytes : List ℕ) (place count : ℕ) → place + count < length bytes → length (take (place + 1 + count - (place + 1)) (drop (place + 1) bytes)) ≡ count
part_length bytes place count h =
    omega (arith, length-take (place + 1 + count - (place + 1)) (drop (place + 1) bytes), length-drop (place + 1) bytes)

pub spaced_from_part : (bytes : List ℕ) (place count n : ℕ) → place + count < length bytes → Stands bytes place (32 ∷ []) →
    take (place + 1 + count - (place + 1)) (drop (place + 1) bytes) ≡ padded count n → Stands bytes place (32 ∷ padded count n)
spaced_from_part bytes place count n h b e =
    stands_joined bytes place (32 ∷ []) (padded count n) b (part_stands bytes (place + 1) (place + 1 + count) (padded count n) (omega arith) (omega arith) e).1

pub part_from_spaced : (bytes : List ℕ) (place count n : ℕ) → Stands bytes place (32 ∷ padded count n) → take (place + 1 + count - (place + 1)) (drop (place + 1) bytes) ≡ padded count n
part_from_spaced bytes place count n s =
    let l = length_padded count n in
    let k : place + 1 + count - (place + 1) ≡ length (padded count n) = omega arith in
    ap (λ (i : ℕ). take i (drop (place + 1) bytes)) k ∙ stands_rest bytes place (32 ∷ []) (padded count n) s

-- what is read of the part behind a space is read of the digits there
pub spaced_reads : (bytes : List ℕ) (place count : ℕ) (r : Option ℕ) → place + count < length bytes → Stands bytes place (32 ∷ []) →
    ReadsValue (take (place + 1 + count - (place + 1)) (drop (place + 1) bytes)) r → ReadsSpacedDigits bytes place count r
spaced_reads bytes place count (Some n) h b d =
    let l = part_length bytes place count h in
    let part = take (place + 1 + count - (place + 1)) (drop (place + 1) bytes) in
    let f = digits_value-lt 10 part d.0 in
    (grind arith, spaced_from_part bytes place count n h b (digits_are_padded part d.0 ∙ cc))
spaced_reads bytes place count None h b d =
    let l = part_length bytes place count h in
    λ n f s. let p = padded_has_digits count n d.0 (omega (arith, d.1)) in let e = ap (λ (xs : List ℕ). get_or xs d.0 0) (part_from_spaced bytes place count n s) in grind arith

-- four fields between the letter and the line end are a trailer
pub trailer_joined : (bytes : List ℕ) (ceiling scenarios contracts place : ℕ) → length bytes ≡ 18 → Stands bytes 0 (84 ∷ []) → Stands bytes 1 (32 ∷ padded 5 ceiling) →
    Stands bytes 7 (32 ∷ padded 1 scenarios) → Stands bytes 9 (32 ∷ padded 3 contracts) → Stands bytes 13 (32 ∷ padded 3 place) → Stands bytes 17 (10 ∷ []) →
    bytes ≡ trailer_text ceiling scenarios contracts place
trailer_joined bytes ceiling scenarios contracts place l t c s k p e = grind (arith, common_steps)

-- bytes are the trailer of one set of numbers
pub same_trailer : (bytes : List ℕ) (ceiling scenarios contracts place ceiling' scenarios' contracts' place' : ℕ) →
    TrailerOf bytes ceiling scenarios contracts place → TrailerOf bytes ceiling' scenarios' contracts' place' →
    (ceiling ≡ ceiling') × (scenarios ≡ scenarios') × (contracts ≡ contracts') × (place ≡ place')
same_trailer bytes ceiling scenarios contracts place ceiling' scenarios' contracts' place' t u =
    let e = sym t.text ∙ u.text in (
      same_from_padded 5 ceiling ceiling' t.ceiling_fits u.ceiling_fits cc,
      same_from_padded 1 scenarios scenarios' t.scenarios_fit u.scenarios_fit cc,
      same_from_padded 3 contracts contracts' t.contracts_fit u.contracts_fit cc,
      same_from_padded 3 place place' t.place_fits u.place_fits cc,
    )
