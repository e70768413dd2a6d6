-- The numbers of a line: each is ended by the byte behind it, so that a line has one reading.
use Rattle.std.proofs.Common.{◌≡◌, ℕ, ◌+◌, ◌-◌, ◌^◌, ◌<◌, ◌≤◌, List, [], ◌∷◌, ◌++◌, length, get_or, take, drop, set, decimal, min, Some, None, Option, MatchOption, unwrap_or, IfErr, sym, refl, ap, ◌∙◌, subst, inl, inr, ⊎_elim, append_assoc, arith, length-append, length-drop, get_or-drop}
use Rattle.std.specs.Option.{ok_or}
use Rattle.std.specs.List.{AllByRecursion, AllWithin, HoldsAt}
use Rattle.std.proofs.ByRecursion.{All-get_or, All-push}
use Rattle.std.proofs.lemmas.List.{get_or_append_left, get_or_push, append-nil, length_push, take_more_set, take_all, length-take-le, drop_more, drop_all}
use Rattle.std.proofs.lemmas.Bool.{cases_lt, cases_order}
use Rattle.std.proofs.lemmas.Fmt.{decimal_injective}
use Rattle.lines.specs.declared.fault.Malformed.{Malformed}
use Rattle.lines.specs.declared.fault.Malformed.TheVariants.{Letter, NoSpace, Number, NoEnd}
use Rattle.lines.specs.Places.{Stands}
use Rattle.lines.specs.Reads.{EndsField, FieldEnd, EndedNumber, SpacedFault, FrontAt, FaultInLine, LineAt, ReadsLine}
use Rattle.lines.specs.Texts.{numbers_text, line_text}
use Rattle.lines.proofs.Fields.{field_has_digits}
use Rattle.lines.proofs.Standing.{stands_within, stands_front, stands_rest, stands_joined, stands_reads, apart_by_first, part_stands}

ends_apart : (b : ℕ) → 48 ≤ b → EndsField b → ⊥
ends_apart b h e = ⊎_elim (λ (x : b ≡ 32). omega arith) (λ (x : b ≡ 10). omega arith) e

field_end_after : (bytes : List ℕ) (from end : ℕ) → FieldEnd bytes from end → from ≤ length bytes → from ≤ end
field_end_after bytes from end f h = ⊎_elim (λ (x : end < length bytes). f.after x) (λ (x : length bytes ≤ end). omega arith) (cases_lt end (length bytes))

none_before : (bytes : List ℕ) (from m i : ℕ) → m ≤ from → AllWithin (λ b. EndsField b → ⊥) (drop m bytes) 0 i →
    (k : ℕ) → from ≤ k → k < m + i → EndsField (get_or bytes k 0) → ⊥
none_before bytes from m i h a k l u e =
    let z : m + (k - m) ≡ k = omega arith in
    a (k - m) 0 (omega arith) (omega arith) (subst EndsField (ap (λ (j : ℕ). get_or bytes j 0) (sym z) ∙ sym (get_or-drop m bytes (k - m) 0)) e)

-- a field ends where the first byte that ends one is found
pub field_end_found : (bytes : List ℕ) (from m : ℕ) (r : Option ℕ) → m ≡ min from (length bytes) →
    MatchOption r (AllWithin (λ b. EndsField b → ⊥) (drop m bytes) 0 (length (drop m bytes)))
    (λ i. (i < length (drop m bytes)) × HoldsAt EndsField (drop m bytes) i × AllWithin (λ b. EndsField b → ⊥) (drop m bytes) 0 i) →
    FieldEnd bytes from (m + unwrap_or r (length (drop m bytes)))
field_end_found bytes from m None e a =
    let l = length-drop m bytes in
    record { within = omega arith; after = λ n. omega arith; inside = none_before bytes from m _ (omega arith) a; stops = λ n. absurd (omega arith) }
field_end_found bytes from m (Some i) e f =
    let l = length-drop m bytes in
    let h = f.0 in
    record { within = omega arith; after = λ n. omega arith; inside = none_before bytes from m i (omega arith) f.2; stops = λ n. subst EndsField (get_or-drop m bytes i 0) (f.1 0) }

-- the bytes of an ended number, and the byte behind them
module _ (bytes : List ℕ) (from n mark : ℕ) (small : n < 2 ^ 32) (ends : EndsField mark) (s : Stands bytes from (decimal n ++ (mark ∷ []))) where
  mark_within : from + length (decimal n) < length bytes
  mark_within = let l = length_push (decimal n) mark in omega (arith, stands_within bytes from (decimal n ++ (mark ∷ [])) s (omega arith))

  mark_ends : EndsField (get_or bytes (from + length (decimal n)) 0)
  mark_ends =
      let l = length_push (decimal n) mark in
      let r = stands_reads bytes from (decimal n ++ (mark ∷ [])) s (length (decimal n)) (omega arith) ∙ get_or_push (decimal n) mark 0 (length (decimal n)) refl in
      subst EndsField (sym r) ends

  digit_ends_not : (k : ℕ) → from ≤ k → k < from + length (decimal n) → EndsField (get_or bytes k 0) → ⊥
  digit_ends_not k a b =
      let l = length_push (decimal n) mark in
      let i : k - from < length (decimal n) = omega arith in
      let z : from + (k - from) ≡ k = omega arith in
      let r = ap (λ (j : ℕ). get_or bytes j 0) (sym z) ∙ stands_reads bytes from (decimal n ++ (mark ∷ [])) s (k - from) (omega arith) ∙ get_or_append_left (decimal n) (mark ∷ []) 0 (k - from) i in
      let d = field_has_digits (decimal n) n small refl (k - from) i in
      ends_apart (get_or bytes k 0) (omega arith)

  -- its field ends with it
  number_ends_field : FieldEnd bytes from (from + length (decimal n))
  number_ends_field = let w = mark_within in record { within = omega arith; after = λ l. omega arith; inside = digit_ends_not; stops = λ l. mark_ends }

  -- and nowhere else
  field_reaches : (end : ℕ) → FieldEnd bytes from end → end ≡ from + length (decimal n)
  field_reaches end f =
      let w = mark_within in
      let a = field_end_after bytes from end f (omega arith) in
      ⊎_elim
      (λ (x : end ≡ from + length (decimal n)). x)
      (⊎_elim
      (λ (x : end < from + length (decimal n)). absurd (digit_ends_not end a x (f.stops (omega arith))))
      (λ (x : from + length (decimal n) < end). absurd (f.inside (from + length (decimal n)) (omega arith) x mark_ends)))
      (cases_order end (from + length (decimal n)))

pub ended_field : (bytes : List ℕ) (place end n : ℕ) → FieldEnd bytes (place + 1) end → EndedNumber bytes place n →
    take (end - (place + 1)) (drop (place + 1) bytes) ≡ decimal n
ended_field bytes place end n f x =
    let s = stands_rest bytes place (32 ∷ []) (decimal n ++ (x.mark ∷ [])) x.stands in
    let e = field_reaches bytes (place + 1) n x.mark x.small x.ends s end f in
    let k : end - (place + 1) ≡ length (decimal n) = omega arith in
    ap (λ (i : ℕ). take i (drop (place + 1) bytes)) k ∙ stands_front bytes (place + 1) (decimal n) (x.mark ∷ []) s

-- the digits between a space and the end of the field
pub spaced_stands : (bytes : List ℕ) (place end n : ℕ) → Stands bytes place (32 ∷ []) → FieldEnd bytes (place + 1) end →
    take (end - (place + 1)) (drop (place + 1) bytes) ≡ decimal n →
    (end ≡ place + length (32 ∷ decimal n)) × Stands bytes place (32 ∷ decimal n)
spaced_stands bytes place end n b f e =
    let w = stands_within bytes place (32 ∷ []) b (omega arith) in
    let p = part_stands bytes (place + 1) end (decimal n) (field_end_after bytes (place + 1) end f (omega arith)) f.within e in
    (omega (arith, p.0), stands_joined bytes place (32 ∷ []) (decimal n) b p.1)

pub same_number : (bytes : List ℕ) (place end n : ℕ) → FieldEnd bytes (place + 1) end → n < 2 ^ 32 →
    take (end - (place + 1)) (drop (place + 1) bytes) ≡ decimal n → (m : ℕ) → EndedNumber bytes place m → m ≡ n
same_number bytes place end n f h e m x =
    let s = x.small in
    decimal_injective m n (omega arith) (omega arith) (sym (ended_field bytes place end m f x) ∙ e)

pub same_ended_number : (bytes : List ℕ) (place m n : ℕ) → EndedNumber bytes place m → EndedNumber bytes place n → m ≡ n
same_ended_number bytes place m n x y =
    let s = stands_rest bytes place (32 ∷ []) (decimal n ++ (y.mark ∷ [])) y.stands in
    let f = number_ends_field bytes (place + 1) n y.mark y.small y.ends s in
    same_number bytes place (place + 1 + length (decimal n)) n f y.small (ended_field bytes place (place + 1 + length (decimal n)) n f y) m x

-- the numbers of one list behind those of another
pub numbers_text_append : (ms ns : List ℕ) → numbers_text (ms ++ ns) ≡ numbers_text ms ++ numbers_text ns
numbers_text_append [] ns = refl
numbers_text_append (m ∷ ms) ns =
    ap (λ (text : List ℕ). 32 ∷ (decimal m ++ text)) (numbers_text_append ms ns)
    ∙ ap (λ (text : List ℕ). 32 ∷ text) (sym (append_assoc (decimal m) (numbers_text ms) (numbers_text ns)))

pub numbers_text_push : (ns : List ℕ) (n : ℕ) → numbers_text (ns ++ (n ∷ [])) ≡ numbers_text ns ++ (32 ∷ decimal n)
numbers_text_push ns n = numbers_text_append ns (n ∷ []) ∙ ap (λ (text : List ℕ). numbers_text ns ++ (32 ∷ text)) (append-nil (decimal n))

-- a number of a line is ended by the next space or by the line end
pub number_is_ended : (bytes : List ℕ) (at n : ℕ) (ns : List ℕ) → n < 2 ^ 32 → Stands bytes at (numbers_text (n ∷ ns) ++ (10 ∷ [])) → EndedNumber bytes at n
number_is_ended bytes at n [] h s =
    let e = append-nil (decimal n) in
    record { small = h; mark = 10; ends = inr refl; stands = subst (λ (text : List ℕ). Stands bytes at (32 ∷ (text ++ (10 ∷ [])))) e s }
number_is_ended bytes at n (m ∷ ns) h s =
    let rest = (decimal m ++ numbers_text ns) ++ (10 ∷ []) in
    let e = append_assoc (decimal n) (32 ∷ (decimal m ++ numbers_text ns)) (10 ∷ []) ∙ sym (append_assoc (decimal n) (32 ∷ []) rest) in
    record {
      small = h;
      mark = 32;
      ends = inl refl;
      stands = stands_front bytes at (32 ∷ (decimal n ++ (32 ∷ []))) rest (subst (λ (text : List ℕ). Stands bytes at (32 ∷ text)) e s);
    }

pub line_goes_on : (bytes : List ℕ) (at n : ℕ) (ns : List ℕ) → Stands bytes at (numbers_text (n ∷ ns) ++ (10 ∷ [])) →
    Stands bytes (at + length (32 ∷ decimal n)) (numbers_text ns ++ (10 ∷ []))
line_goes_on bytes at n ns s =
    stands_rest bytes at (32 ∷ decimal n) (numbers_text ns ++ (10 ∷ []))
    (subst (λ (text : List ℕ). Stands bytes at (32 ∷ text)) (append_assoc (decimal n) (numbers_text ns) (10 ∷ [])) s)

-- the next number of a line of which the first i are read
pub next_number : (bytes : List ℕ) (at i : ℕ) (ms : List ℕ) → i < length ms → AllByRecursion (λ n. n < 2 ^ 32) ms →
    Stands bytes at (numbers_text (drop i ms) ++ (10 ∷ [])) → EndedNumber bytes at (get_or ms i 0)
next_number bytes at i ms h a s =
    number_is_ended bytes at (get_or ms i 0) (drop (i + 1) ms) (All-get_or (λ n. n < 2 ^ 32) ms i 0 h a)
    (subst (λ (xs : List ℕ). Stands bytes at (numbers_text xs ++ (10 ∷ []))) (drop_more ms i 0 h) s)

pub rest_of_line : (bytes : List ℕ) (at end n i : ℕ) (ms : List ℕ) → i < length ms → AllByRecursion (λ k. k < 2 ^ 32) ms →
    ((m : ℕ) → EndedNumber bytes at m → m ≡ n) → end ≡ at + length (32 ∷ decimal n) →
    Stands bytes at (numbers_text (drop i ms) ++ (10 ∷ [])) → Stands bytes end (numbers_text (drop (i + 1) ms) ++ (10 ∷ []))
rest_of_line bytes at end n i ms h a only e s =
    let m = only (get_or ms i 0) (next_number bytes at i ms h a s) in
    let p : at + length (32 ∷ decimal (get_or ms i 0)) ≡ end = ap (λ (k : ℕ). at + length (32 ∷ decimal k)) m ∙ sym e in
    subst (λ (k : ℕ). Stands bytes k (numbers_text (drop (i + 1) ms) ++ (10 ∷ []))) p
    (line_goes_on bytes at (get_or ms i 0) (drop (i + 1) ms)
    (subst (λ (xs : List ℕ). Stands bytes at (numbers_text xs ++ (10 ∷ []))) (drop_more ms i 0 h) s))

-- one more number is read
pub front_of_line : (bytes : List ℕ) (place at end letter n i : ℕ) (xs : List ℕ) → i < length xs →
    Stands bytes place (letter ∷ numbers_text (take i xs)) → at ≡ place + length (letter ∷ numbers_text (take i xs)) →
    Stands bytes at (32 ∷ decimal n) → end ≡ at + length (32 ∷ decimal n) →
    Stands bytes place (letter ∷ numbers_text (take (i + 1) (set xs i n))) × (end ≡ place + length (letter ∷ numbers_text (take (i + 1) (set xs i n))))
front_of_line bytes place at end letter n i xs h s e t f =
    let front = letter ∷ numbers_text (take i xs) in
    let next = 32 ∷ decimal n in
    let p = ap (λ (ys : List ℕ). letter ∷ numbers_text ys) (take_more_set xs i n h) ∙ ap (λ (text : List ℕ). letter ∷ text) (numbers_text_push (take i xs) n) in
    let l : end ≡ place + length (front ++ next) = omega (arith, length-append front next) in
    subst (λ (text : List ℕ). Stands bytes place text × (end ≡ place + length text)) (sym p)
    (stands_joined bytes place front next s (subst (λ (k : ℕ). Stands bytes k next) e t), l)

-- all numbers are read
pub end_of_line : (bytes : List ℕ) (at i : ℕ) (ms : List ℕ) → length ms ≤ i → Stands bytes at (numbers_text (drop i ms) ++ (10 ∷ [])) → Stands bytes at (10 ∷ [])
end_of_line bytes at i ms h s = subst (λ (xs : List ℕ). Stands bytes at (numbers_text xs ++ (10 ∷ []))) (drop_all i ms h) s

pub all_one_more : (xs : List ℕ) (i n : ℕ) → i < length xs → AllByRecursion (λ k. k < 2 ^ 32) (take i xs) → n < 2 ^ 32 → AllByRecursion (λ k. k < 2 ^ 32) (take (i + 1) (set xs i n))
all_one_more xs i n h a b = rw (take_more_set xs i n h) (All-push (λ k. k < 2 ^ 32) (take i xs) n a b)

-- the line is read when its end stands behind all of its numbers
pub line_read : (bytes : List ℕ) (place at letter i : ℕ) (xs : List ℕ) → length xs ≤ i → AllByRecursion (λ k. k < 2 ^ 32) (take i xs) →
    Stands bytes place (letter ∷ numbers_text (take i xs)) → at ≡ place + length (letter ∷ numbers_text (take i xs)) → Stands bytes at (10 ∷ []) →
    LineAt bytes place letter xs × (at + 1 ≡ place + length (line_text letter xs))
line_read bytes place at letter i xs h a s e t =
    let w = take_all i xs h in
    let front = letter ∷ numbers_text xs in
    let s' = subst (λ (ys : List ℕ). Stands bytes place (letter ∷ numbers_text ys)) w s in
    let e' = subst (λ (ys : List ℕ). at ≡ place + length (letter ∷ numbers_text ys)) w e in (
      record {
        small = subst (AllByRecursion (λ k. k < 2 ^ 32)) w a;
        stands = stands_joined bytes place front (10 ∷ []) s' (subst (λ (k : ℕ). Stands bytes k (10 ∷ [])) e' t);
      },
      omega (arith, e', length-append front (10 ∷ [])),
    )

-- what is read of a line once its end is looked for behind all of its numbers
pub line_ends : (bytes : List ℕ) (place letter at : ℕ) (ns : List ℕ) (end : Option ℕ) →
    MatchOption end (Stands bytes at (10 ∷ []) → ⊥) (λ next. (next ≡ at + 1) × (at < length bytes) × Stands bytes at (10 ∷ [])) →
    (Stands bytes at (10 ∷ []) → LineAt bytes place letter ns × (at + 1 ≡ place + length (line_text letter ns))) →
    ((ms : List ℕ) → length ms ≡ length ns → LineAt bytes place letter ms → Stands bytes at (10 ∷ [])) → FrontAt bytes place letter (length ns) at →
    ReadsLine bytes place letter ns (ok_or end NoEnd) × IfErr (ok_or end NoEnd) (FaultInLine bytes place letter (length ns))
line_ends bytes place letter at ns None b l o f = (λ ms n x. b (o ms n x), (at, f, b))
line_ends bytes place letter at ns (Some next) b l o f = let p = l b.2 in ((p.0, b.0 ∙ p.1, omega (arith, b.0, b.1)), tt)

-- bytes have one reading as the numbers of a line
pub same_numbers : (bytes : List ℕ) (at : ℕ) (ns ms : List ℕ) → AllByRecursion (λ k. k < 2 ^ 32) ns → AllByRecursion (λ k. k < 2 ^ 32) ms →
    Stands bytes at (numbers_text ns ++ (10 ∷ [])) → Stands bytes at (numbers_text ms ++ (10 ∷ [])) → ns ≡ ms
same_numbers bytes at [] [] a b s t = refl
same_numbers bytes at [] (m ∷ ms) a b s t = absurd (apart_by_first bytes at 10 32 [] _ (omega arith) s t)
same_numbers bytes at (n ∷ ns) [] a b s t = absurd (apart_by_first bytes at 32 10 _ [] (omega arith) s t)
same_numbers bytes at (n ∷ ns) (m ∷ ms) a b s t =
    let e = same_ended_number bytes at n m (number_is_ended bytes at n ns a.0 s) (number_is_ended bytes at m ms b.0 t) in
    let r = line_goes_on bytes at n ns s in
    let q = subst (λ (k : ℕ). Stands bytes (at + length (32 ∷ decimal k)) (numbers_text ms ++ (10 ∷ []))) (sym e) (line_goes_on bytes at m ms t) in
    ap (λ (k : ℕ). k ∷ ns) e ∙ ap (λ (xs : List ℕ). m ∷ xs) (same_numbers bytes (at + length (32 ∷ decimal n)) ns ms a.1 b.1 r q)

-- at most one line of a letter stands at a place
pub same_line : (bytes : List ℕ) (place letter : ℕ) (ns ms : List ℕ) → LineAt bytes place letter ns → LineAt bytes place letter ms → ns ≡ ms
same_line bytes place letter ns ms x y =
    same_numbers bytes (place + 1) ns ms x.small y.small
    (stands_rest bytes place (letter ∷ []) (numbers_text ns ++ (10 ∷ [])) x.stands)
    (stands_rest bytes place (letter ∷ []) (numbers_text ms ++ (10 ∷ [])) y.stands)

pub front_read : (bytes : List ℕ) (place letter i at : ℕ) (xs : List ℕ) → i ≤ length xs →
    Stands bytes place (letter ∷ numbers_text (take i xs)) → at ≡ place + length (letter ∷ numbers_text (take i xs)) → FrontAt bytes place letter i at
front_read bytes place letter i at xs h s e = record { numbers = take i xs; counted = length-take-le i xs h; stands = s; behind = e }

-- a fault behind a front of fewer numbers is one of the line
pub fault_behind_front : (bytes : List ℕ) (place letter count i at : ℕ) (e : Malformed) → i < count → FrontAt bytes place letter i at → SpacedFault bytes at e → FaultInLine bytes place letter count e
fault_behind_front bytes place letter count i at Letter h f x = absurd x
fault_behind_front bytes place letter count i at NoSpace h f x = (i, h, (at, f, x))
fault_behind_front bytes place letter count i at (Number e) h f x = (i, h, (at, f, x))
fault_behind_front bytes place letter count i at NoEnd h f x = absurd x

pub length_line_text : (letter : ℕ) (ns : List ℕ) → length (line_text letter ns) ≡ length (numbers_text ns) + 2
length_line_text letter ns = let l = length-append (numbers_text ns) (10 ∷ []) in omega arith
