-- The C lines of contracts.
use Rattle.std.proofs.Common.{◌≡◌, ℕ, ◌+◌, ◌<◌, ◌≤◌, List, [], ◌∷◌, ◌++◌, map, length, get_or, drop, Ok, Err, sym, refl, ap, ◌∙◌, subst, append_assoc, arith}
use Rattle.std.specs.List.{AllByRecursion}
use Rattle.std.proofs.ByRecursion.{All-push, All-append}
use Rattle.std.proofs.lemmas.List.{length_push, length-take-le, map_push, map-append, take_all, take-append-drop}
use Rattle.book.specs.Plain.{Entry, entry}
use Rattle.tariff.specs.declared.refusal.LineFault.{LineFault}
use Rattle.tariff.specs.declared.refusal.LineFault.TheVariants.{Share, Contract}
use Rattle.tariff.specs.Files.{numbers_of, contracts_text}
use Rattle.tariff.specs.Forms.{ContractsTo}
use Rattle.tariff.specs.Grammar.{Numbers, lines_text, LinesFrom}
use Rattle.tariff.specs.Reading.{ReadsContractLine, ContractsCounted, Counts, LineOf}
use Rattle.lines.specs.Reads.{LineAt, FaultInLine, ReadsLine}
use Rattle.lines.specs.Texts.{line_text}
use Rattle.lines.proofs.Lines.{same_line}
use Rattle.tariff.proofs.LineWalks.{text_more, lines_from_next}

-- the contract of a line's numbers
abbrev pub entry_from : List ℕ → Entry
entry_from ns = entry (get_or ns 0 0) (get_or ns 1 0) (drop 2 ns)

pub numbers_of_entry : (ns : List ℕ) → 2 ≤ length ns → numbers_of (entry_from ns) ≡ ns
numbers_of_entry [] l = absurd (omega arith)
numbers_of_entry (k ∷ []) l = absurd (omega arith)
numbers_of_entry (k ∷ (w ∷ rs)) l = refl

pub lines_text_append : (letter : ℕ) (mss nss : List (List ℕ)) → lines_text letter (mss ++ nss) ≡ lines_text letter mss ++ lines_text letter nss
lines_text_append letter [] nss = refl
lines_text_append letter (ms ∷ mss) nss =
    ap (λ (t : List ℕ). line_text letter ms ++ t) (lines_text_append letter mss nss) ∙ sym (append_assoc (line_text letter ms) (lines_text letter mss) (lines_text letter nss))

module _ (n : ℕ) (two : 2 ≤ n) where
  numbers_of_all : (nss : List (List ℕ)) → AllByRecursion (Numbers n) nss → map numbers_of (map entry_from nss) ≡ nss
  numbers_of_all [] all = refl
  numbers_of_all (ns ∷ nss) all =
      let many = all.0.many in
      ap (λ (xs : List ℕ). xs ∷ map numbers_of (map entry_from nss)) (numbers_of_entry ns (omega arith)) ∙ ap (λ (xss : List (List ℕ)). ns ∷ xss) (numbers_of_all nss all.1)

  entries_numbers : (nss : List (List ℕ)) → AllByRecursion (Numbers n) nss → AllByRecursion (λ e. Numbers n (numbers_of e)) (map entry_from nss)
  entries_numbers [] all = tt
  entries_numbers (ns ∷ nss) all =
      let many = all.0.many in
      (subst (Numbers n) (sym (numbers_of_entry ns (omega arith))) all.0, entries_numbers nss all.1)

  module _ (part : List ℕ) where
    contracts_to_none : ContractsTo part n 0 []
    contracts_to_none = record { inside = omega arith; each = tt; text = refl }

    -- one C line more
    pub contracts_to_more : (place next : ℕ) (entries : List Entry) (e : Entry) → ContractsTo part n place entries → Numbers n (numbers_of e) → LineAt part place 67 (numbers_of e) →
        next ≡ place + length (line_text 67 (numbers_of e)) → next ≤ length part → ContractsTo part n next (entries ++ (e ∷ []))
    contracts_to_more place next entries e before numbers line end inside = record {
      inside = inside;
      each = All-push (λ (x : Entry). Numbers n (numbers_of x)) entries e before.each numbers;
      text = text_more part 67 place next (map numbers_of entries) (numbers_of e) before.text line end ∙ ap (lines_text 67) (sym (map_push numbers_of entries e));
    }

    -- the C lines up to a place are those of contracts
    pub contracts_end : (place : ℕ) (entries : List Entry) → ContractsTo part n place entries → place ≡ length (contracts_text entries)
    contracts_end place entries before = let inside = before.inside in omega (arith, length-take-le place part inside, ap length before.text)

    pub counted_none : ContractsCounted part n 0 0
    counted_none = ([], contracts_to_none, refl)

    pub counted_more : (place next many : ℕ) (ns : List ℕ) → ContractsCounted part n place many → length ns ≡ n → ReadsLine part place 67 ns (Ok next) → ContractsCounted part n next (many + 1)
    counted_more place next many ns (entries, before, count) size (line, end, inside) =
        let same = numbers_of_entry ns (omega arith) in
        let numbers : Numbers n ns = record { many = size; small = line.small } in (
          entries ++ (entry_from ns ∷ []),
          contracts_to_more place next entries (entry_from ns) before (subst (Numbers n) (sym same) numbers) (subst (LineAt part place 67) (sym same) line)
              (end ∙ ap (λ (xs : List ℕ). place + length (line_text 67 xs)) (sym same)) inside,
          length_push entries (entry_from ns) ∙ ap (λ (k : ℕ). k + 1) count,
        )

    pub counted_all : (place many : ℕ) → length part ≤ place → ContractsCounted part n place many → ContractsCounted part n (length part) many
    counted_all place many past (entries, before, count) =
        let inside = before.inside in
        let end : place ≡ length part = omega arith in
        (entries, subst (λ (k : ℕ). ContractsTo part n k entries) end before, count)

    -- what is no C line behind those that are counted is told
    pub counted_wrong : (base place many : ℕ) (ns : List ℕ) (e : LineFault) → ContractsCounted part n place many → place < length part → length ns ≡ n →
        ReadsContractLine part base place ns (Err e) → Counts part base n (Err e)
    counted_wrong base place many ns (Share p w) counted some size x = absurd x
    counted_wrong base place many ns (Contract p w) (entries, before, count) some size (told, none, fault) = (
      entries,
      (
        place,
        before,
        record { some = some; none = λ ms l. none ms (l ∙ sym size); fault = subst (λ (k : ℕ). FaultInLine part place 67 k w) size fault },
        told,
      ),
    )

    -- lines from a place on are those of further contracts
    pub contracts_to_end : (place : ℕ) (entries : List Entry) → ContractsTo part n place entries → LinesFrom part place 67 n → (rest : List Entry) × ContractsTo part n (length part) (entries ++ rest)
    contracts_to_end place entries before (nss, lines) =
        let rest = map entry_from nss in (
          rest,
          record {
            inside = omega arith;
            each = All-append (λ (x : Entry). Numbers n (numbers_of x)) entries rest before.each (entries_numbers nss lines.each);
            text =
                take_all (length part) part (omega arith)
                ∙ sym (take-append-drop place part)
                ∙ ap (λ (t : List ℕ). t ++ drop place part) before.text
                ∙ ap (λ (t : List ℕ). contracts_text entries ++ t) (lines.text ∙ ap (lines_text 67) (sym (numbers_of_all nss lines.each)))
                ∙ sym (lines_text_append 67 (map numbers_of entries) (map numbers_of rest))
                ∙ ap (lines_text 67) (sym (map-append numbers_of entries rest));
          },
        )

    -- the line that was read is that of a contract, and lines follow
    pub line_of_read : (place next : ℕ) (ns : List ℕ) → place < length part → LinesFrom part place 67 n → length ns ≡ n → ReadsLine part place 67 ns (Ok next) → LineOf part n place next (entry_from ns)
    line_of_read place next ns some lines size (line, end, inside) =
        let follows = lines_from_next part 67 n place some lines in
        let one = same_line part place 67 follows.0 ns follows.2 line in
        let behind : place + length (line_text 67 follows.0) ≡ next = ap (λ (xs : List ℕ). place + length (line_text 67 xs)) one ∙ sym end in
        let same = numbers_of_entry ns (omega arith) in
        let numbers : Numbers n ns = record { many = size; small = line.small } in
        record {
          numbers = subst (Numbers n) (sym same) numbers;
          line = subst (LineAt part place 67) (sym same) line;
          end = end ∙ ap (λ (xs : List ℕ). place + length (line_text 67 xs)) (sym same);
          inside = inside;
          rest = subst (λ (k : ℕ). LinesFrom part k 67 n) behind follows.3;
        }

    pub no_fault : (base place : ℕ) (ns : List ℕ) (e : LineFault) → place < length part → LinesFrom part place 67 n → length ns ≡ n → ReadsContractLine part base place ns (Err e) → ⊥
    no_fault base place ns (Share p w) some lines size x = x
    no_fault base place ns (Contract p w) some lines size (told, none, fault) =
        let follows = lines_from_next part 67 n place some lines in
        none follows.0 (follows.1 ∙ sym size) follows.2
