-- Bytes have one reading as lines.
use Rattle.std.proofs.Common.{◌≡◌, ℕ, ◌+◌, ◌^◌, ◌<◌, ◌≤◌, List, [], ◌∷◌, map, length, get_or, take, sym, refl, ap, ◌∙◌, subst, ⊎_elim, arith, length-append}
use lib.ListN.{length-map}
use Rattle.std.specs.List.{AllByRecursion}
use Rattle.std.proofs.ByRecursion.{All-weaker, All-map}
use Rattle.std.proofs.lemmas.List.{length-take-le}
use Rattle.std.proofs.lemmas.Bool.{cases_order}
use Rattle.book.specs.Plain.{Entry}
use Rattle.tariff.specs.Files.{numbers_of, shares_text, contracts_text}
use Rattle.tariff.specs.Forms.{SharesTo, ContractsTo}
use Rattle.tariff.specs.Grammar.{Numbers, lines_text}
use Rattle.lines.specs.Places.{Stands}
use Rattle.lines.specs.Reads.{LineAt}
use Rattle.lines.specs.Texts.{line_text}
use Rattle.tariff.proofs.ContractLines.{entry_from}
use Rattle.lines.proofs.Lines.{same_line, length_line_text}
use Rattle.lines.proofs.Standing.{stands_within, stands_front, stands_rest}

-- each number has 32 bits
abbrev Small : List ℕ → Type 0
Small ns = AllByRecursion (λ k. k < 2 ^ 32) ns

module _ (bytes : List ℕ) (letter : ℕ) where
  first_line : (at : ℕ) (ns : List ℕ) (nss : List (List ℕ)) → Small ns → Stands bytes at (lines_text letter (ns ∷ nss)) → LineAt bytes at letter ns
  first_line at ns nss small s = record { small = small; stands = stands_front bytes at (line_text letter ns) (lines_text letter nss) s }

  -- behind fewer lines the next of more lines stands
  line_behind : (P : List ℕ → Type 0) (at : ℕ) (nss mss : List (List ℕ)) → AllByRecursion Small nss → AllByRecursion Small mss → AllByRecursion P mss → Stands bytes at (lines_text letter nss) → Stands bytes at (lines_text letter mss) →
      length nss < length mss → (ms : List ℕ) × P ms × LineAt bytes (at + length (lines_text letter nss)) letter ms
  line_behind P at nss [] a b p s t l = absurd (omega arith)
  line_behind P at [] (ms ∷ mss) a b p s t l =
      let here : at ≡ at + length (lines_text letter []) = omega arith in
      (ms, p.0, subst (λ (k : ℕ). LineAt bytes k letter ms) here (first_line at ms mss b.0 t))
  line_behind P at (ns ∷ nss) (ms ∷ mss) a b p s t l =
      let same = same_line bytes at letter ns ms (first_line at ns nss a.0 s) (first_line at ms mss b.0 t) in
      let behind = stands_rest bytes at (line_text letter ns) (lines_text letter nss) s in
      let other = subst (λ (xs : List ℕ). Stands bytes (at + length (line_text letter xs)) (lines_text letter mss)) (sym same) (stands_rest bytes at (line_text letter ms) (lines_text letter mss) t) in
      let next = line_behind P (at + length (line_text letter ns)) nss mss a.1 b.1 p.1 behind other (omega arith) in
      let end : at + length (line_text letter ns) + length (lines_text letter nss) ≡ at + length (lines_text letter (ns ∷ nss)) = omega (arith, length-append (line_text letter ns) (lines_text letter nss)) in
      (next.0, next.1, subst (λ (k : ℕ). LineAt bytes k letter next.0) end next.2)

  -- as many lines are the same lines
  same_lines : (at : ℕ) (nss mss : List (List ℕ)) → AllByRecursion Small nss → AllByRecursion Small mss → Stands bytes at (lines_text letter nss) → Stands bytes at (lines_text letter mss) →
      length nss ≡ length mss → nss ≡ mss
  same_lines at [] [] a b s t l = refl
  same_lines at [] (ms ∷ mss) a b s t l = absurd (omega arith)
  same_lines at (ns ∷ nss) [] a b s t l = absurd (omega arith)
  same_lines at (ns ∷ nss) (ms ∷ mss) a b s t l =
      let same = same_line bytes at letter ns ms (first_line at ns nss a.0 s) (first_line at ms mss b.0 t) in
      let behind = stands_rest bytes at (line_text letter ns) (lines_text letter nss) s in
      let other = subst (λ (xs : List ℕ). Stands bytes (at + length (line_text letter xs)) (lines_text letter mss)) (sym same) (stands_rest bytes at (line_text letter ms) (lines_text letter mss) t) in
      ap (λ (xs : List ℕ). xs ∷ nss) same ∙ ap (λ (xss : List (List ℕ)). ms ∷ xss) (same_lines (at + length (line_text letter ns)) nss mss a.1 b.1 behind other (omega arith))

map_back : {X Y : Type 0} (f : Y → X) (g : X → Y) → ((x : X) → f (g x) ≡ x) → (xs : List X) → map f (map g xs) ≡ xs
map_back f g back [] = refl
map_back {X} {Y} f g back (x ∷ xs) = ap (λ (y : X). y ∷ map f (map g xs)) (back x) ∙ ap (λ (ys : List X). x ∷ ys) (map_back f g back xs)

-- no line stands at the end
pub no_line_at_end : (bytes : List ℕ) (letter place : ℕ) (ns : List ℕ) → length bytes ≤ place → LineAt bytes place letter ns → ⊥
no_line_at_end bytes letter place ns past line =
    let long = length_line_text letter ns in
    omega (arith, stands_within bytes place (line_text letter ns) line.stands (omega arith))

-- what the bytes are up to a place stands at their front
front_stands : (bytes : List ℕ) (place : ℕ) (text : List ℕ) → place ≤ length bytes → take place bytes ≡ text → (place ≡ length text) × Stands bytes 0 text
front_stands bytes place text inside is =
    let end : place ≡ length text = sym (length-take-le place bytes inside) ∙ ap length is in
    (end, ap (λ (k : ℕ). take k bytes) (sym end) ∙ is)

abbrev OneShare : List ℕ → Type 0
OneShare ns = (w : ℕ) × (ns ≡ w ∷ [])

abbrev alone : ℕ → List ℕ
alone w = w ∷ []

module _ (body : List ℕ) (p q : ℕ) (ws vs : List ℕ) (a : SharesTo body p ws) (b : SharesTo body q vs) where
  pub share_behind : length ws < length vs → (w : ℕ) × LineAt body p 83 (w ∷ [])
  share_behind fewer =
      let front = front_stands body p (shares_text ws) a.inside a.text in
      let other = front_stands body q (shares_text vs) b.inside b.text in
      let small = λ (us : List ℕ) (all : AllByRecursion (λ w. w < 2 ^ 32) us). All-map Small alone us (All-weaker (λ w. w < 2 ^ 32) (λ w. Small (alone w)) (λ w l. (l, tt)) us all) in
      let next = line_behind body 83 OneShare 0 (map alone ws) (map alone vs) (small ws a.small) (small vs b.small)
      (All-map OneShare alone vs (All-weaker (λ w. w < 2 ^ 32) (λ w. OneShare (alone w)) (λ w l. (w, refl)) vs b.small))
      front.1 other.1 (omega (arith, length-map ws alone, length-map vs alone)) in
      let here : 0 + length (shares_text ws) ≡ p = omega (arith, front.0) in
      (next.1.0, subst (λ (k : ℕ). LineAt body k 83 (next.1.0 ∷ [])) here (subst (LineAt body (0 + length (shares_text ws)) 83) next.1.1 next.2))

  pub same_shares : length ws ≡ length vs → ws ≡ vs
  same_shares same =
      let small = λ (us : List ℕ) (all : AllByRecursion (λ w. w < 2 ^ 32) us). All-map Small alone us (All-weaker (λ w. w < 2 ^ 32) (λ w. Small (alone w)) (λ w l. (l, tt)) us all) in
      let one = same_lines body 83 0 (map alone ws) (map alone vs) (small ws a.small) (small vs b.small)
      (front_stands body p (shares_text ws) a.inside a.text).1 (front_stands body q (shares_text vs) b.inside b.text).1 (omega (arith, length-map ws alone, length-map vs alone)) in
      let first = λ (ns : List ℕ). get_or ns 0 0 in
      sym (map_back first alone (λ w. refl) ws) ∙ ap (map first) one ∙ map_back first alone (λ w. refl) vs

  pub same_shares_end : length ws ≡ length vs → p ≡ q
  same_shares_end same =
      (front_stands body p (shares_text ws) a.inside a.text).0 ∙ ap (λ (us : List ℕ). length (shares_text us)) (same_shares same) ∙ sym (front_stands body q (shares_text vs) b.inside b.text).0

module _ (part : List ℕ) (n p q : ℕ) (es fs : List Entry) (a : ContractsTo part n p es) (b : ContractsTo part n q fs) where
  small_of : (xs : List Entry) → AllByRecursion (λ e. Numbers n (numbers_of e)) xs → AllByRecursion Small (map numbers_of xs)
  small_of xs all = All-map Small numbers_of xs (All-weaker (λ e. Numbers n (numbers_of e)) (λ e. Small (numbers_of e)) (λ e m. m.small) xs all)

  pub contract_behind : length es < length fs → (ns : List ℕ) × (length ns ≡ n) × LineAt part p 67 ns
  contract_behind fewer =
      let front = front_stands part p (contracts_text es) a.inside a.text in
      let other = front_stands part q (contracts_text fs) b.inside b.text in
      let next = line_behind part 67 (Numbers n) 0 (map numbers_of es) (map numbers_of fs) (small_of es a.each) (small_of fs b.each) (All-map (Numbers n) numbers_of fs b.each)
      front.1 other.1 (omega (arith, length-map es numbers_of, length-map fs numbers_of)) in
      let here : 0 + length (contracts_text es) ≡ p = omega (arith, front.0) in
      (next.0, next.1.many, subst (λ (k : ℕ). LineAt part k 67 next.0) here next.2)

  pub same_contracts : length es ≡ length fs → es ≡ fs
  same_contracts same =
      let one = same_lines part 67 0 (map numbers_of es) (map numbers_of fs) (small_of es a.each) (small_of fs b.each)
      (front_stands part p (contracts_text es) a.inside a.text).1 (front_stands part q (contracts_text fs) b.inside b.text).1 (omega (arith, length-map es numbers_of, length-map fs numbers_of)) in
      sym (map_back entry_from numbers_of (λ e. refl) es) ∙ ap (map entry_from) one ∙ map_back entry_from numbers_of (λ e. refl) fs

  pub same_contracts_end : length es ≡ length fs → p ≡ q
  same_contracts_end same =
      (front_stands part p (contracts_text es) a.inside a.text).0 ∙ ap (λ (xs : List Entry). length (contracts_text xs)) (same_contracts same) ∙ sym (front_stands part q (contracts_text fs) b.inside b.text).0

-- a part is C lines of one number of contracts
pub same_count : (part : List ℕ) (n : ℕ) (es fs : List Entry) → ContractsTo part n (length part) es → ContractsTo part n (length part) fs → length es ≡ length fs
same_count part n es fs a b =
    ⊎_elim
    (λ (x : length es ≡ length fs). x)
    (⊎_elim
    (λ (x : length es < length fs). let next = contract_behind part n (length part) (length part) es fs a b x in absurd (no_line_at_end part 67 (length part) next.0 (omega arith) next.2))
    (λ (x : length fs < length es). let next = contract_behind part n (length part) (length part) fs es b a x in absurd (no_line_at_end part 67 (length part) next.0 (omega arith) next.2)))
    (cases_order (length es) (length fs))
