-- Which numbers and places the refusals of a read can have.
use Rattle.std.proofs.Common.{◌≡◌, ℕ, ◌-◌, ◌≤◌, Bool, false, cond, not, ◌||◌, eqb, List, [], ◌∷◌, ◌++◌, map, length, drop, IfErr, Some, None, Option, Ok, Err, Result, sym, refl, ap, ◌∙◌, subst, inl, inr, ⊎_elim, arith}
use Rattle.std.specs.List.{AllByRecursion}
use Rattle.std.proofs.lemmas.List.{length-take, length-drop, length-append, map-append, take_all}
use Rattle.std.proofs.lemmas.Bool.{cases_Bool, cond-true, cond-false, eq-eqb}
use Rattle.reckoning.specs.Operations.{Operations}
use Rattle.book.specs.declared.shown.Handed.{Handed}
use Rattle.book.specs.Declines.{places_wrong, open_sentences, enter_early, enter_sentences}
use Rattle.book.specs.Laid.{State}
use Rattle.book.specs.Listed.{listed}
use Rattle.book.specs.Plain.{Entry, Plain, opened, with_entries}
use Rattle.book.specs.Refusals.{Sentences, first, number_of, FreeOf}
use Rattle.tariff.specs.declared.reading.FileRead.{FileRead}
use Rattle.tariff.specs.declared.refusal.BookFault.{BookFault}
use Rattle.tariff.specs.declared.refusal.LineFault.TheVariants.{Share, Contract}
use Rattle.tariff.specs.declared.refusal.FileFault.{FileFault}
use Rattle.tariff.specs.declared.refusal.FileFault.TheVariants.{Length, Trailer, Line, Shares, Count, Book}
use Rattle.tariff.specs.Filed.{declines_entry, ReadWhole, OpeningDeclined, LineDeclined, ReadsFile}
use Rattle.tariff.specs.Files.{numbers_of, contracts_text}
use Rattle.tariff.specs.Forms.{trailer_at, part, FormWrong}
use Rattle.tariff.specs.Grammar.{lines_text}
use Rattle.tariff.specs.Reading.{MayCome}
use Rattle.tariff.specs.Refusals.{telling}
use Rattle.tariff.proofs.ContractLines.{lines_text_append}
use Rattle.tariff.proofs.Filing.{part_length}
use Rattle.tariff.proofs.Forming.{length_body}

-- what holds of every sentence's number holds of the number told
first_among : (P : ℕ → Type 0) (ss : Sentences) (n : ℕ) → AllByRecursion (λ s. P s.0) ss → first ss ≡ Some n → P n
first_among P [] n all is = let z : ◌≡◌ {A = ℕ} 0 1 = cc in absurd (omega arith)
first_among P (s ∷ ss) n all is =
    elim (cases_Bool s.1) [
      | inl t ↦
          let e : Some n ≡ Some s.0 = sym is ∙ cond-true s.1 (Some s.0) (first ss) t in
          let same : s.0 ≡ n = cc in
          subst P same all.0
      | inr f ↦ first_among P ss n all.1 (sym (cond-false s.1 (Some s.0) (first ss) f) ∙ is)
    ]

-- where no number is told no sentence holds
first_none : (ss : Sentences) → first ss ≡ None → AllByRecursion (λ s. s.1 ≡ false) ss
first_none [] is = tt
first_none (s ∷ ss) is =
    elim (cases_Bool s.1) [
      | inl t ↦
          let e : None ≡ Some s.0 = sym is ∙ cond-true s.1 (Some s.0) (first ss) t in
          let z : ◌≡◌ {A = ℕ} 0 1 = cc in
          absurd (omega arith)
      | inr f ↦ (f, first_none ss (sym (cond-false s.1 (Some s.0) (first ss) f) ∙ is))
    ]

-- an opening is declined with 5, 6 or 7
pub opening_numbers : (h : Handed) (c : ℕ) (ws : List ℕ) (n : ℕ) → first (open_sentences h c ws) ≡ Some n → (5 ≤ n) × (n ≤ 7)
opening_numbers h c ws n is = first_among (λ k. (5 ≤ k) × (k ≤ 7)) (open_sentences h c ws) n (omega arith, (omega arith, (omega arith, tt))) is

-- after an accepted opening the places fit
pub opened_fits : (h : Handed) (c : ℕ) (ws : List ℕ) (es : List Entry) → first (open_sentences h c ws) ≡ None → places_wrong h (with_entries (opened h.levels c ws) es) ≡ false
opened_fits h c ws es none =
    let fits = (first_none (open_sentences h c ws) none).1.1.0 in
    ap (λ (b : Bool). b || not (eqb h.levels h.levels)) fits ∙ ap not (eq-eqb h.levels h.levels refl)

-- the numbers of an entering where the places fit
abbrev pub OfEntering : ℕ → Type 0
OfEntering n = (8 ≤ n) × (n ≤ 13) × (n ≡ 10 → ⊥)

entering_numbers : (h : Handed) (p : Plain) (e : Entry) (n : ℕ) → places_wrong h p ≡ false → declines_entry h p e ≡ Some n → OfEntering n
entering_numbers h p e n fit is =
    let later = elim (enter_sentences h p e.key e.loss e.rates) as (λ _. Sentences) [ [] ↦ [] | s ∷ ss ↦ ss ] in
    let skipped : declines_entry h p e ≡ first later = ap (λ (b : Bool). cond b (Some 7) (first later)) fit in
    first_among OfEntering later n
    ((omega arith, omega arith, λ z. omega arith), ((omega arith, omega arith, λ z. omega arith), ((omega arith, omega arith, λ z. omega arith), ((omega arith, omega arith, λ z. omega arith), ((omega arith, omega arith, λ z. omega arith), tt)))))
    (sym skipped ∙ is)

-- the same where the early sentences decide all but the last number
pub early_numbers : (h : Handed) (p : Plain) (k w : ℕ) (rs : List ℕ) (n : ℕ) → places_wrong h p ≡ false → FreeOf 13 (first (enter_early h p k w rs)) (Some n) → OfEntering n
early_numbers h p k w rs n fit free = by (first (enter_early h p k w rs)) refl free
  where
    by : (early : Option ℕ) → first (enter_early h p k w rs) ≡ early → FreeOf 13 early (Some n) → OfEntering n
    by (Some m) is e =
        let later = elim (enter_early h p k w rs) as (λ _. Sentences) [ [] ↦ [] | s ∷ ss ↦ ss ] in
        let skipped : first (enter_early h p k w rs) ≡ first later = ap (λ (b : Bool). cond b (Some 7) (first later)) fit in
        first_among OfEntering later n
        ((omega arith, omega arith, λ z. omega arith), ((omega arith, omega arith, λ z. omega arith), ((omega arith, omega arith, λ z. omega arith), ((omega arith, omega arith, λ z. omega arith), tt))))
        (sym skipped ∙ is ∙ sym e)
    by None is e = ⊎_elim (λ a. let z : ◌≡◌ {A = ℕ} 0 1 = cc in absurd (omega arith)) (λ b. let same : 13 ≡ n = cc in subst OfEntering same (omega arith, omega arith, λ z. omega arith)) e

-- a fault of the form is told by 1 to 4, within the file
form_comes : (file : List ℕ) (e : FileFault) → FormWrong file e → MayCome (length file) e
form_comes file Length wrong = record { from_1 = omega arith; to_13 = omega arith; not_10 = λ z. omega arith; place = omega arith }
form_comes file (Trailer p) wrong = let told = wrong.1 in record { from_1 = omega arith; to_13 = omega arith; not_10 = λ z. omega arith; place = omega arith }
form_comes file (Line (Share p w)) wrong =
    let inside = wrong.wrong.1.before.inside in
    record { from_1 = omega arith; to_13 = omega arith; not_10 = λ z. omega arith; place = omega (arith, length_body file) }
form_comes file (Line (Contract p w)) wrong =
    let t = wrong.trailer in
    let inside = wrong.wrong.some in
    let told = wrong.told in
    record {
      from_1 = omega arith;
      to_13 = omega arith;
      not_10 = λ z. omega arith;
      place = omega (arith, length-take (trailer_at file - t.place) (drop t.place file), length-drop t.place file);
    }
form_comes file (Shares p) wrong =
    let told = wrong.wrong.0 in
    record { from_1 = omega arith; to_13 = omega arith; not_10 = λ z. omega arith; place = omega (arith, length_body file) }
form_comes file (Count p) wrong = let told = wrong.told in record { from_1 = omega arith; to_13 = omega arith; not_10 = λ z. omega arith; place = omega arith }
form_comes file (Book f) wrong = absurd wrong

module _ {V : Type 0} (ops : Operations V) (h : Handed) (file : List ℕ) (x y : State V) where
  opening_comes : (f : BookFault) → OpeningDeclined h file x y f → MayCome (length file) (Book f)
  opening_comes f d =
      let numbers = opening_numbers h d.trailer.ceiling d.shares (number_of f.refusal) d.declined in
      let told = d.place in
      record { from_1 = omega arith; to_13 = omega arith; not_10 = λ z. omega arith; place = omega arith }

  line_numbers : (f : BookFault) → LineDeclined ops h file x y f → OfEntering (number_of f.refusal)
  line_numbers f d =
      let declined = subst (λ (p : Plain). declines_entry h (with_entries p d.front) d.next ≡ Some (number_of f.refusal)) d.opens.list d.declined in
      entering_numbers h (with_entries (opened h.levels d.trailer.ceiling d.shares) d.front) d.next (number_of f.refusal)
      (opened_fits h d.trailer.ceiling d.shares d.front d.opens.accepted) declined

  line_comes : (f : BookFault) → LineDeclined ops h file x y f → MayCome (length file) (Book f)
  line_comes f d =
      let numbers = line_numbers f d in
      let t = d.trailer in
      let told = d.place in
      let all = d.front ++ (d.next ∷ d.rest) in
      let lines = d.opens.form.whole.contracts in
      let text = sym (take_all (length (part file t)) (part file t) (omega arith)) ∙ lines.text ∙ ap (lines_text 67) (map-append numbers_of d.front (d.next ∷ d.rest))
      ∙ lines_text_append 67 (map numbers_of d.front) (map numbers_of (d.next ∷ d.rest)) in
      let long = ap length text ∙ length-append (contracts_text d.front) (contracts_text (d.next ∷ d.rest)) in
      record { from_1 = omega arith; to_13 = omega arith; not_10 = numbers.2; place = omega (arith, part_length file t d.shares all d.opens.form) }

  -- after a file is read whole the places fit its book
  pub whole_fits : ReadWhole ops h file x y → places_wrong h (listed y.book) ≡ false
  whole_fits w =
      ap (places_wrong h) (w.entered.list ∙ ap (λ (p : Plain). with_entries p w.entries) w.opens.list)
      ∙ opened_fits h w.trailer.ceiling w.shares w.entries w.opens.accepted

  -- a read tells the numbers that it may, within the file
  pub read_comes : (r : Result FileRead FileFault) → ReadsFile ops h file x y r → IfErr r (MayCome (length file))
  read_comes (Ok _) reads = tt
  read_comes (Err Length) reads = form_comes file Length reads.wrong
  read_comes (Err (Trailer p)) reads = form_comes file (Trailer p) reads.wrong
  read_comes (Err (Line f)) reads = form_comes file (Line f) reads.wrong
  read_comes (Err (Shares p)) reads = form_comes file (Shares p) reads.wrong
  read_comes (Err (Count p)) reads = form_comes file (Count p) reads.wrong
  read_comes (Err (Book f)) reads = ⊎_elim (opening_comes f) (line_comes f) reads

  -- and changes nothing where it tells one up to 7
  pub read_unchanged : (r : Result FileRead FileFault) → ReadsFile ops h file x y r → IfErr r (λ e. (telling e).number ≤ 7 → y ≡ x)
  read_unchanged (Ok _) reads = tt
  read_unchanged (Err Length) reads = λ few. reads.unchanged
  read_unchanged (Err (Trailer p)) reads = λ few. reads.unchanged
  read_unchanged (Err (Line f)) reads = λ few. reads.unchanged
  read_unchanged (Err (Shares p)) reads = λ few. reads.unchanged
  read_unchanged (Err (Count p)) reads = λ few. reads.unchanged
  read_unchanged (Err (Book f)) reads = λ few. ⊎_elim (λ (d : OpeningDeclined h file x y f). d.unchanged) (λ (d : LineDeclined ops h file x y f). absurd (omega (arith, (line_numbers f d).0))) reads
