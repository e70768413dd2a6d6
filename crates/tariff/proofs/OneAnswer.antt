-- A file that is read gets one answer.
use Rattle.std.proofs.Common.{◌≡◌, ℕ, ◌+◌, ◌<◌, ◌≤◌, List, ◌∷◌, ◌++◌, length, get_or, take, Some, None, Ok, Err, Result, sym, refl, ap, ◌∙◌, subst, ⊎_elim, arith, length-append}
use Rattle.std.proofs.lemmas.List.{take_all, take-take, take_at, get_or-take, get_or_at}
use Rattle.std.proofs.lemmas.Bool.{cases_order}
use Rattle.reckoning.specs.Operations.{Operations}
use Rattle.book.specs.declared.shown.Handed.{Handed}
use Rattle.book.specs.Declines.{open_sentences}
use Rattle.book.specs.Laid.{State}
use Rattle.book.specs.Listed.{listed}
use Rattle.book.specs.Plain.{Entry, Plain, opened, with_entries}
use Rattle.book.specs.Refusals.{number_of, first}
use Rattle.tariff.specs.declared.reading.FileRead.{FileRead}
use Rattle.tariff.specs.declared.refusal.BookFault.{BookFault}
use Rattle.tariff.specs.declared.refusal.FileFault.{FileFault}
use Rattle.tariff.specs.declared.refusal.FileFault.TheVariants.{Length, Trailer, Line, Shares, Count, Book}
use Rattle.lines.specs.declared.trailer.Trailer as trailers
use Rattle.tariff.specs.Filed.{declines_entry, AllEnter, Opens, ReadWhole, OpeningDeclined, LineDeclined, FormDeclined, ReadsFile, SameAnswer, OneAnswer, Accepted, GoodIsRead}
use Rattle.tariff.specs.Files.{contracts_text}
use Rattle.tariff.specs.Forms.{body, part, ContractsTo, Form}
use Rattle.tariff.specs.Refusals.{Telling}
use Rattle.tariff.proofs.FormsApart.{one_trailer, right_or_wrong, told_once}
use Rattle.tariff.proofs.OneReading.{same_shares, same_count, same_contracts}

-- a file has one form
module _ (file : List ℕ) (t u : trailers.Trailer) (ws vs : List ℕ) (es fs : List Entry) (a : Form file t ws es) (b : Form file u vs fs) where
  pub form_trailer : t ≡ u
  form_trailer = one_trailer file t u a.whole.before.ends b.whole.before.ends

  pub form_shares : ws ≡ vs
  form_shares =
      let x = a.whole.before.lines in
      let y = b.whole.before.lines in
      same_shares (body file) t.place u.place ws vs x.lines y.lines (x.count ∙ ap (λ (z : trailers.Trailer). z.scenarios) form_trailer ∙ sym y.count)

  pub form_entries : es ≡ fs
  form_entries =
      let lines = subst (λ (z : trailers.Trailer). ContractsTo (part file z) (2 + z.scenarios) (length (part file z)) es) form_trailer a.whole.contracts in
      let n = 2 + u.scenarios in
      let whole = part file u in
      same_contracts whole n (length whole) (length whole) es fs lines b.whole.contracts (same_count whole n es fs lines b.whole.contracts)

module _ (h : Handed) (file : List ℕ) (t u : trailers.Trailer) (ws vs : List ℕ) (es fs : List Entry) (p q : Plain) (a : Opens h file t ws es p) (b : Opens h file u vs fs q) where
  opens_list : p ≡ q
  opens_list =
      a.list ∙ ap (λ (z : trailers.Trailer). opened h.levels z.ceiling ws) (form_trailer file t u ws vs es fs a.form b.form)
      ∙ ap (opened h.levels u.ceiling) (form_shares file t u ws vs es fs a.form b.form) ∙ sym b.list

-- what is entered is not declined
not_both : (h : Handed) (p : Plain) (all front g rest : List Entry) (next : Entry) (n : ℕ) → all ≡ front ++ (next ∷ rest) → take (length g) all ≡ g → length front < length g →
    AllEnter h p g → declines_entry h (with_entries p front) next ≡ Some n → ⊥
not_both h p all front g rest next n is begins fewer enter declined =
    let i = length front in
    let le : i ≤ length g = omega arith in
    let front_is : take i g ≡ front = ap (take i) (sym begins) ∙ take-take i (length g) all le ∙ ap (take i) is ∙ take_at front (next ∷ rest) i refl in
    let next_is : get_or g i next ≡ next =
    ap (λ (xs : List Entry). get_or xs i next) (sym begins) ∙ get_or-take (length g) all i next fewer ∙ ap (λ (xs : List Entry). get_or xs i next) is ∙ get_or_at front next rest next i refl in
    let e : None ≡ Some n =
    sym (enter i next fewer) ∙ ap (λ (xs : List Entry). declines_entry h (with_entries p xs) (get_or g i next)) front_is ∙ ap (declines_entry h (with_entries p front)) next_is ∙ declined in
    let z : ◌≡◌ {A = ℕ} 0 1 = cc in
    omega arith

-- the four ends of a read
data Outcome {V : Type 0} (ops : Operations V) (h : Handed) (file : List ℕ) (x y : State V) : Result FileRead FileFault → Type 0 where
  malformed : (e : FileFault) → FormDeclined file x y e → Outcome ops h file x y (Err e)
  unopened : (f : BookFault) → OpeningDeclined h file x y f → Outcome ops h file x y (Err (Book f))
  stopped : (f : BookFault) → LineDeclined ops h file x y f → Outcome ops h file x y (Err (Book f))
  whole : (k : FileRead) → ReadWhole ops h file x y → Outcome ops h file x y (Ok k)

module _ {V : Type 0} (ops : Operations V) (h : Handed) (file : List ℕ) (x : State V) where
  outcome : (y : State V) (r : Result FileRead FileFault) → ReadsFile ops h file x y r → Outcome ops h file x y r
  outcome y (Ok k) a = whole k a
  outcome y (Err Length) a = malformed Length a
  outcome y (Err (Trailer p)) a = malformed (Trailer p) a
  outcome y (Err (Line f)) a = malformed (Line f) a
  outcome y (Err (Shares p)) a = malformed (Shares p) a
  outcome y (Err (Count p)) a = malformed (Count p) a
  outcome y (Err (Book f)) a = ⊎_elim (unopened f) (stopped f) a

  -- a book opens or does not
  not_opened : (z : State V) (t : trailers.Trailer) (ws : List ℕ) (es : List Entry) (p : Plain) (f : BookFault) → Opens h file t ws es p → OpeningDeclined h file x z f → ⊥
  not_opened z t ws es p f a b =
      let same = form_trailer file t b.trailer ws b.shares es b.entries a.form b.form in
      let shares = form_shares file t b.trailer ws b.shares es b.entries a.form b.form in
      let e : None ≡ Some (number_of f.refusal) =
      sym a.accepted ∙ ap (λ (u : trailers.Trailer). first (open_sentences h u.ceiling ws)) same ∙ ap (λ (vs : List ℕ). first (open_sentences h b.trailer.ceiling vs)) shares ∙ b.declined in
      let nothing : ◌≡◌ {A = ℕ} 0 1 = cc in
      omega arith

  -- all lines are entered or one is declined
  not_stopped : (z : State V) (t : trailers.Trailer) (ws : List ℕ) (es : List Entry) (p : Plain) (f : BookFault) → Opens h file t ws es p → AllEnter h p es → LineDeclined ops h file x z f → ⊥
  not_stopped z t ws es p f opens enter b =
      let all = b.front ++ (b.next ∷ b.rest) in
      let is = form_entries file t b.trailer ws b.shares es all opens.form b.opens.form in
      let list = opens_list h file t b.trailer ws b.shares es all p b.list opens b.opens in
      let long = length-append b.front (b.next ∷ b.rest) in
      let fewer : length b.front < length es = omega (arith, ap length is) in
      not_both h b.list es b.front es b.rest b.next (number_of f.refusal) is (take_all (length es) es (omega arith)) fewer
      (subst (λ (q : Plain). AllEnter h q es) list enter) b.declined

  -- what is read whole is what opens
  whole_list : (y : State V) (t : trailers.Trailer) (ws : List ℕ) (es : List Entry) (p : Plain) → Opens h file t ws es p → ReadWhole ops h file x y → listed y.book ≡ with_entries p es
  whole_list y t ws es p opens a =
      let is = form_entries file a.trailer t a.shares ws a.entries es a.opens.form opens.form in
      let list = opens_list h file a.trailer t a.shares ws a.entries es a.list p a.opens opens in
      a.entered.list ∙ ap (λ (q : Plain). with_entries q a.entries) list ∙ ap (with_entries p) is

  good : (t : trailers.Trailer) (ws : List ℕ) (es : List Entry) (p : Plain) (y : State V) {r : Result FileRead FileFault} → Opens h file t ws es p → AllEnter h p es → Outcome ops h file x y r →
      Accepted r × (listed y.book ≡ with_entries p es)
  good t ws es p y opens enter (malformed e a) = absurd (right_or_wrong file t ws es e opens.form a.wrong)
  good t ws es p y opens enter (unopened f a) = absurd (not_opened y t ws es p f opens a)
  good t ws es p y opens enter (stopped f a) = absurd (not_stopped y t ws es p f opens enter a)
  good t ws es p y opens enter (whole k a) = (tt, whole_list y t ws es p opens a)

  module _ (y z : State V) where
    one_opening : (e f : BookFault) → OpeningDeclined h file x y e → OpeningDeclined h file x z f → SameAnswer (Err (Book e)) (Err (Book f)) × (listed y.book ≡ listed z.book)
    one_opening e f a b =
        let same = form_trailer file a.trailer b.trailer a.shares b.shares a.entries b.entries a.form b.form in
        let shares = form_shares file a.trailer b.trailer a.shares b.shares a.entries b.entries a.form b.form in
        let told : Some (number_of e.refusal) ≡ Some (number_of f.refusal) =
        sym a.declined ∙ ap (λ (u : trailers.Trailer). first (open_sentences h u.ceiling a.shares)) same ∙ ap (λ (vs : List ℕ). first (open_sentences h b.trailer.ceiling vs)) shares ∙ b.declined in
        let number : number_of e.refusal ≡ number_of f.refusal = cc in
        ((number, a.place ∙ sym b.place), ap (λ (s : State V). listed s.book) (a.unchanged ∙ sym b.unchanged))

    one_whole : ReadWhole ops h file x y → ReadWhole ops h file x z → listed y.book ≡ listed z.book
    one_whole a b = whole_list y b.trailer b.shares b.entries b.list b.opens a ∙ sym b.entered.list

    module _ (e f : BookFault) (a : LineDeclined ops h file x y e) (b : LineDeclined ops h file x z f) where
      abbrev all_a : List Entry
      all_a = a.front ++ (a.next ∷ a.rest)

      abbrev all_b : List Entry
      all_b = b.front ++ (b.next ∷ b.rest)

      lines_same : all_a ≡ all_b
      lines_same = form_entries file a.trailer b.trailer a.shares b.shares all_a all_b a.opens.form b.opens.form

      list_same : a.list ≡ b.list
      list_same = opens_list h file a.trailer b.trailer a.shares b.shares all_a all_b a.list b.list a.opens b.opens

      -- neither stops before the other
      front_same : length a.front ≡ length b.front
      front_same =
          ⊎_elim
          (λ (same : length a.front ≡ length b.front). same)
          (⊎_elim
          (λ (fewer : length a.front < length b.front).
          absurd (not_both h b.list all_a a.front b.front a.rest a.next (number_of e.refusal) refl
          (ap (take (length b.front)) lines_same ∙ take_at b.front (b.next ∷ b.rest) (length b.front) refl) fewer b.entered.enter
          (subst (λ (q : Plain). declines_entry h (with_entries q a.front) a.next ≡ Some (number_of e.refusal)) list_same a.declined)))
          (λ (more : length b.front < length a.front).
          absurd (not_both h a.list all_b b.front a.front b.rest b.next (number_of f.refusal) refl
          (ap (take (length a.front)) (sym lines_same) ∙ take_at a.front (a.next ∷ a.rest) (length a.front) refl) more a.entered.enter
          (subst (λ (q : Plain). declines_entry h (with_entries q b.front) b.next ≡ Some (number_of f.refusal)) (sym list_same) b.declined))))
          (cases_order (length a.front) (length b.front))

      one_line : SameAnswer (Err (Book e)) (Err (Book f)) × (listed y.book ≡ listed z.book)
      one_line =
          let i = length a.front in
          let fronts : a.front ≡ b.front =
          sym (take_at a.front (a.next ∷ a.rest) i refl) ∙ ap (take i) lines_same ∙ take_at b.front (b.next ∷ b.rest) i (sym front_same) in
          let nexts : a.next ≡ b.next =
          sym (get_or_at a.front a.next a.rest a.next i refl) ∙ ap (λ (xs : List Entry). get_or xs i a.next) lines_same ∙ get_or_at b.front b.next b.rest a.next i (sym front_same) in
          let same = form_trailer file a.trailer b.trailer a.shares b.shares all_a all_b a.opens.form b.opens.form in
          let told : Some (number_of e.refusal) ≡ Some (number_of f.refusal) =
          sym a.declined ∙ ap (λ (q : Plain). declines_entry h (with_entries q a.front) a.next) list_same
          ∙ ap (λ (xs : List Entry). declines_entry h (with_entries b.list xs) a.next) fronts ∙ ap (declines_entry h (with_entries b.list b.front)) nexts ∙ b.declined in
          let number : number_of e.refusal ≡ number_of f.refusal = cc in (
            (number, a.place ∙ ap (λ (u : trailers.Trailer). u.place + length (contracts_text a.front)) same ∙ ap (λ (xs : List Entry). b.trailer.place + length (contracts_text xs)) fronts ∙ sym b.place),
            a.entered.list ∙ ap (λ (q : Plain). with_entries q a.front) list_same ∙ ap (with_entries b.list) fronts ∙ sym b.entered.list,
          )

    both : {r s : Result FileRead FileFault} → Outcome ops h file x y r → Outcome ops h file x z s → SameAnswer r s × (listed y.book ≡ listed z.book)
    both (malformed e a) (malformed f b) =
        let told = told_once file e f a.wrong b.wrong in
        ((ap (λ (t : Telling). t.number) told, ap (λ (t : Telling). t.place) told), ap (λ (s : State V). listed s.book) (a.unchanged ∙ sym b.unchanged))
    both (malformed e a) (unopened f b) = absurd (right_or_wrong file b.trailer b.shares b.entries e b.form a.wrong)
    both (malformed e a) (stopped f b) = absurd (right_or_wrong file b.trailer b.shares (b.front ++ (b.next ∷ b.rest)) e b.opens.form a.wrong)
    both (malformed e a) (whole k b) = absurd (right_or_wrong file b.trailer b.shares b.entries e b.opens.form a.wrong)
    both (unopened e a) (malformed f b) = absurd (right_or_wrong file a.trailer a.shares a.entries f a.form b.wrong)
    both (unopened e a) (unopened f b) = one_opening e f a b
    both (unopened e a) (stopped f b) = absurd (not_opened y b.trailer b.shares (b.front ++ (b.next ∷ b.rest)) b.list e b.opens a)
    both (unopened e a) (whole k b) = absurd (not_opened y b.trailer b.shares b.entries b.list e b.opens a)
    both (stopped e a) (malformed f b) = absurd (right_or_wrong file a.trailer a.shares (a.front ++ (a.next ∷ a.rest)) f a.opens.form b.wrong)
    both (stopped e a) (unopened f b) = absurd (not_opened z a.trailer a.shares (a.front ++ (a.next ∷ a.rest)) a.list f a.opens b)
    both (stopped e a) (stopped f b) = one_line e f a b
    both (stopped e a) (whole k b) = absurd (not_stopped y b.trailer b.shares b.entries b.list e b.opens b.entered.enter a)
    both (whole j a) (malformed f b) = absurd (right_or_wrong file a.trailer a.shares a.entries f a.opens.form b.wrong)
    both (whole j a) (unopened f b) = absurd (not_opened z a.trailer a.shares a.entries a.list f a.opens b)
    both (whole j a) (stopped f b) = absurd (not_stopped z a.trailer a.shares a.entries a.list f a.opens a.entered.enter b)
    both (whole j a) (whole k b) = (tt, one_whole a b)

pub one_answer : {V : Type 0} (ops : Operations V) → OneAnswer ops
one_answer ops h file x y z r s a b = both ops h file x y z (outcome ops h file x y r a) (outcome ops h file x z s b)

pub good_is_read : {V : Type 0} (ops : Operations V) → GoodIsRead ops
good_is_read ops h file t shares entries p x y r opens enter reads = good ops h file x t shares entries p y opens enter (outcome ops h file x y r reads)
