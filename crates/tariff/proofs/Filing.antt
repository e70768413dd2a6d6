-- A file read: its form, the opening and the entering put together.
use Rattle.std.proofs.Common.{◌≡◌, ℕ, ◌+◌, ◌-◌, ◌≤◌, List, [], ◌∷◌, ◌++◌, map, length, take, drop, Some, Ok, Err, Result, sym, refl, ap, ◌∙◌, subst, inl, inr, append_assoc, arith}
use Rattle.std.proofs.ByRecursion.{All-map}
use Rattle.std.proofs.lemmas.List.{length-take, length-drop, length-take-le, take_all, take-append-drop, drop-take}
use Rattle.reckoning.specs.Operations.{Operations}
use Rattle.book.specs.declared.shown.Handed.{Handed}
use Rattle.book.specs.Laid.{State, Holds}
use Rattle.book.specs.Levels.{kept}
use Rattle.book.specs.Listed.{listed}
use Rattle.book.specs.Plain.{Entry, Plain, losses, scenarios, opened, with_entries}
use Rattle.book.specs.Refusals.{number_of}
use Rattle.book.proofs.Layouts.{kept_none}
use Rattle.book.proofs.Rebuilds.{outside_more}
use Rattle.book.proofs.Subsets.{front_keeps_no_more}
use Rattle.tariff.specs.declared.reading.FileRead.{FileRead}
use Rattle.tariff.specs.declared.refusal.BookFault.{BookFault}
use Rattle.tariff.specs.declared.refusal.FileFault.{FileFault}
use Rattle.tariff.specs.declared.refusal.FileFault.TheVariants.{Length, Trailer, Line, Shares, Count, Book}
use Rattle.lines.specs.declared.trailer.Trailer as trailers
use Rattle.tariff.specs.Filed.{declines_entry, Opens, EnteredAll, ReadsFile}
use Rattle.tariff.specs.Files.{numbers_of, shares_text, contracts_text, file_text}
use Rattle.tariff.specs.Forms.{trailer_at, body, part, ContractsTo, Form, FormWrong}
use Rattle.tariff.specs.Grammar.{Numbers, LinesFrom}
use Rattle.tariff.specs.Reading.{OpenedFor, NotOpened, EntersPart}
use Rattle.lines.specs.Texts.{trailer_text}
use Rattle.tariff.proofs.Forming.{length_body}
use Rattle.tariff.proofs.OneReading.{same_count}

pub lines_from_contracts : (part : List ℕ) (n : ℕ) (entries : List Entry) → ContractsTo part n (length part) entries → LinesFrom part 0 67 n
lines_from_contracts part n entries to =
    (map numbers_of entries, record { each = All-map (Numbers n) numbers_of entries to.each; text = sym (take_all (length part) part (omega arith)) ∙ to.text })

module _ (file : List ℕ) (t : trailers.Trailer) (shares : List ℕ) (entries : List Entry) (form : Form file t shares entries) where
  pub place_inside : t.place ≤ trailer_at file
  place_inside = let inside = form.whole.before.lines.lines.inside in omega (arith, length_body file)

  pub part_length : t.place + length (part file t) ≡ trailer_at file
  part_length =
      let inside = place_inside in
      omega (arith, length-take (trailer_at file - t.place) (drop t.place file), length-drop t.place file)

  -- other contracts that the part is C lines of are as many
  pub other_form : (es : List Entry) → ContractsTo (part file t) (2 + t.scenarios) (length (part file t)) es → Form file t shares es
  other_form es lines = record {
    whole = record { before = form.whole.before; contracts = lines };
    count = same_count (part file t) (2 + t.scenarios) es entries lines form.whole.contracts ∙ form.count;
  }

  pub shares_end : t.place ≡ length (shares_text shares)
  shares_end =
      let lines = form.whole.before.lines.lines in
      sym (length-take-le t.place (body file) lines.inside) ∙ ap length lines.text

  contracts_are : part file t ≡ contracts_text entries
  contracts_are = sym (take_all (length (part file t)) (part file t) (omega arith)) ∙ form.whole.contracts.text

  part_is : drop t.place (body file) ≡ part file t
  part_is =
      let inside = place_inside in
      let sum : trailer_at file ≡ t.place + (trailer_at file - t.place) = omega arith in
      ap (λ (k : ℕ). drop t.place (take k file)) sum ∙ drop-take t.place (trailer_at file - t.place) file

  trailer_is : drop (trailer_at file) file ≡ trailer_text t.ceiling (length shares) (length entries) (length (shares_text shares))
  trailer_is =
      form.whole.before.ends.trailer.text
      ∙ ap (λ (n : ℕ). trailer_text t.ceiling n t.contracts t.place) (sym form.whole.before.lines.count)
      ∙ ap (λ (n : ℕ). trailer_text t.ceiling (length shares) n t.place) (sym form.count)
      ∙ ap (λ (n : ℕ). trailer_text t.ceiling (length shares) (length entries) n) shares_end

  -- the file is the one file of its shares and contracts
  pub whole_file : (places : ℕ) → file_text (with_entries (opened places t.ceiling shares) entries) ≡ file
  whole_file places =
      let trailer = trailer_text t.ceiling (length shares) (length entries) (length (shares_text shares)) in
      ap (λ (s : List ℕ). s ++ (contracts_text entries ++ trailer)) (sym form.whole.before.lines.lines.text)
      ∙ ap (λ (s : List ℕ). take t.place (body file) ++ (s ++ trailer)) (sym contracts_are ∙ sym part_is)
      ∙ ap (λ (s : List ℕ). take t.place (body file) ++ (drop t.place (body file) ++ s)) (sym trailer_is)
      ∙ sym (append_assoc (take t.place (body file)) (drop t.place (body file)) (drop (trailer_at file) file))
      ∙ ap (λ (s : List ℕ). s ++ drop (trailer_at file) file) (take-append-drop t.place (body file))
      ∙ take-append-drop (trailer_at file) file

pub kept_some : (c : ℕ) (ws : List ℕ) → 1 ≤ length (kept c ws)
kept_some c ws = omega (arith, front_keeps_no_more c 0 ws, ap length (kept_none c))

module _ {V : Type 0} (ops : Operations V) (h : Handed) (file : List ℕ) where
  form_told : (x : State V) (e : FileFault) → FormWrong file e → ReadsFile ops h file x x (Err e)
  form_told x Length wrong = record { wrong = wrong; unchanged = refl }
  form_told x (Trailer p) wrong = record { wrong = wrong; unchanged = refl }
  form_told x (Line f) wrong = record { wrong = wrong; unchanged = refl }
  form_told x (Shares p) wrong = record { wrong = wrong; unchanged = refl }
  form_told x (Count p) wrong = record { wrong = wrong; unchanged = refl }
  form_told x (Book f) wrong = absurd wrong

  pub form_declined : (x : State V) (r : Result FileRead FileFault) (e f : FileFault) → r ≡ Err e → e ≡ f → FormWrong file f → ReadsFile ops h file x x r
  form_declined x r e f is same wrong = subst (ReadsFile ops h file x x) (sym is) (form_told x e (subst (FormWrong file) (sym same) wrong))

  module _ (t : trailers.Trailer) (shares : List ℕ) (entries : List Entry) (form : Form file t shares entries) (x y : State V) where
    pub opening_declined : (r : Result FileRead FileFault) (e : FileFault) (f : BookFault) → r ≡ Err e → e ≡ Book f → NotOpened h t.ceiling shares (trailer_at file) x y f → ReadsFile ops h file x y r
    opening_declined r e f is same no-book =
        subst (ReadsFile ops h file x y) (sym (is ∙ ap (λ (d : FileFault). Err d) same))
        (inl (record { trailer = t; shares = shares; entries = entries; form = form; declined = no-book.declined; place = no-book.told; unchanged = no-book.unchanged }))

    module _ (book : OpenedFor ops h t.ceiling shares x y) where
      abbrev list : Plain
      list = opened h.levels t.ceiling shares

      opens : (es : List Entry) → ContractsTo (part file t) (2 + t.scenarios) (length (part file t)) es → Opens h file t shares es list
      opens es lines = record { form = other_form file t shares entries form es lines; accepted = book.accepted; list = refl }

      -- entered after the opening is entered in all
      entered : (es : List Entry) (z : State V) → EnteredAll ops h (listed y.book) es y z → EnteredAll ops h list es x z
      entered es z all =
          let after = subst (λ (q : Plain). EnteredAll ops h q es y z) book.list all in
          let some = kept_some (listed z.book).ceiling (losses (listed z.book)) in
          let count = after.holds.levels.count in
          record {
            enter = after.enter;
            list = after.list;
            holds = after.holds;
            outside = outside_more (scenarios list) h.levels 1 z.book.kept x.places y.places z.places (omega arith) book.outside after.outside;
          }

      pub read_entered : (g : Handed) (z : State V) (r : Result FileRead FileFault) → g ≡ h →
          ((listed y.book).contracts ≡ [] → Holds ops y.book y.places → EntersPart ops g (part file t) t.place (2 + t.scenarios) y z r) → ReadsFile ops h file x z r
      read_entered g z r same enters =
          let empty = ap (λ (q : Plain). q.contracts) book.list in
          by r (subst (λ (k : Handed). EntersPart ops k (part file t) t.place (2 + t.scenarios) y z r) same (enters empty book.holds))
        where
          by : (r : Result FileRead FileFault) → EntersPart ops h (part file t) t.place (2 + t.scenarios) y z r → ReadsFile ops h file x z r
          by (Ok _) p =
              let all = entered p.entries z p.entered in
              record {
                trailer = t;
                shares = shares;
                entries = p.entries;
                list = list;
                opens = opens p.entries p.lines;
                entered = all;
                same = ap file_text all.list ∙ whole_file file t shares p.entries (other_form file t shares entries form p.entries p.lines) h.levels;
              }
          by (Err Length) p = absurd p
          by (Err (Trailer q)) p = absurd p
          by (Err (Line f)) p = absurd p
          by (Err (Shares q)) p = absurd p
          by (Err (Count q)) p = absurd p
          by (Err (Book f)) p =
              inr (record {
                trailer = t;
                shares = shares;
                front = p.front;
                next = p.next;
                rest = p.rest;
                list = list;
                opens = opens (p.front ++ (p.next ∷ p.rest)) p.lines;
                entered = entered p.front z p.entered;
                declined = subst (λ (q : Plain). declines_entry h (with_entries q p.front) p.next ≡ Some (number_of f.refusal)) book.list p.declined;
                place = p.told;
              })
