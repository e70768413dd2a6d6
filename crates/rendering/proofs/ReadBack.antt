-- A book written is read back: the file of a lawful list is accepted, over any places that are enough, and the book is that list.
use Rattle.std.proofs.Common.{◌≡◌, ℕ, ◌<◌, List, ◌∷◌, ◌++◌, length, take, None, Ok, Err, Result, sym, refl, ap, ◌∙◌, subst, inl, inr, arith, length-append}
use Rattle.std.proofs.lemmas.List.{take_at, get_or_at}
use Rattle.reckoning.specs.Operations.{Operations}
use Rattle.book.specs.declared.shown.Handed.{Handed}
use Rattle.book.specs.Declines.{open_sentences}
use Rattle.book.specs.Laid.{State}
use Rattle.book.specs.Lawful.{Lawful}
use Rattle.book.specs.Listed.{listed}
use Rattle.book.specs.Plain.{Entry, Plain, opened, with_entries}
use Rattle.book.specs.Refusals.{first}
use Rattle.tariff.specs.declared.reading.FileRead.{FileRead}
use Rattle.tariff.specs.declared.refusal.BookFault.{BookFault}
use Rattle.tariff.specs.declared.refusal.FileFault.{FileFault}
use Rattle.tariff.specs.declared.refusal.FileFault.TheVariants.{Length, Trailer, Line, Shares, Count, Book}
use Rattle.lines.specs.declared.trailer.Trailer as trailers
use Rattle.tariff.specs.Files.{file_text}
use Rattle.tariff.specs.Filed.{declines_entry, AllEnter, Opens, ReadWhole, OpeningDeclined, LineDeclined, FormDeclined, ReadsFile}
use Rattle.tariff.specs.Forms.{Form, trailer_of}
use Rattle.rendering.specs.RoundTrips.{Enough, over_places, ReadBack, BooksComeBack}
use Rattle.book.proofs.Lawfuls.{books_are_lawful}
use Rattle.rendering.proofs.EnteredAgain.{opens_again, enters_again}
use Rattle.tariff.proofs.FormsApart.{right_or_wrong}
use Rattle.rendering.proofs.FormWritten.{form_of_written}
use Rattle.tariff.proofs.OneAnswer.{form_trailer, form_shares, form_entries}
use Rattle.rendering.proofs.WrittenBack.{told_in_front}

module _ {V : Type 0} (ops : Operations V) (h : Handed) (p : Plain) (lawful : Lawful p) (enough : Enough h p) (x y : State V) where
  -- whatever the file is read as is the list
  module _ (t : trailers.Trailer) (shares : List ℕ) (entries : List Entry) (form : Form (file_text p) t shares entries) where
    read_ceiling : t.ceiling ≡ p.ceiling
    read_ceiling = ap (λ (u : trailers.Trailer). u.ceiling) (form_trailer (file_text p) t (trailer_of p) shares p.shares entries p.contracts form (form_of_written p lawful))

    read_shares : shares ≡ p.shares
    read_shares = form_shares (file_text p) t (trailer_of p) shares p.shares entries p.contracts form (form_of_written p lawful)

    read_entries : entries ≡ p.contracts
    read_entries = form_entries (file_text p) t (trailer_of p) shares p.shares entries p.contracts form (form_of_written p lawful)

  whole_is_the_list : ReadWhole ops h (file_text p) x y → listed y.book ≡ over_places h.levels p
  whole_is_the_list w =
      let form = w.opens.form in
      w.entered.list
      ∙ ap (λ (q : Plain). with_entries q w.entries) w.opens.list
      ∙ ap (λ (c : ℕ). with_entries (opened h.levels c w.shares) w.entries) (read_ceiling w.trailer w.shares w.entries form)
      ∙ ap (λ (ws : List ℕ). with_entries (opened h.levels p.ceiling ws) w.entries) (read_shares w.trailer w.shares w.entries form)
      ∙ ap (λ (es : List Entry). with_entries (opened h.levels p.ceiling p.shares) es) (read_entries w.trailer w.shares w.entries form)

  form_not_declined : (e : FileFault) → FormDeclined (file_text p) x y e → ⊥
  form_not_declined e d = right_or_wrong (file_text p) (trailer_of p) p.shares p.contracts e (form_of_written p lawful) d.wrong

  opening_not_declined : (f : BookFault) → OpeningDeclined h (file_text p) x y f → ⊥
  opening_not_declined f d =
      let answer =
      ap (λ (c : ℕ). first (open_sentences h c d.shares)) (read_ceiling d.trailer d.shares d.entries d.form)
      ∙ ap (λ (ws : List ℕ). first (open_sentences h p.ceiling ws)) (read_shares d.trailer d.shares d.entries d.form) in
      cc (answer ∙ opens_again h p lawful enough, d.declined)

  -- the opened list that the file was entered into
  opened_is : (t : trailers.Trailer) (shares : List ℕ) (entries : List Entry) (q : Plain) → Opens h (file_text p) t shares entries q → q ≡ opened h.levels p.ceiling p.shares
  opened_is t shares entries q o =
      o.list ∙ ap (λ (c : ℕ). opened h.levels c shares) (read_ceiling t shares entries o.form) ∙ ap (λ (ws : List ℕ). opened h.levels p.ceiling ws) (read_shares t shares entries o.form)

  line_not_declined : (f : BookFault) → LineDeclined ops h (file_text p) x y f → ⊥
  line_not_declined f d =
      let entries = d.front ++ (d.next ∷ d.rest) in
      let all : AllEnter h d.list entries =
      subst (λ (q : Plain). AllEnter h q entries) (sym (opened_is d.trailer d.shares entries d.list d.opens))
      (subst (AllEnter h (opened h.levels p.ceiling p.shares)) (sym (read_entries d.trailer d.shares entries d.opens.form)) (enters_again h p lawful enough)) in
      let i = length d.front in
      let some : i < length entries = omega (arith, length-append d.front (d.next ∷ d.rest)) in
      let accepted = all i d.next some in
      let answer : declines_entry h (with_entries d.list d.front) d.next ≡ None =
      subst (λ (es : List Entry). declines_entry h (with_entries d.list es) d.next ≡ None) (take_at d.front (d.next ∷ d.rest) i refl)
      (subst (λ (e : Entry). declines_entry h (with_entries d.list (take i entries)) e ≡ None) (get_or_at d.front d.next d.rest d.next i refl) accepted) in
      cc (answer, d.declined)

  pub read_back : (r : Result FileRead FileFault) → ReadsFile ops h (file_text p) x y r → ReadBack h p y r
  read_back (Ok w) d = record { accepted = refl; same = whole_is_the_list d }
  read_back (Err Length) d = absurd (form_not_declined Length d)
  read_back (Err (Trailer q)) d = absurd (form_not_declined (Trailer q) d)
  read_back (Err (Line f)) d = absurd (form_not_declined (Line f) d)
  read_back (Err (Shares q)) d = absurd (form_not_declined (Shares q) d)
  read_back (Err (Count q)) d = absurd (form_not_declined (Count q) d)
  read_back (Err (Book f)) (inl d) = absurd (opening_not_declined f d)
  read_back (Err (Book f)) (inr d) = absurd (line_not_declined f d)

pub books_come_back : {V : Type 0} (ops : Operations V) → BooksComeBack ops
books_come_back ops h b before after k x y r enough told reads =
    read_back ops h (listed b) (books_are_lawful b) enough x y r (subst (λ (file : List ℕ). ReadsFile ops h file x y r) (told_in_front (file_text (listed b)) before after k told) reads)
