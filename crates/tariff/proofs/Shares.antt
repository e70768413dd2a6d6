-- The S lines read one after the other.
use Rattle.std.proofs.Common.{◌≡◌, ℕ, ◌+◌, ◌^◌, ◌<◌, ◌≤◌, List, [], ◌∷◌, ◌++◌, map, length, get_or, take, set, Err, sym, refl, ap, ◌∙◌, subst, inl, arith}
use Rattle.std.proofs.ByRecursion.{All-push}
use Rattle.std.proofs.lemmas.List.{length-take-le, take_more_set, take_all, map_push}
use Rattle.tariff.specs.declared.refusal.LineFault.TheVariants.{Share, Contract}
use Rattle.tariff.specs.declared.refusal.FileFault.{FileFault}
use Rattle.tariff.specs.declared.refusal.FileFault.TheVariants.{Length, Trailer, Line, Shares, Count, Book}
use Rattle.tariff.specs.Forms.{SharesTo, SharesRight, ShareDue, NoShare, SharesWrong}
use Rattle.tariff.specs.Grammar.{lines_text}
use Rattle.tariff.specs.Reading.{ReadsDue}
use Rattle.lines.specs.Reads.{LineAt}
use Rattle.lines.specs.Texts.{line_text}
use Rattle.tariff.proofs.LineWalks.{text_more}

pub one_number : (xs : List ℕ) → length xs ≡ 1 → xs ≡ get_or xs 0 0 ∷ []
one_number [] e = absurd (omega arith)
one_number (x ∷ []) e = refl
one_number (x ∷ (y ∷ ys)) e = absurd (omega arith)

module _ (body : List ℕ) where
  pub shares_to_none : SharesTo body 0 []
  shares_to_none = record { inside = omega arith; small = tt; text = refl }

  shares_to_more : (place next w : ℕ) (shares : List ℕ) → SharesTo body place shares → LineAt body place 83 (w ∷ []) → next ≡ place + length (line_text 83 (w ∷ [])) →
      next ≤ length body → SharesTo body next (shares ++ (w ∷ []))
  shares_to_more place next w shares before line end inside = record {
    inside = inside;
    small = All-push (λ n. n < 2 ^ 32) shares w before.small line.small.0;
    text =
        text_more body 83 place next (map (λ (n : ℕ). n ∷ []) shares) (w ∷ []) before.text line end
        ∙ ap (lines_text 83) (sym (map_push (λ (n : ℕ). n ∷ []) shares w));
  }

  -- the shares stand in the places that were filled so far
  pub shares_to_stored : (place next w i : ℕ) (places : List ℕ) → i < length places → SharesTo body place (take i places) → LineAt body place 83 (w ∷ []) →
      next ≡ place + length (line_text 83 (w ∷ [])) → next ≤ length body → SharesTo body next (take (i + 1) (set places i w))
  shares_to_stored place next w i places l before line end inside =
      subst (SharesTo body next) (sym (take_more_set places i w l)) (shares_to_more place next w (take i places) before line end inside)

  pub shares_all : (place i n : ℕ) (places : List ℕ) → length places ≤ i → length places ≡ n → SharesTo body place (take i places) → SharesRight body n place places
  shares_all place i n places past size before = record { lines = subst (SharesTo body place) (take_all i places past) before; count = size }

  -- what is wrong where a share is due is wrong with the S lines
  pub due_wrong : (n end place i : ℕ) (places : List ℕ) (e : FileFault) → i < length places → length places ≡ n → SharesTo body place (take i places) →
      ReadsDue body place (Err e) → SharesWrong body n end e
  due_wrong n end place i places e l size before wrong = by e wrong
    where
      due : ShareDue body n place (take i places)
      due = record { before = before; fewer = omega (arith, length-take-le i places (omega arith)) }

      by : (e : FileFault) → ReadsDue body place (Err e) → SharesWrong body n end e
      by Length x = absurd x
      by (Trailer p) x = absurd x
      by (Line (Share p w)) x = (take i places, subst (λ (q : ℕ). ShareDue body n q (take i places)) (sym x.0) due, subst (λ (q : ℕ). NoShare body q w) (sym x.0) x.1)
      by (Line (Contract p w)) x = absurd x
      by (Shares p) x = (x.0, (take i places, (place, inl (due, x.1))))
      by (Count p) x = absurd x
      by (Book f) x = absurd x
