-- The lines of a statement, one after the other, and that each fits its buffer.
use Rattle.std.proofs.Common.{◌≡◌, ℕ, ◌+◌, ◌<◌, ◌≤◌, false, Bool, ltb, leb, List, [], ◌∷◌, ◌++◌, map, length, get_or, take, drop, Some, None, Ok, Err, Option, Result, IsOk, IfOk, sym, ap, ◌∙◌, subst, append_assoc, arith}
use Rattle.std.proofs.lemmas.List.{map_push, append-nil, take_at, take_more, get_or-take}
use Rattle.std.proofs.lemmas.Bool.{false≢true, cond-false, le-leb, le-ltb, not_from_true}
use Rattle.reckoning.specs.declared.grains.Grains.{Grains}
use Rattle.reckoning.specs.Counting.{counts}
use Rattle.reckoning.specs.Outcomes.{outside}
use Rattle.reckoning.specs.Rounding.{pair}
use Rattle.book.specs.declared.shown.Handed.{Handed}
use Rattle.book.specs.Places.{handed}
use Rattle.book.specs.Declines.{places_wrong, chance_sentences}
use Rattle.book.specs.Figures.{chance}
use Rattle.book.specs.Laid.{State, LevelsHold}
use Rattle.book.specs.Levels.{kept}
use Rattle.book.specs.Listed.{listed}
use Rattle.book.specs.Plain.{Plain, scenarios, losses, unopened}
use Rattle.book.specs.Refusals.{Sentences, first}
use Rattle.book.proofs.Reaches.{kept_under_ceiling}
use Rattle.tariff.specs.declared.reading.FileRead.{FileRead}
use Rattle.tariff.specs.declared.refusal.FileFault.{FileFault}
use Rattle.tariff.specs.Filed.{ReadsFile}
use Rattle.rendering.specs.Tables.{Row, table_text, Table, row_at, levels_text, Says, Stated}
use Rattle.rendering.specs.Printed.{level_text}
use Rattle.rendering.specs.Told.{Tells}
use Rattle.rendering.specs.declared.text.TooFew.{TooFew}

-- a line that is told, and taken from where it stands
pub told_taken : (line before after : List ℕ) (r : Result ℕ TooFew) → Tells line before after r → IsOk r →
    (old new : List ℕ) → IfOk r (λ k. new ≡ old ++ take k after) → new ≡ old ++ line
told_taken line before after (Ok k) (l, m, e) ok old new is = is ∙ ap (λ (t : List ℕ). old ++ t) (ap (take k) e ∙ take_at line (drop k before) k (sym l))
told_taken line before after (Err x) told ok old new is = absurd (false≢true ok)

table_push : (rows : List Row) (r : Row) → table_text (rows ++ (r ∷ [])) ≡ table_text rows ++ level_text r.level r.lower r.upper
table_push [] r = append-nil (level_text r.level r.lower r.upper)
table_push (x ∷ rows) r =
    let t = level_text x.level x.lower x.upper in
    ap (λ (s : List ℕ). t ++ s) (table_push rows r) ∙ sym (append_assoc t (table_text rows) (level_text r.level r.lower r.upper))

pub table_more : (before after : List ℕ) (level lower upper : ℕ) → Table before → after ≡ before ++ level_text level lower upper → Table after
table_more before after level lower upper (rows, is) more =
    let r : Row = record { level = level; lower = lower; upper = upper } in
    (rows ++ (r ∷ []), more ∙ ap (λ (t : List ℕ). t ++ level_text level lower upper) is ∙ sym (table_push rows r))

pub table_same : (before after : List ℕ) → Table before → after ≡ before → Table after
table_same before after (rows, is) same = (rows, same ∙ is)

levels_push : (p : Plain) (ks : List ℕ) (k : ℕ) → levels_text p (ks ++ (k ∷ [])) ≡ levels_text p ks ++ level_text k (chance p 0 k).lower (chance p 0 k).upper
levels_push p ks k = ap table_text (map_push (row_at p) ks k) ∙ table_push (map (row_at p) ks) (row_at p k)

-- the line of one level more
pub levels_more : (p : Plain) (ks : List ℕ) (i level lower upper : ℕ) (before after : List ℕ) → i < length ks → get_or ks i 0 ≡ level → pair lower upper ≡ chance p 0 level →
    before ≡ levels_text p (take i ks) → after ≡ before ++ level_text level lower upper → after ≡ levels_text p (take (i + 1) ks)
levels_more p ks i level lower upper before after l at told is more =
    more
    ∙ ap (λ (t : List ℕ). t ++ level_text level lower upper) is
    ∙ ap (λ (g : Grains). levels_text p (take i ks) ++ level_text level g.lower g.upper) told
    ∙ sym (levels_push p (take i ks) level)
    ∙ ap (λ (k : ℕ). levels_text p (take i ks ++ (k ∷ []))) (sym at)
    ∙ ap (levels_text p) (sym (take_more ks i 0 l))

-- the kept levels stand in the first places
module _ (p : Plain) (n : ℕ) (levels : List ℕ) (hold : LevelsHold p n levels) where
  pub kept_at : (i : ℕ) → i < n → get_or (kept p.ceiling (losses p)) i 0 ≡ get_or levels i 0
  kept_at i l = ap (λ (ks : List ℕ). get_or ks i 0) (sym hold.each) ∙ get_or-take n levels i 0 l

  pub kept_below : (i : ℕ) → i < n → get_or levels i 0 ≤ p.ceiling
  kept_below i l = let under = kept_under_ceiling p.ceiling (losses p) i (omega (arith, hold.count)) in omega (arith, kept_at i l)

-- the chance of the mix is told at any level up to the ceiling
pub chance_told : (h : Handed) (p : Plain) (level : ℕ) → places_wrong h p ≡ false → level ≤ p.ceiling → first (chance_sentences h p 0 level) ≡ None
chance_told h p level fit low =
    cond-false (places_wrong h p) (Some 7) (first late) fit
    ∙ cond-false (outside 0 (scenarios p) 0) (Some 14) (first last) (not_from_true (leb 0 (scenarios p)) (le-leb 0 (scenarios p) (omega arith)))
    ∙ cond-false (ltb p.ceiling level) (Some 15) None (le-ltb p.ceiling level low)
  where
    last : Sentences
    last = (15, ltb p.ceiling level) ∷ []

    late : Sentences
    late = (14, outside 0 (scenarios p) 0) ∷ last

-- what is stated of a read over as many places as a statement brings
pub stated : (file : List ℕ) (x y : State (Option ℕ)) (h : Handed) (r : Result FileRead FileFault) (accepted : Bool) (text : List ℕ) →
    h ≡ handed 256 2048 2048 → listed x.book ≡ unopened → ReadsFile counts h file x y r → Says (listed y.book) r accepted text →
    Stated file accepted text
stated file x y h r accepted text places empty reads says =
    record {
      before = x;
      after = y;
      answer = r;
      empty = empty;
      reads = subst (λ (h : Handed). ReadsFile counts h file x y r) places reads;
      says = says;
    }
