-- A contract laid over any places, as the turns of the merge leave them.
use Rattle.std.proofs.Common.{◌≡◌, ℕ, ◌+◌, ◌-◌, ◌*◌, ◌<◌, ◌≤◌, Bool, List, ◌++◌, length, get_or, take, drop, Some, None, Option, sym, refl, ap, ◌∙◌, subst, arith}
use Rattle.std.proofs.lemmas.List.{length-map, length-take, length-drop}
use Rattle.reckoning.specs.declared.rate.Rate.{Rate}
use Rattle.reckoning.specs.Operations.{Operations}
use Rattle.std.proofs.lemmas.Bool.{cond-true, cond-false}
use Rattle.book.specs.declared.book.Book.{Book}
use Rattle.book.specs.Anyhow.{moved_over, count_over, RowsOver, ExtendsOver, EntersOver}
use Rattle.book.specs.Places.{Places}
use Rattle.book.specs.Entries.{millionths_of}
use Rattle.book.specs.Levels.{picked}
use Rattle.book.specs.Merging.{widened, row_of, Follows}
use Rattle.book.specs.Told.{found_below}
use Rattle.book.specs.Turned.{levels_turned, row_turned, merge_of}
use Rattle.book.proofs.Halvings.{found_kept, found_picked}
use Rattle.book.proofs.Picks.{rank_within}
use Rattle.book.proofs.Rows.{row_follows}
use Rattle.book.proofs.Strides.{ends_within}
use Rattle.book.proofs.Turns.{starts, turns_counted, levels_written}

-- the merge of the kept levels is that of the first n
pub merge_kept : (levels : List ℕ) (n w c : ℕ) → n ≤ length levels → merge_of (take n levels) (length (take n levels)) w c ≡ merge_of levels n w c
merge_kept levels n w c within =
    let front = take n levels in
    let all : length front ≡ n = omega (arith, length-take n levels) in
    ap (λ (k : ℕ). record { own = k; moved = found_below front (length front) (c + 1 - w); loss = w }) all
    ∙ ap (λ (k : ℕ). record { own = n; moved = k; loss = w }) (found_kept levels (c + 1 - w) n within)

-- where the levels are those of a set, what the turns leave are those of the set widened
module _ (S : ℕ → Bool) (levels : List ℕ) (len ceiling w n : ℕ) (within : len ≤ length levels) (low : ceiling ≤ 65535) (are : take len levels ≡ picked S (ceiling + 1)) where
  pub counted : n ≡ count_over levels len ceiling w → n ≡ length (picked (widened w S) (ceiling + 1))
  counted count =
      let moved = found_picked S levels len (ceiling + 1) (ceiling + 1 - w) within (omega arith) are in
      let fewer = rank_within S levels len (ceiling + 1) (ceiling + 1 - w) within are (omega arith) in
      count ∙ turns_counted S w (2 * len) levels len (moved_over levels len ceiling w) (ceiling + 1) (starts S w levels len ceiling within low are) (omega arith)

  pub written : (new : List ℕ) → n ≡ length (picked (widened w S) (ceiling + 1)) → n ≤ length levels → new ≡ levels_turned n levels len (moved_over levels len ceiling w) w →
      new ≡ picked (widened w S) (ceiling + 1) ++ drop n levels
  written new count room is = is ∙ levels_written S w n levels len (moved_over levels len ceiling w) (ceiling + 1) (starts S w levels len ceiling within low are) count room

pub rows_follow : {V : Type 0} (ops : Operations V) (levels : List ℕ) (len ceiling w n p : ℕ) (rates : List Rate) (old new : List V) → len ≤ length levels → ceiling ≤ 65535 → n ≤ p → length rates * p ≤ length old →
    ((s : ℕ) → s < length rates → row_of p s new ≡ row_turned ops levels w (get_or (millionths_of rates) s 0) n (row_of p s old) len (moved_over levels len ceiling w)) →
    (s : ℕ) → s < length rates → Follows ops levels len n w (get_or (millionths_of rates) s 0) ceiling (row_of p s old) (row_of p s new)
rows_follow ops levels len ceiling w n p rates old new within low few room each s l =
    let inside = ends_within s (length rates) p (s * p) (length old) refl l room in
    let whole : n ≤ length (row_of p s old) = omega (arith, length-take p (drop (s * p) old), length-drop (s * p) old) in
    subst (Follows ops levels len n w (get_or (millionths_of rates) s 0) ceiling (row_of p s old)) (sym (each s l)) (row_follows ops levels len n w (get_or (millionths_of rates) s 0) ceiling (row_of p s old) within low whole)

-- n levels were merged with the loss w, which is u
module _ (levels : List ℕ) (len ceiling w u n : ℕ) (loss : w ≡ u) (count : n ≡ count_over levels len ceiling w) where
  pub counted_over : n ≡ count_over levels len ceiling u
  counted_over = count ∙ ap (count_over levels len ceiling) loss

  pub levels_over : (new : List ℕ) → new ≡ levels_turned n levels len (moved_over levels len ceiling w) w → new ≡ levels_turned (count_over levels len ceiling u) levels len (moved_over levels len ceiling u) u
  levels_over new is =
      is ∙ ap (λ (k : ℕ). levels_turned k levels len (moved_over levels len ceiling w) w) count
      ∙ ap (λ (v : ℕ). levels_turned (count_over levels len ceiling v) levels len (moved_over levels len ceiling v) v) loss

  pub rows_over : {V : Type 0} (ops : Operations V) (p : ℕ) (rates : List Rate) (rs : List ℕ) (old new : List V) → rs ≡ millionths_of rates →
      ((s : ℕ) → s < length rates → row_of p s new ≡ row_turned ops levels w (get_or (millionths_of rates) s 0) n (row_of p s old) len (moved_over levels len ceiling w)) →
      RowsOver ops levels len ceiling p u rs old new
  rows_over ops p rates rs old new are each s l =
      each s (omega (arith, ap length are, length-map rates (λ (r : Rate). r.millionths)))
      ∙ ap (λ (k : ℕ). row_turned ops levels w (get_or (millionths_of rates) s 0) k (row_of p s old) len (moved_over levels len ceiling w)) count
      ∙ ap (λ (v : ℕ). row_turned ops levels v (get_or (millionths_of rates) s 0) (count_over levels len ceiling v) (row_of p s old) len (moved_over levels len ceiling v)) loss
      ∙ ap (λ (q : List ℕ). row_turned ops levels u (get_or q s 0) (count_over levels len ceiling u) (row_of p s old) len (moved_over levels len ceiling u)) (sym are)

-- what an enter does over any places, from what laying its contract did
module _ {V : Type 0} (ops : Operations V) (b after : Book) (w : ℕ) (rates : List ℕ) (early : Option ℕ) (old new : Places V) where
  -- as the frame and the entry have it, and as the book and the arguments do
  abbrev pub Over : Option ℕ → ℕ → ℕ → ℕ → ℕ → List ℕ → Type 0
  Over r len ceiling p u rs = ExtendsOver ops len ceiling p u rs r old new

  pub over_accepted : (n : ℕ) → after.kept ≡ n → Over (Some n) b.kept b.ceiling b.places w rates → EntersOver ops b after w rates early None old new
  over_accepted n kept (few, count, laid) =
      record { thirteen = λ _. sym (cond-false _ (Some 13) None few); kept = λ _. kept ∙ count; laid = λ _. laid }

  pub over_refused : Over None b.kept b.ceiling b.places w rates → EntersOver ops b after w rates early (Some 13) old new
  over_refused many =
      record {
        thirteen = λ _. sym (cond-true _ (Some 13) None many);
        kept = λ e. let z : ◌≡◌ {A = ℕ} 0 1 = cc in absurd (omega arith);
        laid = λ e. let z : ◌≡◌ {A = ℕ} 0 1 = cc in absurd (omega arith);
      }

  pub over_declined : (r : Option ℕ) (n : ℕ) → early ≡ Some n → r ≡ Some n → EntersOver ops b after w rates early r old new
  over_declined r n is told =
      record {
        thirteen = λ e. let z : ◌≡◌ {A = ℕ} 0 1 = cc in absurd (omega arith);
        kept = λ e. let z : ◌≡◌ {A = ℕ} 0 1 = cc in absurd (omega arith);
        laid = λ e. let z : ◌≡◌ {A = ℕ} 0 1 = cc in absurd (omega arith);
      }

-- equal arguments
pub over_same : (P : ℕ → ℕ → ℕ → ℕ → List ℕ → Type 0) (a a' b b' c c' d d' : ℕ) (e e' : List ℕ) → a ≡ a' → b ≡ b' → c ≡ c' → d ≡ d' → e ≡ e' → P a b c d e → P a' b' c' d' e'
over_same P a a' b b' c c' d d' e e' p q r s t x =
    subst (λ (z : List ℕ). P a' b' c' d' z) t (subst (λ (z : ℕ). P a' b' c' z e) s (subst (λ (z : ℕ). P a' b' z d e) r (subst (λ (z : ℕ). P a' z c d e) q (subst (λ (z : ℕ). P z b c d e) p x))))
