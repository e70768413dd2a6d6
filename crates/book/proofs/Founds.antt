-- Where the places hold the list, the first kept level that passes is the least level that passes.
use Rattle.std.proofs.Common.{◌≡◌, ℕ, suc, ◌+◌, ◌-◌, ◌<◌, ◌≤◌, Bool, List, ◌∷◌, length, get_or, drop, sym, ap, ◌∙◌, subst, add-one, length-drop, drop-cons, arith, Option, Some, None}
use Rattle.std.proofs.lemmas.List.{get_or-take, length_push}
use Rattle.reckoning.specs.declared.grains.Grains.{Grains}
use Rattle.reckoning.specs.Enclosing.{bounds}
use Rattle.book.specs.declared.book.Book.{Book}
use Rattle.book.specs.Figures.{chance}
use Rattle.book.specs.Laid.{LevelsHold, RowsHold}
use Rattle.book.specs.Least.{Least, least}
use Rattle.book.specs.Levels.{picked}
use Rattle.book.specs.Listed.{listed}
use Rattle.book.specs.Merging.{reached, only_zero}
use Rattle.book.specs.Plain.{losses}
use Rattle.book.specs.Reserved.{mix_beside, Among, FirstOf}
use Rattle.book.proofs.Leasts.{least_is, least_unique}
use Rattle.book.proofs.Picks.{picked_yes, rank_mono, select}
use Rattle.book.proofs.Reaches.{kept_by_merging}
use Rattle.book.proofs.Readings.{levels_picked, some_level, chance_held}

-- what is found stands in a place
pub first_among : (test : ℕ → Bool) (levels : List ℕ) (n : ℕ) (f : Option ℕ) → FirstOf test levels n f → Among levels n f
first_among test levels n (Some q) h = (h.0, h.1, h.2)
first_among test levels n None h = tt

-- the first of what is left past n places
pub next_is : (xs ys : List ℕ) (n y : ℕ) → y ∷ ys ≡ drop n xs → (n < length xs) × (get_or xs n 0 ≡ y) × (ys ≡ drop (n + 1) xs)
next_is xs ys n y is =
    let inside : n < length xs = omega (arith, ap length is, length-drop n xs) in
    let both : y ∷ ys ≡ get_or xs n 0 ∷ drop (n + 1) xs = is ∙ drop-cons xs n 0 inside ∙ ap (λ (k : ℕ). get_or xs n 0 ∷ drop k xs) (sym (add-one n)) in
    (inside, cc, cc)

module _ (b : Book) (levels : List ℕ) (rows : List Grains) (held : LevelsHold (listed b) b.kept levels) (held_rows : RowsHold bounds (listed b) b.kept rows) (passes : Grains → Bool) where
  -- the reached levels
  abbrev S : ℕ → Bool
  S = reached only_zero (losses (listed b))

  abbrev by_place : ℕ → Bool
  by_place i = passes (mix_beside b rows i)

  abbrev by_level : ℕ → Bool
  by_level k = passes (chance (listed b) 0 k)

  kept_picked : b.kept ≡ length (picked S (b.ceiling + 1))
  kept_picked = held.count ∙ ap length (kept_by_merging b.ceiling (losses (listed b)))

  -- i is the last place whose level is not above k
  same_test : (k i : ℕ) → k ≤ b.ceiling → i + 1 ≡ length (picked S (k + 1)) → by_level k ≡ by_place i
  same_test k i under count = ap passes (sym (chance_held b levels rows 0 k (i + 1) held held_rows (omega arith) under count))

  last_place : (k : ℕ) → k ≤ b.ceiling → (i : ℕ) × (i + 1 ≡ length (picked S (k + 1))) × (i < b.kept)
  last_place k under =
      let some = some_level bounds (listed b) b.kept levels rows held held_rows k in
      let few = rank_mono S (k + 1) (b.ceiling + 1) (omega arith) in
      (length (picked S (k + 1)) - 1, omega arith, omega (arith, kept_picked))

  -- the level at place i
  place_level : (i : ℕ) → i < b.kept → (get_or levels i 0 ≤ b.ceiling) × (i + 1 ≡ length (picked S (get_or levels i 0 + 1))) × (length (picked S (get_or levels i 0)) ≡ i)
  place_level i l =
      let s = select S (b.ceiling + 1) i (omega (arith, kept_picked)) in
      let y = s.0 in
      let under = s.3 in
      let rank = s.4 in
      let is : y ≡ get_or levels i 0 =
      sym (sym (get_or-take b.kept levels i 0 l) ∙ ap (λ (xs : List ℕ). get_or xs i 0) (levels_picked bounds (listed b) b.kept levels rows held held_rows) ∙ s.1) in
      let one : suc y ≡ y + 1 = omega arith in
      let next : i + 1 ≡ length (picked S (y + 1)) = omega (arith, ap length (picked_yes S y s.2), length_push (picked S y) y, ap (λ (k : ℕ). length (picked S k)) one) in
      subst (λ (v : ℕ). (v ≤ b.ceiling) × (i + 1 ≡ length (picked S (v + 1))) × (length (picked S v) ≡ i)) is (omega arith, next, rank)

  first_least : (f : Option ℕ) → FirstOf by_place levels b.kept f → Least by_level b.ceiling f
  first_least (Some q) (i, l, at, holds, before) =
      let here = place_level i l in
      let v = get_or levels i 0 in
      let under = here.0 in
      let rank = here.2 in
      subst (λ (v : ℕ). Least by_level b.ceiling (Some v)) at (
        under,
        same_test v i under here.1 ∙ holds,
        λ k less.
            let last = last_place k (omega arith) in
            let count = last.1 in
            let few = rank_mono S (k + 1) v (omega arith) in
            same_test k last.0 (omega arith) count ∙ before last.0 (omega arith),
      )
  first_least None none = λ k under.
      let last = last_place k under in
      same_test k last.0 under last.1 ∙ none last.0 last.2

  pub first_is_least : (f : Option ℕ) → FirstOf by_place levels b.kept f → f ≡ least by_level b.ceiling
  first_is_least f h = least_unique by_level b.ceiling f (least by_level b.ceiling) (first_least f h) (least_is by_level b.ceiling)
