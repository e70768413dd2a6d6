-- The look-up by halving, turn by turn, and what it finds where levels rise.
use Rattle.std.proofs.Common.{◌≡◌, ℕ, zero, suc, ◌+◌, ◌-◌, ◌<◌, ◌≤◌, Bool, ltb, List, length, get_or, take, sym, refl, ap, ◌∙◌, subst, inl, inr, arith, length-take}
use Rattle.std.proofs.lemmas.List.{get_or-take}
use Rattle.std.proofs.lemmas.Bool.{cases_lt, cond-true, cond-false, lt-ltb, le-ltb}
use Rattle.book.specs.Levels.{picked}
use Rattle.book.specs.Told.{middle, halved, found_below}
use Rattle.book.specs.Theorems.{Rising, Splits, HalvingSplits}
use Rattle.book.proofs.Picks.{place_below, place_above, rank_within}
use Rattle.book.proofs.Reaches.{picked_rises}

module _ (levels : List ℕ) (x : ℕ) where
  -- so many turns do from low to high, and come to r
  abbrev pub Turns : ℕ → ℕ → ℕ → Type 0
  Turns low high r = (turns : ℕ) × (high - low ≤ turns) × (r ≡ halved turns levels x low high)

  module _ (low high : ℕ) where
    abbrev mid : ℕ
    mid = middle low high

    pub halved_end : (turns : ℕ) → high ≤ low → halved turns levels x low high ≡ low
    halved_end zero past = refl
    halved_end (suc turns) past = cond-false (ltb low high) _ low (le-ltb low high past)

    halved_up : (turns : ℕ) → low < high → get_or levels mid 0 < x → halved (suc turns) levels x low high ≡ halved turns levels x (mid + 1) high
    halved_up turns some less =
        cond-true (ltb low high) _ low (lt-ltb low high some)
        ∙ cond-true (ltb (get_or levels mid 0) x) (halved turns levels x (mid + 1) high) (halved turns levels x low mid) (lt-ltb (get_or levels mid 0) x less)

    halved_down : (turns : ℕ) → low < high → x ≤ get_or levels mid 0 → halved (suc turns) levels x low high ≡ halved turns levels x low mid
    halved_down turns some more =
        cond-true (ltb low high) _ low (lt-ltb low high some)
        ∙ cond-false (ltb (get_or levels mid 0) x) (halved turns levels x (mid + 1) high) (halved turns levels x low mid) (le-ltb (get_or levels mid 0) x more)

    pub turn_up : (r : ℕ) → Turns low high r → low < high → get_or levels mid 0 < x → Turns (mid + 1) high r
    turn_up r (zero, enough, is) some less = absurd (omega arith)
    turn_up r (suc turns, enough, is) some less = (turns, omega arith, is ∙ halved_up turns some less)

    pub turn_down : (r : ℕ) → Turns low high r → low < high → x ≤ get_or levels mid 0 → Turns low mid r
    turn_down r (zero, enough, is) some more = absurd (omega arith)
    turn_down r (suc turns, enough, is) some more = (turns, omega arith, is ∙ halved_down turns some more)

  -- no level from n on is read
  halved_kept : (n turns low high : ℕ) → high ≤ n → halved turns (take n levels) x low high ≡ halved turns levels x low high
  halved_kept n zero low high le = refl
  halved_kept n (suc turns) low high le =
      elim (cases_lt low high) [
        | inl some ↦
            let m = middle low high in
            let same = get_or-take n levels m 0 (omega arith) in
            let up = halved_kept n turns (m + 1) high le in
            let down = halved_kept n turns low m (omega arith) in
            cc
        | inr past ↦ cond-false (ltb low high) _ low (le-ltb low high past) ∙ sym (halved_end low high (suc turns) past)
      ]

  pub found_kept : (n : ℕ) → n ≤ length levels → found_below (take n levels) (length (take n levels)) x ≡ found_below levels n x
  found_kept n within =
      let all : length (take n levels) ≡ n = omega (arith, length-take n levels) in
      ap (λ (k : ℕ). halved k (take n levels) x 0 k) all ∙ halved_kept n n 0 n (omega arith)

  module _ (n : ℕ) (rises : (i j : ℕ) → i < j → j < n → get_or levels i 0 < get_or levels j 0) where
    halved_splits : (turns low high : ℕ) → high - low ≤ turns → low ≤ high → high ≤ n → ((i : ℕ) → i < low → get_or levels i 0 < x) → ((i : ℕ) → high ≤ i → i < n → x ≤ get_or levels i 0)
        → Splits levels n x (halved turns levels x low high)
    halved_splits zero low high enough le within under over = record { within = omega arith; below = under; above = λ i l k. over i (omega arith) k }
    halved_splits (suc turns) low high enough le within under over =
        elim (cases_lt low high) [
          | inr past ↦
              subst (Splits levels n x) (sym (halved_end low high (suc turns) past)) (record { within = omega arith; below = under; above = λ i l k. over i (omega arith) k })
          | inl some ↦
              let m = middle low high in
              elim (cases_lt (get_or levels m 0) x) [
                | inl less ↦
                    subst (Splits levels n x) (sym (halved_up low high turns some less))
                    (halved_splits turns (m + 1) high (omega arith) (omega arith) within
                    (λ i l. elim (cases_lt i m) [
                      | inl h ↦ let r = rises i m h (omega arith) in omega arith
                      | inr h ↦ let e : m ≡ i = omega arith in subst (λ (v : ℕ). get_or levels v 0 < x) e less
                    ])
                    over)
                | inr more ↦
                    subst (Splits levels n x) (sym (halved_down low high turns some more))
                    (halved_splits turns low m (omega arith) (omega arith) (omega arith) under
                    (λ i l k. elim (cases_lt m i) [
                      | inl h ↦ let r = rises m i h k in omega arith
                      | inr h ↦ let e : m ≡ i = omega arith in subst (λ (v : ℕ). x ≤ get_or levels v 0) e more
                    ]))
              ]
        ]

pub halving_splits : HalvingSplits
halving_splits levels n x within rising =
    halved_splits levels x n
    (λ i j l k.
    let r = rising i j l (omega (arith, length-take n levels)) in
    let a = get_or-take n levels i 0 (omega arith) in
    let b = get_or-take n levels j 0 k in
    omega arith)
    n 0 n (omega arith) (omega arith) (omega arith) (λ i l. absurd (omega arith)) (λ i l k. absurd (omega arith))

-- of levels that a set has, those of the set below x are found
pub found_picked : (S : ℕ → Bool) (levels : List ℕ) (m n x : ℕ) → m ≤ length levels → x ≤ n → take m levels ≡ picked S n → found_below levels m x ≡ length (picked S x)
found_picked S levels m n x within le are =
    let f = found_below levels m x in
    let rises = subst Rising (sym are) (picked_rises S n) in
    let splits = halving_splits levels m x within rises in
    let inside = splits.within in
    let all = rank_within S levels m n x within are le in
    let low : f ≤ length (picked S x) = elim (cases_lt 0 f) [
      | inl some ↦ let k = place_below S levels m n x (f - 1) within are (omega arith) (splits.below (f - 1) (omega arith)) in omega arith
      | inr none ↦ omega arith
    ] in
    let high : length (picked S x) ≤ f = elim (cases_lt f m) [
      | inl some ↦ place_above S levels m n x f within are some (splits.above f (omega arith) some)
      | inr none ↦ omega arith
    ] in
    omega arith
