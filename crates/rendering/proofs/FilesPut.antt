-- The lines of a file put one after another.
use Rattle.std.proofs.Common.{◌≡◌, ℕ, ◌+◌, ◌<◌, ◌≤◌, List, [], ◌∷◌, ◌++◌, map, length, get_or, take, drop, sym, refl, ap, ◌∙◌, append_assoc, arith, length-append}
use Rattle.std.specs.List.{flat_map}
use Rattle.std.proofs.lemmas.List.{append-nil, take_more, length-map}
use Rattle.std.proofs.lemmas.List.Concat.{flat_map-append}
use Rattle.std.proofs.lemmas.List.Folds.{flat_map-map}
use Rattle.std.proofs.lemmas.Simd.{map-map}
use Rattle.book.specs.declared.contract.Contract.{Contract}
use Rattle.book.specs.Entries.{entry_of}
use Rattle.book.specs.Plain.{Plain, size, scenarios}
use Rattle.tariff.specs.Files.{numbers_of, shares_text, contracts_text, file_text}
use Rattle.tariff.proofs.Rendered.{file_length_lem}
use Rattle.tariff.specs.Grammar.{lines_text}
use Rattle.lines.specs.Places.{written}
use Rattle.lines.specs.Texts.{line_text, trailer_text}
use Rattle.rendering.proofs.Writings.{written_more}

-- the texts of one item more
pub texts_more : {A : Type 0} (f : A → List ℕ) (xs : List A) (i : ℕ) (d : A) → i < length xs → flat_map f (take (i + 1) xs) ≡ flat_map f (take i xs) ++ f (get_or xs i d)
texts_more f xs i d h =
    ap (flat_map f) (take_more xs i d h) ∙ flat_map-append f (take i xs) (get_or xs i d ∷ []) ∙ ap (λ (text : List ℕ). flat_map f (take i xs) ++ text) (append-nil (f (get_or xs i d)))

-- lines are such texts
lines_texts : (letter : ℕ) (nss : List (List ℕ)) → lines_text letter nss ≡ flat_map (line_text letter) nss
lines_texts letter [] = refl
lines_texts letter (ns ∷ nss) = ap (λ (text : List ℕ). line_text letter ns ++ text) (lines_texts letter nss)

-- the parts as the code has them
module _ (p : Plain) (shares : List ℕ) (contracts : List Contract) (same : shares ≡ p.shares) (listed : map (entry_of (scenarios p)) contracts ≡ p.contracts) where
  pub shares_are : flat_map (λ (w : ℕ). line_text 83 (w ∷ [])) shares ≡ shares_text p.shares
  shares_are = sym (flat_map-map (line_text 83) (λ (w : ℕ). w ∷ []) shares) ∙ sym (lines_texts 83 (map (λ (w : ℕ). w ∷ []) shares)) ∙ ap shares_text same

  pub contracts_are : flat_map (λ (x : Contract). line_text 67 (numbers_of (entry_of (length shares) x))) contracts ≡ contracts_text p.contracts
  contracts_are =
      sym (flat_map-map (line_text 67) (λ (x : Contract). numbers_of (entry_of (length shares) x)) contracts)
      ∙ sym (lines_texts 67 (map (λ (x : Contract). numbers_of (entry_of (length shares) x)) contracts))
      ∙ ap (lines_text 67) (sym (map-map numbers_of (entry_of (length shares)) contracts))
      ∙ ap (λ (ws : List ℕ). contracts_text (map (entry_of (length ws)) contracts)) same
      ∙ ap contracts_text listed

  pub parts_long : length (flat_map (λ (w : ℕ). line_text 83 (w ∷ [])) shares) + length (flat_map (λ (x : Contract). line_text 67 (numbers_of (entry_of (length shares) x))) contracts) + 18 ≡ length (file_text p)
  parts_long = let l = file_length_lem p in let s = ap length shares_are in let c = ap length contracts_are in omega arith

  trailer_is : (ceiling place : ℕ) → ceiling ≡ p.ceiling → place ≡ length (shares_text p.shares) →
      trailer_text ceiling (length shares) (length contracts) place ≡ trailer_text p.ceiling (scenarios p) (size p) (length (shares_text p.shares))
  trailer_is ceiling place c e =
      let m : length contracts ≡ size p = sym (length-map contracts (entry_of (scenarios p))) ∙ ap length listed in
      ap (λ (k : ℕ). trailer_text k (length shares) (length contracts) place) c
      ∙ ap (λ (k : ℕ). trailer_text p.ceiling k (length contracts) place) (ap length same)
      ∙ ap (λ (k : ℕ). trailer_text p.ceiling (scenarios p) k place) m
      ∙ ap (trailer_text p.ceiling (scenarios p) (size p)) e

  -- the file stands in front once its three parts are put
  pub file_put : (before one two after : List ℕ) (ceiling place end : ℕ) → ceiling ≡ p.ceiling →
      one ≡ written before 0 (shares_text p.shares) → place ≡ length (shares_text p.shares) →
      two ≡ written one place (contracts_text p.contracts) → end ≡ place + length (contracts_text p.contracts) →
      after ≡ written two end (trailer_text ceiling (length shares) (length contracts) place) →
      after ≡ file_text p ++ drop (length (file_text p)) before
  file_put before one two after ceiling place end c x l y q z =
      let a = shares_text p.shares in
      let b = contracts_text p.contracts in
      let t = trailer_text p.ceiling (scenarios p) (size p) (length a) in
      let start : 0 ≤ length before = omega arith in
      let front : 0 + length (file_text p) ≡ length (file_text p) = omega arith in
      written_more before two after 0 end (a ++ b) t start (omega (arith, length-append a b))
      (written_more before one two 0 place a b start (omega arith) x y)
      (z ∙ ap (written two end) (trailer_is ceiling place c l))
      ∙ ap (written before 0) (append_assoc a b t)
      ∙ ap (λ (i : ℕ). file_text p ++ drop i before) front
