-- Which of the early sentences of enter is the first that holds.
use Rattle.std.proofs.Common.{◌≡◌, ℕ, true, false, leb, List, [], ◌∷◌, Some, None, ◌∙◌}
use Rattle.reckoning.specs.Outcomes.{loss_wrong}
use Rattle.book.specs.declared.shown.Handed.{Handed}
use Rattle.book.specs.Declines.{places_wrong, rates_wrong, enter_early}
use Rattle.book.specs.Plain.{Plain, size, scenarios, holds_key}
use Rattle.book.specs.Refusals.{Sentences, first}
use Rattle.book.proofs.Firsts.{first_passes, first_holds}

module _ (h : Handed) (p : Plain) (k w : ℕ) (rs : List ℕ) (fit : places_wrong h p ≡ false) where
  abbrev from_12 : Sentences
  from_12 = (12, leb 256 (size p)) ∷ []

  abbrev from_11 : Sentences
  from_11 = (11, holds_key k p.contracts) ∷ from_12

  abbrev from_9 : Sentences
  from_9 = (9, rates_wrong (scenarios p) rs) ∷ from_11

  abbrev from_8 : Sentences
  from_8 = (8, loss_wrong w) ∷ from_9

  pub loss_first : loss_wrong w ≡ true → first (enter_early h p k w rs) ≡ Some 8
  loss_first wrong = first_passes 7 (places_wrong h p) from_8 fit ∙ first_holds 8 (loss_wrong w) from_9 wrong

  module _ (some : loss_wrong w ≡ false) where
    to_9 : first (enter_early h p k w rs) ≡ first from_9
    to_9 = first_passes 7 (places_wrong h p) from_8 fit ∙ first_passes 8 (loss_wrong w) from_9 some

    pub rates_first : rates_wrong (scenarios p) rs ≡ true → first (enter_early h p k w rs) ≡ Some 9
    rates_first wrong = to_9 ∙ first_holds 9 (rates_wrong (scenarios p) rs) from_11 wrong

    module _ (rated : rates_wrong (scenarios p) rs ≡ false) where
      to_11 : first (enter_early h p k w rs) ≡ first from_11
      to_11 = to_9 ∙ first_passes 9 (rates_wrong (scenarios p) rs) from_11 rated

      pub key_first : holds_key k p.contracts ≡ true → first (enter_early h p k w rs) ≡ Some 11
      key_first there = to_11 ∙ first_holds 11 (holds_key k p.contracts) from_12 there

      pub full_first : holds_key k p.contracts ≡ false → leb 256 (size p) ≡ true → first (enter_early h p k w rs) ≡ Some 12
      full_first absent full = to_11 ∙ first_passes 11 (holds_key k p.contracts) from_12 absent ∙ first_holds 12 (leb 256 (size p)) [] full

      pub none_holds : holds_key k p.contracts ≡ false → leb 256 (size p) ≡ false → first (enter_early h p k w rs) ≡ None
      none_holds absent room = to_11 ∙ first_passes 11 (holds_key k p.contracts) from_12 absent ∙ first_passes 12 (leb 256 (size p)) [] room
