use Rattle.std.proofs.Common.{◌≡◌, ℕ, true, false, List, take, sym, refl, ap, ◌∙◌}
use Rattle.book.specs.Declines.{rates_wrong}
use Rattle.book.specs.Entries.{millionths_of}
use Rattle.book.specs.Listed.{listed}
use Rattle.book.specs.Plain.{scenarios, entry}
use Rattle.book.proofs.Admissions.{loss_first, rates_first, key_first, full_first, none_holds}
use Rattle.book.proofs.Ranges.{loss_right}
use Rattle.book.proofs.book.Book.admit.Goals as goal

pub returns-in_default : goal.returns-in_default
returns-in_default c =
    record {
      declines = sym
          (loss_first c.args.handed (listed c.args.self.now) c.args.key c.args.loss c.args.rates.now (sym c.if-are_places_wrong.ensures.value) c.in_default.ensures);
      admitted = tt;
    }

pub returns-in_default-read_rates : goal.returns-in_default-read_rates
returns-in_default-read_rates c =
    let b = c.args.self.now in
    let eight = loss_right c.in-Some.loss c.args.loss c.in-Some.ensures in
    let nine : rates_wrong (scenarios (listed b)) c.args.rates.now ≡ true = ap (λ (n : ℕ). rates_wrong n c.args.rates.now) b.shares.one_each ∙ c.in_default-read_rates.ensures in
    record {
      declines = sym (rates_first c.args.handed (listed b) c.args.key c.args.loss c.args.rates.now (sym c.if-are_places_wrong.ensures.value) eight nine);
      admitted = tt;
    }

pub returns-then-has_key : goal.returns-then-has_key
returns-then-has_key c =
    let b = c.args.self.now in
    let eight = loss_right c.in-Some.loss c.args.loss c.in-Some.ensures in
    let nine : rates_wrong (scenarios (listed b)) c.args.rates.now ≡ false = ap (λ (n : ℕ). rates_wrong n c.args.rates.now) b.shares.one_each ∙ c.in-Some-read_rates.ensures.0 in
    record {
      declines = sym
          (key_first c.args.handed (listed b) c.args.key c.args.loss c.args.rates.now (sym c.if-are_places_wrong.ensures.value) eight nine (sym c.if-has_key.ensures));
      admitted = tt;
    }

pub returns-then-is_full : goal.returns-then-is_full
returns-then-is_full c =
    let b = c.args.self.now in
    let eight = loss_right c.in-Some.loss c.args.loss c.in-Some.ensures in
    let nine : rates_wrong (scenarios (listed b)) c.args.rates.now ≡ false = ap (λ (n : ℕ). rates_wrong n c.args.rates.now) b.shares.one_each ∙ c.in-Some-read_rates.ensures.0 in
    record {
      declines = sym
          (full_first c.args.handed (listed b) c.args.key c.args.loss c.args.rates.now (sym c.if-are_places_wrong.ensures.value) eight nine
          (sym c.if-has_key.ensures) (sym c.if-is_full.ensures.value));
      admitted = tt;
    }

pub returns : goal.returns
returns c =
    let b = c.args.self.now in
    let eight = loss_right c.in-Some.loss c.args.loss c.in-Some.ensures in
    let nine : rates_wrong (scenarios (listed b)) c.args.rates.now ≡ false = ap (λ (n : ℕ). rates_wrong n c.args.rates.now) b.shares.one_each ∙ c.in-Some-read_rates.ensures.0 in
    let fit = sym c.if-are_places_wrong.ensures.value in
    record {
      declines = sym
          (none_holds c.args.handed (listed b) c.args.key c.args.loss c.args.rates.now fit eight nine
          (sym c.if-has_key.ensures) (sym c.if-is_full.ensures.value));
      admitted = (
        ap (λ (w : ℕ). entry c.args.key w (millionths_of (take b.shares.count c.in-Some-read_rates.rates))) c.in-Some.ensures ∙ ap (λ (rs : List ℕ). entry c.args.key c.args.loss rs) c.in-Some-read_rates.ensures.1,
        fit,
        c.if-is_full.ensures.room refl,
        sym c.if-has_key.ensures,
      );
    }
