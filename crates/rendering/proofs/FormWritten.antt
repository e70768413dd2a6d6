-- The file of a lawful list has the right form, and says that list.
use Rattle.std.proofs.Common.{ℕ, ◌+◌, ◌^◌, ◌<◌, ◌≤◌, length, arith}
use Rattle.std.proofs.ByRecursion.{All-weaker}
use Rattle.book.specs.Lawful.{LawfulEntry, Lawful}
use Rattle.book.specs.Plain.{Entry, Plain, scenarios}
use Rattle.tariff.specs.Files.{numbers_of, shares_text, contracts_text, file_text}
use Rattle.tariff.specs.Forms.{Form, FieldsFit, trailer_of}
use Rattle.tariff.specs.Grammar.{Numbers}
use Rattle.tariff.proofs.Rendered.{file_length_lem, files_right}
use Rattle.rendering.proofs.Lengths.{in_range, shares_admitted, rates_admitted, length_shares_text, length_contracts_text}

entry_numbers : (n : ℕ) (e : Entry) → LawfulEntry n e → Numbers (2 + n) (numbers_of e)
entry_numbers n e lawful =
    let rates = rates_admitted n e.rates lawful.rates in
    let loss = (in_range 1 65535 e.loss lawful.loss).1 in
    let count = rates.0 in
    record {
      many = omega arith;
      small = (lawful.key, (omega arith, All-weaker (λ r. r ≤ 1000000) (λ r. r < 2 ^ 32) (λ r h. omega arith) e.rates rates.1));
    }

module _ (p : Plain) (lawful : Lawful p) where
  shares_short : length (shares_text p.shares) ≤ 80
  shares_short =
      let admitted = shares_admitted p.shares lawful.shares in
      let few = admitted.0 in
      let short = length_shares_text p.shares admitted.1 in
      omega arith

  contracts_short : length (contracts_text p.contracts) ≤ 21248
  contracts_short =
      let admitted = shares_admitted p.shares lawful.shares in
      let few = lawful.few in
      let short = length_contracts_text (scenarios p) p.contracts admitted.0 lawful.each in
      omega arith

  fields_fit : FieldsFit p
  fields_fit =
      let ceiling = (in_range 1 65535 p.ceiling lawful.ceiling).1 in
      let admitted = shares_admitted p.shares lawful.shares in
      let few = admitted.0 in
      let most = lawful.few in
      let all = file_length_lem p in
      let s = shares_short in
      let c = contracts_short in
      record {
        low = omega arith;
        few_scenarios = omega arith;
        few_contracts = omega arith;
        near = omega arith;
        small = All-weaker (λ w. w ≤ 1000000) (λ w. w < 2 ^ 32) (λ w h. omega arith) p.shares admitted.1;
        each = All-weaker (LawfulEntry (scenarios p)) (λ e. Numbers (2 + scenarios p) (numbers_of e)) (entry_numbers (scenarios p)) p.contracts lawful.each;
        long = omega arith;
      }

  pub form_of_written : Form (file_text p) (trailer_of p) p.shares p.contracts
  form_of_written = files_right p fields_fit
