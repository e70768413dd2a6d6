-- Every book's list is lawful, by what the types of book, shares, contract, loss and rate keep.
use Rattle.std.proofs.Common.{◌≡◌, ℕ, zero, suc, ◌≤◌, false, not, eqb, List, [], ◌∷◌, map, length, take, vec_items, sym, refl, ap, ◌∙◌, subst, arith, length-take-le}
use Rattle.std.specs.List.{AllByRecursion}
use Rattle.std.proofs.lemmas.List.{length-map}
use Rattle.std.proofs.lemmas.Bool.{le-ltb, eq-eqb, or_from}
use Rattle.reckoning.specs.declared.rate.Rate.{Rate}
use Rattle.reckoning.specs.Outcomes.{summed, outside, rate_wrong}
use Rattle.book.specs.declared.contract.Contract.{Contract}
use Rattle.book.specs.Entries.{millionths_of, entry_of}
use Rattle.book.specs.Lawful.{LawfulEntry, BooksAreLawful}
use Rattle.book.specs.Listed.{shares_of}
use Rattle.book.specs.Some.{some}
use Rattle.book.proofs.Ranges.{not_outside, loss_right}

no_rate_wrong : (n : ℕ) (rates : List Rate) → some rate_wrong (millionths_of (take n rates)) ≡ false
no_rate_wrong zero rates = refl
no_rate_wrong (suc n) [] = refl
no_rate_wrong (suc n) (r ∷ rs) = or_from (rate_wrong r.millionths) (some rate_wrong (millionths_of (take n rs))) (le-ltb 1000000 r.millionths r.in_range) (no_rate_wrong n rs)

one_rate_each : (n : ℕ) (c : Contract) → n ≤ 8 → length (millionths_of (take n c.rates)) ≡ n
one_rate_each n c few =
    let enough : n ≤ length c.rates = omega (arith, c.eight) in
    length-map (take n c.rates) (λ r. r.millionths) ∙ length-take-le n c.rates enough

lawful_entry : (n : ℕ) → n ≤ 8 → (c : Contract) → LawfulEntry n (entry_of n c)
lawful_entry n few c = record {
  key = c.small_key;
  loss = loss_right c.loss c.loss.units refl;
  rates = or_from (not (eqb (length (millionths_of (take n c.rates))) n)) (some rate_wrong (millionths_of (take n c.rates)))
      (ap not (eq-eqb (length (millionths_of (take n c.rates))) n (one_rate_each n c few))) (no_rate_wrong n c.rates);
}

lawful_entries : (m n : ℕ) → m ≡ n → n ≤ 8 → (cs : List Contract) → AllByRecursion (LawfulEntry m) (map (entry_of n) cs)
lawful_entries m n same few [] = tt
lawful_entries m n same few (c ∷ cs) = (subst (λ (k : ℕ). LawfulEntry k (entry_of n c)) (sym same) (lawful_entry n few c), lawful_entries m n same few cs)

pub books_are_lawful : BooksAreLawful
books_are_lawful b =
    let s = b.shares in
    let long : length (shares_of s) ≡ s.count = s.one_each in
    record {
      ceiling = not_outside 1 65535 b.ceiling b.some_ceiling b.low_ceiling;
      shares = or_from (outside 1 8 (length (shares_of s))) (not (eqb (summed (λ w. w) (shares_of s)) 1000000))
          (not_outside 1 8 (length (shares_of s)) (omega (arith, s.some)) (omega (arith, s.few)))
          (ap not (eq-eqb (summed (λ w. w) (shares_of s)) 1000000 s.all));
      few = omega (arith, b.few, b.contracts.ok.0, length-map (vec_items b.contracts) (entry_of s.count));
      each = lawful_entries (length (shares_of s)) s.count long s.few (vec_items b.contracts);
      distinct = b.own_keys;
    }
