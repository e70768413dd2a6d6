use Rattle.std.proofs.Common.{◌≡◌, ◌<◌, true, false, length, vec_items, sym, refl, ap, ◌∙◌, subst, arith, rules}
use Rattle.std.proofs.lemmas.List.{length-map}
use Rattle.book.specs.Fitting.{Fits}
use Rattle.book.specs.Entries.{entry_of}
use Rattle.book.specs.Listed.{listed}
use Rattle.book.specs.Plain.{holds_key, distinct_keys, re_rated, with_entries}
use Rattle.book.proofs.Finds.{absent, found_stands, rerated_list}
use Rattle.book.proofs.Keys.{distinct_rerated}
use Rattle.book.proofs.Rebuilds.{held_fits, rerated_fits}
use Rattle.book.proofs.book.Book.rerate.Goals as goal

pub returns-in_default-find : goal.returns-in_default-find
returns-in_default-find g c =
    let none : holds_key c.args.key (listed c.args.self.now).contracts ≡ false = absent c.args.key (listed c.args.self.now).contracts c.in_default-find.ensures.place in
    record {
      declines = search rules;
      list = search rules;
      holds = search rules;
      fits = search rules;
      over = search rules;
      keeps = search rules;
      lent = search rules;
      unchanged = search rules;
    }

pub returns : goal.returns
returns g c =
    let b = c.args.self.now in
    let p = listed b in
    let k = c.args.key in
    let rs = c.args.rates.now in
    let found = c.in-Some-find.ensures.place in
    let at = found_stands k c.in-Some-find.place p.contracts found in
    let some : holds_key k p.contracts ≡ true = at.held in
    let within : c.in-Some-find.place < length (vec_items b.contracts) = omega (arith, at.inside, length-map (vec_items b.contracts) (entry_of b.shares.count)) in
    let final : listed c.rebuild.new.self ≡ with_entries p (re_rated k rs p.contracts) =
    c.rebuild.ensures.list
    ∙ ap (with_entries p) (rerated_list k b.shares.count c.in-Some-find.place (vec_items b.contracts) c.index_mut.result.now _ rs refl refl c.in-Some.ensures.1 within c.index_mut.ensures.value found) in
    record {
      declines = search rules;
      list = λ _. final;
      holds = λ held _.
          c.rebuild.ensures.holds (subst Fits (sym final ∙ c.rebuild.ensures.list) (rerated_fits p k rs (held_fits p b.kept c.args.places.now.levels.now held.levels b.inside)));
      fits = λ _ fits. c.rebuild.ensures.holds (subst Fits c.rebuild.ensures.list fits);
      over = λ _. c.rebuild.ensures.over;
      keeps = λ _. c.rebuild.ensures.keeps;
      lent = c.rebuild.ensures.lent;
      unchanged = tt;
    }

pub invariant_of-self : goal.invariant_of-self
invariant_of-self g c =
    let b = c.args.self.now in
    let p = listed b in
    let k = c.args.key in
    let rs = c.args.rates.now in
    let found = c.in-Some-find.ensures.place in
    let at = found_stands k c.in-Some-find.place p.contracts found in
    let within : c.in-Some-find.place < length (vec_items b.contracts) = omega (arith, at.inside, length-map (vec_items b.contracts) (entry_of b.shares.count)) in
    let are = rerated_list k b.shares.count c.in-Some-find.place (vec_items b.contracts) c.index_mut.result.now _ rs refl refl c.in-Some.ensures.1 within c.index_mut.ensures.value found in
    let own = ap distinct_keys are ∙ distinct_rerated k rs p.contracts ∙ b.own_keys in
    record { few = search rules; room = search rules; some_ceiling = search rules; low_ceiling = search rules; few_places = search rules; inside = search rules; own_keys = own }
