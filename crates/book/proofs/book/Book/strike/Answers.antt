use Rattle.std.proofs.Common.{◌≡◌, true, false, List, map, vec_items, sym, ap, ◌∙◌, subst, rules}
use Rattle.book.specs.Fitting.{Fits}
use Rattle.book.specs.Entries.{entry_of}
use Rattle.book.specs.Listed.{listed}
use Rattle.book.specs.Plain.{Entry, holds_key, distinct_keys, without, with_entries}
use Rattle.book.proofs.Finds.{absent, found_stands, struck_list}
use Rattle.book.proofs.Keys.{distinct_without}
use Rattle.book.proofs.Rebuilds.{held_fits, struck_fits}
use Rattle.book.proofs.book.Book.strike.Goals as goal

pub returns-in_default : goal.returns-in_default
returns-in_default g c =
    let none : holds_key c.args.key (listed c.args.self.now).contracts ≡ false = absent c.args.key (listed c.args.self.now).contracts c.in_default.ensures.place in
    record {
      declines = search rules;
      list = search rules;
      holds = search rules;
      fits = search rules;
      over = search rules;
      keeps = search rules;
      lent = search rules;
      unchanged = search rules;
    }

pub returns : goal.returns
returns g c =
    let b = c.args.self.now in
    let p = listed b in
    let k = c.args.key in
    let found = c.in-Some.ensures.place in
    let some : holds_key k p.contracts ≡ true = (found_stands k c.in-Some.place p.contracts found).held in
    let are : map (entry_of b.shares.count) (vec_items c.remove.new.self) ≡ without k p.contracts =
    struck_list k b.shares.count c.in-Some.place (vec_items b.contracts) (vec_items c.remove.new.self) c.remove.ensures.items found in
    record {
      declines = search rules;
      list = λ _. c.rebuild.ensures.list ∙ ap (with_entries p) are;
      holds = λ held _.
          c.rebuild.ensures.holds (subst (λ (es : List Entry). Fits (with_entries p es)) (sym are) (struck_fits p k (held_fits p b.kept c.args.places.now.levels.now held.levels b.inside)));
      fits = λ _ fits. c.rebuild.ensures.holds (subst Fits c.rebuild.ensures.list fits);
      over = λ _. c.rebuild.ensures.over;
      keeps = λ _. c.rebuild.ensures.keeps;
      lent = c.rebuild.ensures.lent;
      unchanged = tt;
    }

pub invariant_of-self : goal.invariant_of-self
invariant_of-self g c =
    let b = c.args.self.now in
    let k = c.args.key in
    let are = struck_list k b.shares.count c.in-Some.place (vec_items b.contracts) (vec_items c.remove.new.self) c.remove.ensures.items c.in-Some.ensures.place in
    let own = ap distinct_keys are ∙ distinct_without k (listed b).contracts b.own_keys in
    record { few = search rules; room = search rules; some_ceiling = search rules; low_ceiling = search rules; few_places = search rules; inside = search rules; own_keys = own }
