use Rattle.std.proofs.Common.{◌≡◌, ℕ, true, false, List, [], ◌∷◌, ◌++◌, map, length, Some, None, vec_items, Option, sym, refl, ap, ◌∙◌, subst, arith, rules}
use Rattle.std.proofs.lemmas.List.{map_push}
use Rattle.std.proofs.lemmas.Result.{err_from_is_err_and}
use Rattle.book.specs.Declines.{too_many_levels, enter_early}
use Rattle.book.specs.Laid.{Outside, Lays}
use Rattle.book.specs.Entries.{entry_of}
use Rattle.book.specs.Listed.{shares_of, listed}
use Rattle.book.specs.Plain.{Entry, Plain, holds_key, distinct_keys, with_entry}
use Rattle.book.specs.Refusals.{first, number_of, FreeOf}
use Rattle.book.proofs.Keys.{distinct_push}
use Rattle.book.proofs.Firsts.{first_early, first_late, first_one}
use Rattle.book.proofs.Overlays.{Over, over_accepted, over_refused, over_declined, over_same}
use Rattle.book.specs.declared.shown.Handed.{Handed}
use Rattle.book.specs.Places.{places_of, handed_of, held}
use Rattle.book.proofs.book.Book.enter.Goals as goal

pub invariant_of-self : goal.invariant_of-self
invariant_of-self g c =
    let b = c.args.self.now in
    let f = entry_of b.shares.count in
    let contract = c.in_ok-contract.contract in
    let admitted = c.in_ok-contract.ensures.admitted in
    let appended : map f (vec_items c.push_reserved.new.self) ≡ map f (vec_items b.contracts) ++ (f contract ∷ []) = ap (map f) c.push_reserved.ensures.items ∙ map_push f (vec_items b.contracts) contract in
    let absent : holds_key (f contract).key (map f (vec_items b.contracts)) ≡ false = ap (λ (e : Entry). holds_key e.key (map f (vec_items b.contracts))) admitted.0 ∙ admitted.3 in
    let own = ap distinct_keys appended ∙ distinct_push (map f (vec_items b.contracts)) (f contract) b.own_keys absent in
    record { few = search rules; room = search rules; some_ceiling = search rules; low_ceiling = search rules; few_places = search rules; inside = search rules; own_keys = own }

pub returns : goal.returns
returns g c =
    let b = c.args.self.now in
    let p = listed b in
    let ops = g.R.Reckoning.operations in
    let f = entry_of b.shares.count in
    let items = vec_items b.contracts in
    let contract = c.in_ok-contract.contract in
    let admitted = c.in_ok-contract.ensures.admitted in
    let levels = c.args.places.now.levels.now in
    let n : c.frame.result.scenarios ≡ length (shares_of b.shares) = c.frame.ensures.scenarios ∙ sym b.shares.one_each in
    let q : c.frame.result.places ≡ length levels = search rules in
    let old = held c.args.places.now in
    let new = places_of c.extend.new.levels c.extend.new.bounds c.extend.new.values in
    let early = enter_early (handed_of (held c.args.places.now)) p c.args.key c.args.loss c.args.rates.now in
    let appended : map f (vec_items c.push_reserved.new.self) ≡ p.contracts ++ (f contract ∷ []) = ap (map f) c.push_reserved.ensures.items ∙ map_push f items contract in
    let same : with_entry p (entry_of c.frame.result.scenarios contract) ≡ record { ceiling = b.ceiling; shares = shares_of b.shares; places = b.places; contracts = map f (vec_items c.push_reserved.new.self) } =
    ap (λ (k : ℕ). with_entry p (entry_of k contract)) c.frame.ensures.scenarios
    ∙ ap (λ (es : List Entry). record { ceiling = b.ceiling; shares = shares_of b.shares; places = b.places; contracts = es }) (sym appended) in
    record {
      declines = search rules;
      list = λ _.
          ap (λ (es : List Entry). record { ceiling = b.ceiling; shares = shares_of b.shares; places = b.places; contracts = es })
          (appended ∙ ap (λ (e : Entry). map f items ++ (e ∷ [])) admitted.0);
      holds = λ held.
          let laid = c.in-Some.ensures.lays p c.frame.ensures.list (subst (λ (k : ℕ). Lays ops p k old) (sym c.frame.ensures.len) held) in
          let few : too_many_levels p c.args.loss ≡ false = ap (λ (e : Entry). too_many_levels p e.loss) (sym admitted.0) ∙ laid.0 in
          record {
            answer = sym (first_late early ((13, too_many_levels p c.args.loss) ∷ []) (sym (subst (λ (h : Handed). ◌≡◌ {A = Option ℕ} None (first (enter_early h p c.args.key c.args.loss c.args.rates.now))) c.handed.ensures.value c.in_ok-contract.ensures.declines)) ∙ first_one 13 (too_many_levels p c.args.loss) false few);
            again = λ _. subst (λ (p : Plain). Lays ops p c.in-Some.kept new) same laid.1;
          };
      over = over_accepted ops b _ c.args.loss c.args.rates.now (first early) old new c.in-Some.kept refl
          (over_same (Over ops b b c.args.loss c.args.rates.now (first early) old new (Some c.in-Some.kept)) _ _ _ _ _ _ _ _ _ _
          c.frame.ensures.len c.frame.ensures.ceiling c.frame.ensures.places (ap (λ (e : Entry). e.loss) admitted.0) (ap (λ (k : ℕ). (entry_of k contract).rates) c.frame.ensures.scenarios ∙ ap (λ (e : Entry). e.rates) admitted.0) c.in-Some.ensures.over);
      keeps = λ _.
          subst (λ (k : ℕ). Outside k (length levels) c.in-Some.kept old new) n
          (subst (λ (k : ℕ). Outside c.frame.result.scenarios k c.in-Some.kept old new) q c.in-Some.ensures.outside.1);
      lent = search rules;
      unchanged = search rules;
    }

pub returns-in_default : goal.returns-in_default
returns-in_default g c =
    let b = c.args.self.now in
    let p = listed b in
    let ops = g.R.Reckoning.operations in
    let contract = c.in_ok-contract.contract in
    let admitted = c.in_ok-contract.ensures.admitted in
    let levels = c.args.places.now.levels.now in
    let old = held c.args.places.now in
    let new = places_of c.extend.new.levels c.extend.new.bounds c.extend.new.values in
    let early = enter_early (handed_of (held c.args.places.now)) p c.args.key c.args.loss c.args.rates.now in
    record {
      declines = search rules;
      list = search rules;
      holds = λ held.
          let laid = c.in_default.ensures.lays p c.frame.ensures.list (subst (λ (k : ℕ). Lays ops p k old) (sym c.frame.ensures.len) held) in
          let many : too_many_levels p c.args.loss ≡ true = ap (λ (e : Entry). too_many_levels p e.loss) (sym admitted.0) ∙ laid in
          record {
            answer = sym (first_late early ((13, too_many_levels p c.args.loss) ∷ []) (sym (subst (λ (h : Handed). ◌≡◌ {A = Option ℕ} None (first (enter_early h p c.args.key c.args.loss c.args.rates.now))) c.handed.ensures.value c.in_ok-contract.ensures.declines)) ∙ first_one 13 (too_many_levels p c.args.loss) true many);
            again = search rules;
          };
      over = over_refused ops b b c.args.loss c.args.rates.now (first early) old new
          (over_same (Over ops b b c.args.loss c.args.rates.now (first early) old new None) _ _ _ _ _ _ _ _ _ _
          c.frame.ensures.len c.frame.ensures.ceiling c.frame.ensures.places (ap (λ (e : Entry). e.loss) admitted.0) (ap (λ (k : ℕ). (entry_of k contract).rates) c.frame.ensures.scenarios ∙ ap (λ (e : Entry). e.rates) admitted.0) c.in_default.ensures.over);
      keeps = search rules;
      lent = search rules;
      unchanged = search rules;
    }

pub returns-in_err-contract : goal.returns-in_err-contract
returns-in_err-contract g c =
    let b = c.args.self.now in
    let p = listed b in
    let early = enter_early (handed_of (held c.args.places.now)) p c.args.key c.args.loss c.args.rates.now in
    let r = err_from_is_err_and c.from_residual.result c.from_residual.ensures.1 in
    let n = number_of c.in_err-contract.field-0.0 in
    let is : first early ≡ Some n = sym (subst (λ (h : Handed). Some n ≡ first (enter_early h p c.args.key c.args.loss c.args.rates.now)) c.handed.ensures.value (c.in_err-contract.ensures.declines)) in
    rw (r.1, r.2)
    (record {
      declines = subst (λ (e : Option ℕ). FreeOf 13 e (Some n)) (sym is) refl;
      list = λ e. let z : ◌≡◌ {A = ℕ} 0 1 = cc in absurd (omega arith);
      holds = λ held.
          record {
            answer = sym (first_early early ((13, too_many_levels p c.args.loss) ∷ []) n is);
            again = λ e. let z : ◌≡◌ {A = ℕ} 0 1 = cc in absurd (omega arith);
          };
      over = over_declined g.R.Reckoning.operations b _ c.args.loss c.args.rates.now (first early) _ _ _ n is refl;
      keeps = λ e. let z : ◌≡◌ {A = ℕ} 0 1 = cc in absurd (omega arith);
      lent = search rules;
      unchanged = refl;
    })
