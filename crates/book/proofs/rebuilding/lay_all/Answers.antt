use Rattle.std.proofs.Common.{◌≡◌, ℕ, ◌≤◌, length, take, sym, ap, ◌∙◌, subst, arith, rules}
use Rattle.std.proofs.lemmas.List.{length-map}
use Rattle.book.specs.Laid.{Outside}
use Rattle.book.specs.Entries.{entry_of}
use Rattle.book.specs.Plain.{with_entries}
use Rattle.book.specs.Rebuilt.{RebuiltOver}
use Rattle.book.proofs.InTurn.{goes_on_more, goes_on_stops, goes_on_all, rebuilt_by_frame}
use Rattle.book.proofs.Rebuilds.{outside_more, outside_same, front_none, front_more, front_all, front_fits}
use Rattle.book.specs.Places.{Places, places_of, held}
use Rattle.book.proofs.rebuilding.lay_all.Goals as goal

pub loop-contract-init : goal.loop-contract-init
loop-contract-init g c =
    let f = c.args.frame in
    let x = held c.begin.new.places in (
      omega arith,
      omega arith,
      outside_same f.scenarios f.places 1 x,
      λ p framed are. front_none g.R.Reckoning.operations p (length c.args.places.now.levels.now) 1 x (framed.places ∙ sym c.requires.levels) (c.begin.ensures.lays p.ceiling p.shares framed.scenarios),
      λ n new laid. laid,
      search rules,
    )

pub returns-in_default : goal.returns-in_default
returns-in_default g c =
    let f = c.args.frame in
    let n = c.loop-contract.len in
    let inv = c.loop-contract.invariant in
    let old = held c.args.places.now in
    let begun = held c.begin.new.places in
    let mid = held c.loop-contract.places in
    let q : length c.args.places.now.levels.now ≡ f.places = c.requires.levels in
    let first = subst (λ (k : ℕ). Outside f.scenarios k 1 old begun) q c.begin.ensures.outside in
    record {
      lent = search rules;
      within = omega arith;
      outside = subst (λ (x : Places _). Outside f.scenarios f.places n old x) (sym c.in_default.ensures.outside) (outside_more f.scenarios f.places 1 n old begun mid inv.1 first inv.2);
      over = λ p framed are.
          subst (λ (x : Places _). RebuiltOver g.R.Reckoning.operations p n old x) (sym c.in_default.ensures.outside)
          (rebuilt_by_frame g.R.Reckoning.operations p f c.args.contracts.now (length c.args.places.now.levels.now) n old begun mid framed are q c.begin.ensures.begun
          (goes_on_stops g.R.Reckoning.operations f.scenarios f.ceiling f.places c.args.contracts.now c.loop-contract.contract-index c.contract-item.result (omega arith) c.contract-item.is begun mid n c.in_default.ensures.over inv.4));
      lays = λ p framed are fits.
          let before = with_entries p (take c.loop-contract.contract-index p.contracts) in
          absurd
          (front_fits g.R.Reckoning.operations p f.scenarios c.loop-contract.contract-index c.args.contracts.now c.contract-item.result are (omega arith) c.contract-item.is fits
          (c.in_default.ensures.lays before (record { ceiling = framed.ceiling; scenarios = framed.scenarios; places = framed.places }) (inv.3 p framed are)));
    }

pub loop-contract-preserved : goal.loop-contract-preserved
loop-contract-preserved g c =
    let f = c.args.frame in
    let ops = g.R.Reckoning.operations in
    let m = c.loop-contract.len in
    let n = c.in-Some.more in
    let inv = c.loop-contract.invariant in
    let begun = held c.begin.new.places in
    let mid = held c.loop-contract.places in
    let new = places_of c.extend.new.levels c.extend.new.bounds c.extend.new.values in
    let grows : m ≤ n = c.in-Some.ensures.grows in (
      c.in-Some.ensures.outside.0,
      omega arith,
      outside_more f.scenarios f.places m n begun mid new grows inv.2 c.in-Some.ensures.outside.1,
      λ p framed are.
          let before = with_entries p (take c.loop-contract.contract-index p.contracts) in
          front_more ops p f.scenarios c.loop-contract.contract-index c.args.contracts.now c.contract-item.result are (omega arith) c.contract-item.is n new
          (c.in-Some.ensures.lays before (record { ceiling = framed.ceiling; scenarios = framed.scenarios; places = framed.places }) (inv.3 p framed are)).1,
      goes_on_more ops f.scenarios f.ceiling f.places c.args.contracts.now c.loop-contract.contract-index c.contract-item.result (omega arith) c.contract-item.is begun mid new m n
          c.in-Some.ensures.over.0 c.in-Some.ensures.over.1 c.in-Some.ensures.over.2 c.in-Some.ensures.outside.1 inv.4,
      search rules,
    )

pub returns : goal.returns
returns g c =
    let f = c.args.frame in
    let n = c.loop-contract.len in
    let inv = c.loop-contract.invariant in
    let old = held c.args.places.now in
    let begun = held c.begin.new.places in
    let new = held c.loop-contract.places in
    let q : length c.args.places.now.levels.now ≡ f.places = c.requires.levels in
    let first = subst (λ (k : ℕ). Outside f.scenarios k 1 old begun) q c.begin.ensures.outside in
    record {
      lent = search rules;
      within = omega arith;
      outside = outside_more f.scenarios f.places 1 n old begun new inv.1 first inv.2;
      over = λ p framed are.
          rebuilt_by_frame g.R.Reckoning.operations p f c.args.contracts.now (length c.args.places.now.levels.now) n old begun new framed are q c.begin.ensures.begun
          (goes_on_all g.R.Reckoning.operations f.scenarios f.ceiling f.places c.args.contracts.now begun new c.loop-contract.contract-index n (omega arith) inv.4);
      lays = λ p framed are fits.
          front_all g.R.Reckoning.operations p c.loop-contract.contract-index n new (omega (arith, ap length are, length-map c.args.contracts.now (entry_of f.scenarios))) (inv.3 p framed are);
    }
