use Rattle.std.proofs.Common.{◌≡◌, ℕ, map, length, sym, refl, ap, ◌∙◌, subst}
use Rattle.book.specs.Laid.{Outside}
use Rattle.book.specs.Entries.{entry_of}
use Rattle.book.specs.Listed.{shares_of, listed}
use Rattle.book.specs.Places.{held}
use Rattle.book.proofs.book.Book.rebuild.Goals as goal

pub returns : goal.returns
returns g c =
    let b = c.args.self.now in
    let f = c.frame.result in
    let levels = c.args.places.now.levels.now in
    let old = held c.args.places.now in
    let new = held c.lay_all-self.new.places in
    let m = c.lay_all-self.result in
    let n : f.scenarios ≡ length (shares_of b.shares) = c.frame.ensures.scenarios ∙ sym b.shares.one_each in
    let q : f.places ≡ length levels = c.frame.ensures.places ∙ sym c.requires.same in
    let are : (listed b).contracts ≡ map (entry_of f.scenarios) c.as_slice-contracts.result.now =
    ap (λ (k : ℕ). map (entry_of k) (Rattle.std.specs.Vec.vec_items b.contracts)) (sym c.frame.ensures.scenarios)
    ∙ ap (map (entry_of f.scenarios)) (sym c.as_slice-contracts.ensures.value) in
    record {
      lent = c.lay_all-self.ensures.lent;
      list = refl;
      keeps = subst (λ (k : ℕ). Outside k (length levels) m old new) n (subst (λ (k : ℕ). Outside f.scenarios k m old new) q c.lay_all-self.ensures.outside);
      over = c.lay_all-self.ensures.over (listed b) c.frame.ensures.list are;
      holds = λ fits. c.lay_all-self.ensures.lays (listed b) c.frame.ensures.list are fits;
    }
