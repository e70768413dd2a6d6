use Rattle.std.proofs.Common.{◌≡◌, ℕ, List, map, length, sym, ap, ◌∙◌, subst, rules}
use Rattle.book.specs.Laid.{Lays}
use Rattle.book.specs.Entries.{entry_of}
use Rattle.book.specs.Listed.{shares_of}
use Rattle.book.specs.Plain.{Entry, Plain, opened}
use Rattle.book.specs.declared.shown.Handed.{Handed}
use Rattle.book.specs.Places.{held}
use Rattle.book.proofs.book.Book.open.Goals as goal

pub returns : goal.returns
returns g c =
    let s = c.in-Some.shares in
    let top = c.args.ceiling in
    let levels = c.begin.new.places.levels.now in
    let new = held c.begin.new.places in
    let emptied : opened (length c.args.places.now.levels.now) top (shares_of s) ≡ record { ceiling = top; shares = shares_of s; places = length levels; contracts = map (entry_of s.count) (Rattle.std.specs.Vec.vec_items c.clear.new.self) } =
    ap (λ (n : ℕ). opened n top (shares_of s)) (sym (ap (λ (h : Handed). h.levels) c.begin.ensures.lent.count))
    ∙ ap (λ (es : List Entry). record { ceiling = top; shares = shares_of s; places = length levels; contracts = es }) (sym (ap (map (entry_of s.count)) c.clear.ensures.items)) in
    record {
      declines = search rules;
      list = search rules;
      holds = λ _. subst (λ (p : Plain). Lays g.R.Reckoning.operations p 1 new) emptied (c.begin.ensures.lays top (shares_of s) s.one_each);
      keeps = search rules;
      lent = search rules;
      unchanged = search rules;
    }
