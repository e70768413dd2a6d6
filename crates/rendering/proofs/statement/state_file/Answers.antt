use Rattle.std.proofs.Common.{ℕ, List, ◌++◌, replicate, vec_items, Ok, Err, true, false, refl, ap, ◌∙◌, arith, sym, subst}
use Rattle.reckoning.specs.Counting.{counts}
use Rattle.book.specs.declared.shown.Handed.{Handed}
use Rattle.book.specs.Places.{Places, held, handed_of}
use Rattle.book.specs.Declines.{places_wrong}
use Rattle.book.specs.Laid.{state, Holds}
use Rattle.book.specs.Listed.{listed}
use Rattle.tariff.specs.Refusals.{telling}
use Rattle.rendering.specs.Printed.{refusal_text}
use Rattle.tariff.proofs.Declined.{whole_fits}
use Rattle.rendering.proofs.Tables.{told_taken, stated}
use Rattle.rendering.proofs.statement.state_file.Goals as goal

pub returns-in_ok-text-in-Ok-clause-stated : goal.returns-in_ok-text-in-Ok-clause-stated
returns-in_ok-text-in-Ok-clause-stated c =
    let x = state c.args.book.now (held c.args.places.now) in
    let y = state c.read.new.book (held c.read.new.places) in
    let h = handed_of (held c.args.places.now) in
    let same = c.read.ensures.lent.count in
    let seen = c.shown.ensures.value in
    let whole = c.in-Ok.ensures.reads in
    let fits = ap (λ (z : Places _). places_wrong (handed_of z) (listed c.read.new.book)) seen ∙ ap (λ (h : Handed). places_wrong h (listed c.read.new.book)) same ∙ whole_fits counts h c.args.file.now x y whole in
    stated c.args.file.now x y h (Ok c.in-Ok.field-0) true (vec_items c.in_ok-text-in-Ok.text) c.requires.places c.requires.empty whole (refl, c.in_ok-text-in-Ok.ensures.kept fits (subst (λ (z : Places _). Holds counts c.read.new.book z) (sym seen) whole.entered.holds))

pub returns-in_ok-append-in-Err : goal.returns-in_ok-append-in-Err
returns-in_ok-append-in-Err c =
    let x = state c.args.book.now (held c.args.places.now) in
    let y = state c.read.new.book (held c.read.new.places) in
    let line = refusal_text c.number.result c.place.result in
    let told = told_taken line (replicate 64 0) c.refusal_line-told.new.out c.refusal_line-told.result c.refusal_line-told.ensures.tells (c.refusal_line-told.ensures.enough (omega arith))
    (vec_items c.new-text.result) (vec_items c.append.new.text) c.in_ok-append-in-Err.ensures.appends ∙ ap (λ (text : List ℕ). text ++ line) c.new-text.ensures.items in
    record {
      told = (c.number.result, c.place.result, told);
      stated = stated c.args.file.now x y _ (Err c.in-Err.fault) false (vec_items c.append.new.text) c.requires.places c.requires.empty c.in-Err.ensures.reads (
        refl,
        told
            ∙ ap (λ (n : ℕ). refusal_text n c.place.result) c.number.ensures
            ∙ ap (refusal_text (telling c.in-Err.fault).number) c.place.ensures,
      );
    }
