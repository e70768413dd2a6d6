-- What `any` answers over a slice, as a word of specs/ says it.
use Rattle.std.proofs.Common.{◌≡◌, Bool, ◌||◌, List, Bor, Iter, refl, ◌∙◌}
use Rattle.std.proofs.iter.Yields.{fronts}
use Rattle.std.proofs.lemmas.Iterator.{YieldsList-from_slice}
use Rattle.std.proofs.lemmas.Iterator.Search.{any_from_yields_List}
use Rattle.std.proofs.lemmas.List.Recursion.{same_from_clauses}
use Rattle.std.specs.Fn.{Called}
use Rattle.std.specs.Iterator.{ChecksAny}
use Rattle.std.specs.List.{list_any}
use Rattle.std.specs.Slice.Iter.{iter_rest}
use denote.Param.Members.{Mut}
use Rattle.book.specs.Some.{some}

pub any_is_some : {A F : Type 0} {g : Mut F (Bor A × Unit {0}) Bool} {s u : Iter A} {f : F} {r : Bool} (t : A → Bool) (xs : List A) → ChecksAny fronts g s f r u → iter_rest s ≡ xs →
    ((x : Bor A) (b : Bool) (q : F) → Called g f (x, tt) b q → (q ≡ f) × (b ≡ t x.now)) → r ≡ some t xs
any_is_some {u = u} {f} {r} t xs ran e calls =
    any_from_yields_List t u f r ran (YieldsList-from_slice xs e) calls
    ∙ same_from_clauses (list_any t) (some t) (λ x b. t x || b) refl (λ _ _. refl) (λ _ _. refl) xs
