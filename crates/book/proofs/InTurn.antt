-- Contracts laid over the places in turn: what is left of them to lay.
use Rattle.std.proofs.Common.{◌≡◌, ℕ, suc, ◌+◌, ◌<◌, ◌≤◌, Bool, true, false, ltb, List, ◌∷◌, map, length, get_or, drop, MatchBool, sym, refl, ap, ◌∙◌, subst, arith, drop-cons}
use Rattle.std.proofs.lemmas.List.{drop_all}
use Rattle.reckoning.specs.Operations.{Operations}
use Rattle.book.specs.declared.contract.Contract.{Contract}
use Rattle.book.specs.Anyhow.{count_over, LaidOver}
use Rattle.book.specs.declared.frame.Frame.{Frame}
use Rattle.book.specs.Places.{Places}
use Rattle.book.specs.Laid.{Outside, Framed}
use Rattle.book.specs.Entries.{entry_of}
use Rattle.book.specs.Plain.{Entry, Plain}
use Rattle.book.specs.Rebuilt.{Begun, LaidInTurn, RebuiltOver}

-- ---- one contract
when_true : (b : Bool) (P Q : Type 0) → b ≡ true → P → MatchBool b P Q
when_true b P Q is p = subst (λ (v : Bool). MatchBool v P Q) (sym is) p

when_false : (b : Bool) (P Q : Type 0) → b ≡ false → Q → MatchBool b P Q
when_false b P Q is q = subst (λ (v : Bool). MatchBool v P Q) (sym is) q

module _ {V : Type 0} (ops : Operations V) (s ceiling p : ℕ) where
  turn_stops : (e : Entry) (es : List Entry) (len : ℕ) (x : Places V) → ltb p (count_over x.levels len ceiling e.loss) ≡ true → LaidInTurn ops s ceiling p (e ∷ es) len len x x
  turn_stops e es len x many = let same : (len ≡ len) × (x ≡ x) = (refl, refl) in when_true _ _ _ many same

  turn_goes : (e : Entry) (es : List Entry) (len m n : ℕ) (x mid new : Places V) → ltb p (count_over x.levels len ceiling e.loss) ≡ false → m ≡ count_over x.levels len ceiling e.loss →
      LaidOver ops len ceiling p e.loss e.rates x mid → Outside s p m x mid → LaidInTurn ops s ceiling p es m n mid new → LaidInTurn ops s ceiling p (e ∷ es) len n x new
  turn_goes e es len m n x mid new few is laid out rest =
      let k = count_over x.levels len ceiling e.loss in
      let goes : (mid : Places V) × LaidOver ops len ceiling p e.loss e.rates x mid × Outside s p k x mid × LaidInTurn ops s ceiling p es k n mid new =
      (mid, laid, subst (λ (j : ℕ). Outside s p j x mid) is out, subst (λ (j : ℕ). LaidInTurn ops s ceiling p es j n mid new) is rest) in
      when_false _ _ _ few goes

-- ---- the contracts from place i on
module _ {V : Type 0} (ops : Operations V) (s ceiling p : ℕ) (items : List Contract) where
  -- what is laid from here on, with len levels in x, is what was to be laid from the start
  abbrev pub GoesOn : Places V → ℕ → ℕ → Places V → Type 0
  GoesOn begun i len x =
      (n : ℕ) (new : Places V) → LaidInTurn ops s ceiling p (map (entry_of s) (drop i items)) len n x new → LaidInTurn ops s ceiling p (map (entry_of s) items) 1 n begun new

  module _ (i : ℕ) (item : Contract) (within : i < length items) (is : item ≡ get_or items i item) where
    next : drop i items ≡ item ∷ drop (i + 1) items
    next =
        let one : suc i ≡ i + 1 = omega arith in
        drop-cons items i item within ∙ ap (λ (c : Contract). c ∷ drop (suc i) items) (sym is) ∙ ap (λ (j : ℕ). item ∷ drop j items) one

    pub goes_on_more : (begun x mid : Places V) (len m : ℕ) → ltb p (count_over x.levels len ceiling item.loss.units) ≡ false → m ≡ count_over x.levels len ceiling item.loss.units →
        LaidOver ops len ceiling p item.loss.units (entry_of s item).rates x mid → Outside s p m x mid → GoesOn begun i len x → GoesOn begun (i + 1) m mid
    goes_on_more begun x mid len m few count laid out was n new rest =
        was n new (subst (λ (cs : List Contract). LaidInTurn ops s ceiling p (map (entry_of s) cs) len n x new) (sym next) (turn_goes ops s ceiling p (entry_of s item) (map (entry_of s) (drop (i + 1) items)) len m n x mid new few count laid out rest))

    pub goes_on_stops : (begun x : Places V) (len : ℕ) → ltb p (count_over x.levels len ceiling item.loss.units) ≡ true → GoesOn begun i len x → LaidInTurn ops s ceiling p (map (entry_of s) items) 1 len begun x
    goes_on_stops begun x len many was =
        was len x (subst (λ (cs : List Contract). LaidInTurn ops s ceiling p (map (entry_of s) cs) len len x x) (sym next) (turn_stops ops s ceiling p (entry_of s item) (map (entry_of s) (drop (i + 1) items)) len x many))

  pub goes_on_all : (begun x : Places V) (i len : ℕ) → length items ≤ i → GoesOn begun i len x → LaidInTurn ops s ceiling p (map (entry_of s) items) 1 len begun x
  goes_on_all begun x i len end was =
      was len x (subst (λ (cs : List Contract). LaidInTurn ops s ceiling p (map (entry_of s) cs) len len x x) (sym (drop_all i items end)) (refl, refl))

-- ---- a whole list
pub rebuilt_by_frame : {V : Type 0} (ops : Operations V) (p : Plain) (f : Frame) (items : List Contract) (q n : ℕ) (old begun new : Places V) → Framed p f → p.contracts ≡ map (entry_of f.scenarios) items → q ≡ f.places →
    Begun ops f.scenarios q old begun → LaidInTurn ops f.scenarios f.ceiling f.places (map (entry_of f.scenarios) items) 1 n begun new → RebuiltOver ops p n old new
rebuilt_by_frame ops p f items q n old begun new framed are places begins lays = record {
  begun = begun;
  begins = subst (λ (s : ℕ). Begun ops s p.places old begun) (sym framed.scenarios) (subst (λ (k : ℕ). Begun ops f.scenarios k old begun) (places ∙ sym framed.places) begins);
  lays =
      subst (λ (s : ℕ). LaidInTurn ops s p.ceiling p.places p.contracts 1 n begun new) (sym framed.scenarios)
      (subst (λ (c : ℕ). LaidInTurn ops f.scenarios c p.places p.contracts 1 n begun new) (sym framed.ceiling)
      (subst (λ (k : ℕ). LaidInTurn ops f.scenarios f.ceiling k p.contracts 1 n begun new) (sym framed.places)
      (subst (λ (es : List Entry). LaidInTurn ops f.scenarios f.ceiling f.places es 1 n begun new) (sym are) lays)));
}
