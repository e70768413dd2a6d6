-- No file is both right and wrong in form.
use Rattle.std.proofs.Common.{◌≡◌, ℕ, ◌+◌, ◌<◌, ◌≤◌, ◌⊎◌, List, [], ◌∷◌, length, get_or, drop, sym, refl, ap, ◌∙◌, subst, ⊎_elim, arith}
use Rattle.std.proofs.lemmas.Bool.{cases_order}
use Rattle.book.specs.Plain.{Entry}
use Rattle.lines.specs.declared.fault.Malformed.{Malformed}
use Rattle.tariff.specs.declared.refusal.LineFault.TheVariants.{Share, Contract}
use Rattle.tariff.specs.declared.refusal.FileFault.{FileFault}
use Rattle.tariff.specs.declared.refusal.FileFault.TheVariants.{Length, Trailer, Line, Shares, Count, Book}
use Rattle.lines.specs.declared.trailer.Trailer as trailers
use Rattle.tariff.specs.Forms.{trailer_at, body, part, LengthRight, EndsIn, SharesRight, ShareDue, NoShare, TrailerOrContract, SharesElsewhere, SharesWrong, ContractsTo, NoContract, Begins, Form, SharesFault, ContractFault, CountFault, FormWrong, RightOrWrong, ToldOnce}
use Rattle.lines.specs.Reads.{LineAt}
use Rattle.tariff.specs.Refusals.{at, telling}
use Rattle.lines.specs.Texts.{line_text}
use Rattle.lines.proofs.Standing.{stands_reads}
use Rattle.lines.proofs.Trailing.{same_trailer}
use Rattle.tariff.proofs.OneReading.{share_behind, same_shares_end, contract_behind, same_contracts_end, same_count, no_line_at_end}

-- where an S line stands neither the trailer nor a C line does
share_not_contract : (body : List ℕ) (place w : ℕ) → LineAt body place 83 (w ∷ []) → TrailerOrContract body place → ⊥
share_not_contract body place w line instead =
    ⊎_elim
    (λ (past : length body ≤ place). no_line_at_end body 83 place (w ∷ []) past line)
    (λ (early : (place < length body) × (get_or body place 0 ≡ 67)).
    let z : place + 0 ≡ place = omega arith in
    let s = stands_reads body place (line_text 83 (w ∷ [])) line.stands 0 (omega arith) in
    let e = ap (λ (k : ℕ). get_or body k 0) z in
    omega (arith, early.1))
    instead

-- S lines that are right are not wrong
module _ (body : List ℕ) (n end : ℕ) (shares : List ℕ) (right : SharesRight body n end shares) where
  due_there : (place : ℕ) (ws : List ℕ) → ShareDue body n place ws → (w : ℕ) × LineAt body place 83 (w ∷ [])
  due_there place ws due = let fewer = due.fewer in let count = right.count in share_behind body place end ws shares due.before right.lines (omega arith)

  shares_not_wrong : (e : FileFault) → SharesWrong body n end e → ⊥
  shares_not_wrong Length x = x
  shares_not_wrong (Trailer p) x = x
  shares_not_wrong (Line (Share p w)) (ws, due, other) = let line = due_there p ws due in other.none line.0 line.1
  shares_not_wrong (Line (Contract p w)) x = x
  shares_not_wrong (Shares p) (told, (ws, (place, either))) =
      ⊎_elim
      (λ (few : ShareDue body n place ws × TrailerOrContract body place). let line = due_there place ws few.0 in share_not_contract body place line.0 line.1 few.1)
      (λ (other : SharesElsewhere body n end place ws).
      other.elsewhere (same_shares_end body place end ws shares other.lines.lines right.lines (other.lines.count ∙ sym right.count)))
      either
  shares_not_wrong (Count p) x = x
  shares_not_wrong (Book f) x = x

-- where a part is C lines, no other line stands behind some of them
not_malformed : (part : List ℕ) (n place : ℕ) (es fs : List Entry) → ContractsTo part n (length part) es → ContractsTo part n place fs → place < length part →
    ((ns : List ℕ) → length ns ≡ n → LineAt part place 67 ns → ⊥) → ⊥
not_malformed part n place es fs whole front some none =
    ⊎_elim
    (λ (x : length fs ≡ length es). let end = same_contracts_end part n place (length part) fs es front whole x in omega arith)
    (⊎_elim
    (λ (x : length fs < length es). let next = contract_behind part n place (length part) fs es front whole x in none next.0 next.1 next.2)
    (λ (x : length es < length fs). let next = contract_behind part n (length part) place es fs whole front x in no_line_at_end part 67 (length part) next.0 (omega arith) next.2))
    (cases_order (length fs) (length es))

-- the trailer of four numbers
abbrev four : ℕ → ℕ → ℕ → ℕ → trailers.Trailer
four c n m q = record { ceiling = c; scenarios = n; contracts = m; place = q }

module _ (file : List ℕ) (t u : trailers.Trailer) (a : EndsIn file t) (b : EndsIn file u) where
  -- a file ends in one trailer
  pub one_trailer : t ≡ u
  one_trailer =
      let same = same_trailer (drop (trailer_at file) file) t.ceiling t.scenarios t.contracts t.place u.ceiling u.scenarios u.contracts u.place a.trailer b.trailer in
      ap (λ (c : ℕ). four c t.scenarios t.contracts t.place) same.0
      ∙ ap (λ (n : ℕ). four u.ceiling n t.contracts t.place) same.1
      ∙ ap (λ (m : ℕ). four u.ceiling u.scenarios m t.place) same.2
      ∙ ap (λ (q : ℕ). four u.ceiling u.scenarios u.contracts q) same.3

module _ (file : List ℕ) (shares : List ℕ) (entries : List Entry) where
  shares_apart : (t : trailers.Trailer) (e : FileFault) → Form file t shares entries → SharesFault file e → ⊥
  shares_apart t e form fault =
      let same = one_trailer file t fault.trailer form.whole.before.ends fault.ends in
      let right = subst (λ (u : trailers.Trailer). SharesRight (body file) u.scenarios u.place shares) same form.whole.before.lines in
      shares_not_wrong (body file) fault.trailer.scenarios fault.trailer.place shares right e fault.wrong

  contract_apart : (t : trailers.Trailer) (p : ℕ) (w : Malformed) → Form file t shares entries → ContractFault file p w → ⊥
  contract_apart t p w form fault =
      let u = fault.trailer in
      let same = one_trailer file t u form.whole.before.ends fault.before.before.ends in
      let whole = subst (λ (v : trailers.Trailer). ContractsTo (part file v) (2 + v.scenarios) (length (part file v)) entries) same form.whole.contracts in
      not_malformed (part file u) (2 + u.scenarios) fault.place entries fault.entries whole fault.before.contracts fault.wrong.some fault.wrong.none

  count_apart : (t : trailers.Trailer) (p : ℕ) → Form file t shares entries → CountFault file p → ⊥
  count_apart t p form fault =
      let u = fault.trailer in
      let same = one_trailer file t u form.whole.before.ends fault.whole.before.ends in
      let whole = subst (λ (v : trailers.Trailer). ContractsTo (part file v) (2 + v.scenarios) (length (part file v)) entries) same form.whole.contracts in
      fault.other (same_count (part file u) (2 + u.scenarios) fault.entries entries fault.whole.contracts whole ∙ form.count ∙ ap (λ (v : trailers.Trailer). v.contracts) same)

pub right_or_wrong : RightOrWrong
right_or_wrong file t shares entries Length form wrong =
    let least = form.whole.before.ends.long.least in
    let most = form.whole.before.ends.long.most in
    ⊎_elim (λ (x : length file < 18). omega arith) (λ (x : 21346 < length file). omega arith) wrong
right_or_wrong file t shares entries (Trailer p) form wrong = wrong.2 t.ceiling t.scenarios t.contracts t.place form.whole.before.ends.trailer
right_or_wrong file t shares entries (Line (Share p w)) form wrong = shares_apart file shares entries t (Line (Share p w)) form wrong
right_or_wrong file t shares entries (Line (Contract p w)) form wrong = contract_apart file shares entries t p w form wrong
right_or_wrong file t shares entries (Shares p) form wrong = shares_apart file shares entries t (Shares p) form wrong
right_or_wrong file t shares entries (Count p) form wrong = count_apart file shares entries t p form wrong
right_or_wrong file t shares entries (Book f) form wrong = wrong

-- ---- what is wrong is told once
module _ (body : List ℕ) (n end : ℕ) where
  malformed_once : (p q : ℕ) (w v : Malformed) (ws vs : List ℕ) → ShareDue body n p ws → NoShare body p w → ShareDue body n q vs → NoShare body q v → p ≡ q
  malformed_once p q w v ws vs a x b y =
      ⊎_elim
      (λ (same : length ws ≡ length vs). same_shares_end body p q ws vs a.before b.before same)
      (⊎_elim
      (λ (fewer : length ws < length vs). let line = share_behind body p q ws vs a.before b.before fewer in absurd (x.none line.0 line.1))
      (λ (more : length vs < length ws). let line = share_behind body q p vs ws b.before a.before more in absurd (y.none line.0 line.1)))
      (cases_order (length ws) (length vs))

  malformed_not_few : (p q : ℕ) (w : Malformed) (ws vs : List ℕ) → ShareDue body n p ws → NoShare body p w → ShareDue body n q vs → TrailerOrContract body q → ⊥
  malformed_not_few p q w ws vs a x b instead =
      ⊎_elim
      (λ (same : length ws ≡ length vs).
      let here = same_shares_end body p q ws vs a.before b.before same in
      let some = x.some in
      ⊎_elim
      (λ (past : length body ≤ q). omega arith)
      (λ (early : (q < length body) × (get_or body q 0 ≡ 67)). x.first (ap (λ (k : ℕ). get_or body k 0) here ∙ early.1))
      instead)
      (⊎_elim
      (λ (fewer : length ws < length vs). let line = share_behind body p q ws vs a.before b.before fewer in x.none line.0 line.1)
      (λ (more : length vs < length ws). let line = share_behind body q p vs ws b.before a.before more in share_not_contract body q line.0 line.1 instead))
      (cases_order (length ws) (length vs))

  malformed_not_shares : (p q : ℕ) (w : Malformed) → SharesWrong body n end (Line (Share p w)) → SharesWrong body n end (Shares q) → ⊥
  malformed_not_shares p q w (ws, due, other) (told, (vs, (place, either))) =
      ⊎_elim
      (λ (few : ShareDue body n place vs × TrailerOrContract body place). malformed_not_few p place w ws vs due other few.0 few.1)
      (λ (away : SharesElsewhere body n end place vs). let line = due_there body n place vs away.lines p ws due in other.none line.0 line.1)
      either

contract_once : (part : List ℕ) (n p q : ℕ) (w v : Malformed) (es fs : List Entry) → ContractsTo part n p es → NoContract part n p w → ContractsTo part n q fs → NoContract part n q v → p ≡ q
contract_once part n p q w v es fs a x b y =
    ⊎_elim
    (λ (same : length es ≡ length fs). same_contracts_end part n p q es fs a b same)
    (⊎_elim
    (λ (fewer : length es < length fs). let line = contract_behind part n p q es fs a b fewer in absurd (x.none line.0 line.1 line.2))
    (λ (more : length fs < length es). let line = contract_behind part n q p fs es b a more in absurd (y.none line.0 line.1 line.2)))
    (cases_order (length es) (length fs))

module _ (file : List ℕ) where
  length_apart : LengthRight file → (length file < 18) ⊎ (21346 < length file) → ⊥
  length_apart long wrong =
      let least = long.least in
      let most = long.most in
      ⊎_elim (λ (x : length file < 18). omega arith) (λ (x : 21346 < length file). omega arith) wrong

  -- a wrong length and a wrong trailer are told before all else
  length_else : (f : FileFault) → FormWrong file Length → FormWrong file f → telling f ≡ at 1 0
  length_else Length a b = refl
  length_else (Trailer q) a b = absurd (length_apart b.0 a)
  length_else (Line (Share q v)) a b = absurd (length_apart b.ends.long a)
  length_else (Line (Contract q v)) a b = absurd (length_apart b.before.before.ends.long a)
  length_else (Shares q) a b = absurd (length_apart b.ends.long a)
  length_else (Count q) a b = absurd (length_apart b.whole.before.ends.long a)
  length_else (Book f) a b = absurd b

  trailer_apart : (p : ℕ) (t : trailers.Trailer) → FormWrong file (Trailer p) → EndsIn file t → ⊥
  trailer_apart p t a ends = a.2 t.ceiling t.scenarios t.contracts t.place ends.trailer

  trailer_else : (p : ℕ) (f : FileFault) → FormWrong file (Trailer p) → FormWrong file f → telling f ≡ at 1 p
  trailer_else p Length a b = absurd (length_apart a.0 b)
  trailer_else p (Trailer q) a b = ap (at 1) (b.1 ∙ sym a.1)
  trailer_else p (Line (Share q v)) a b = absurd (trailer_apart p b.trailer a b.ends)
  trailer_else p (Line (Contract q v)) a b = absurd (trailer_apart p b.trailer a b.before.before.ends)
  trailer_else p (Shares q) a b = absurd (trailer_apart p b.trailer a b.ends)
  trailer_else p (Count q) a b = absurd (trailer_apart p b.trailer a b.whole.before.ends)
  trailer_else p (Book f) a b = absurd b

  -- the S lines are wrong under one trailer
  under_one : (e f : FileFault) (a : SharesFault file e) (b : SharesFault file f) → SharesWrong (body file) a.trailer.scenarios a.trailer.place f
  under_one e f a b = subst (λ (t : trailers.Trailer). SharesWrong (body file) t.scenarios t.place f) (one_trailer file b.trailer a.trailer b.ends a.ends) b.wrong

  shares_before : (e : FileFault) (t : trailers.Trailer) (shares : List ℕ) → SharesFault file e → Begins file t shares → ⊥
  shares_before e t shares fault begins =
      let right = subst (λ (u : trailers.Trailer). SharesRight (body file) u.scenarios u.place shares) (one_trailer file t fault.trailer begins.ends fault.ends) begins.lines in
      shares_not_wrong (body file) fault.trailer.scenarios fault.trailer.place shares right e fault.wrong

  malformed_place : (p q : ℕ) (w v : Malformed) → SharesFault file (Line (Share p w)) → SharesFault file (Line (Share q v)) → p ≡ q
  malformed_place p q w v a b =
      let other = under_one (Line (Share p w)) (Line (Share q v)) a b in
      malformed_once (body file) a.trailer.scenarios a.trailer.place p q w v a.wrong.0 other.0 a.wrong.1 a.wrong.2 other.1 other.2

  malformed_or_shares : (p q : ℕ) (w : Malformed) → SharesFault file (Line (Share p w)) → SharesFault file (Shares q) → ⊥
  malformed_or_shares p q w a b = malformed_not_shares (body file) a.trailer.scenarios a.trailer.place p q w a.wrong (under_one (Line (Share p w)) (Shares q) a b)

  contract_place : (p q : ℕ) (w v : Malformed) → ContractFault file p w → ContractFault file q v → p ≡ q
  contract_place p q w v a b =
      let t = a.trailer in
      let u = b.trailer in
      let same = one_trailer file u t b.before.before.ends a.before.before.ends in
      let lines = subst (λ (z : trailers.Trailer). ContractsTo (part file z) (2 + z.scenarios) b.place b.entries) same b.before.contracts in
      let wrong = subst (λ (z : trailers.Trailer). NoContract (part file z) (2 + z.scenarios) b.place v) same b.wrong in
      let here = contract_once (part file t) (2 + t.scenarios) a.place b.place w v a.entries b.entries a.before.contracts a.wrong lines wrong in
      a.told ∙ ap (λ (k : ℕ). t.place + k) here ∙ ap (λ (z : trailers.Trailer). z.place + b.place) (sym same) ∙ sym b.told

  contract_or_count : (p q : ℕ) (w : Malformed) → ContractFault file p w → CountFault file q → ⊥
  contract_or_count p q w a b =
      let t = a.trailer in
      let same = one_trailer file b.trailer t b.whole.before.ends a.before.before.ends in
      let whole = subst (λ (z : trailers.Trailer). ContractsTo (part file z) (2 + z.scenarios) (length (part file z)) b.entries) same b.whole.contracts in
      not_malformed (part file t) (2 + t.scenarios) a.place b.entries a.entries whole a.before.contracts a.wrong.some a.wrong.none

pub told_once : ToldOnce
told_once file Length f a b = sym (length_else file f a b)
told_once file (Trailer p) f a b = sym (trailer_else file p f a b)
told_once file (Line (Share p w)) Length a b = length_else file (Line (Share p w)) b a
told_once file (Line (Share p w)) (Trailer q) a b = trailer_else file q (Line (Share p w)) b a
told_once file (Line (Share p w)) (Line (Share q v)) a b = ap (at 2) (malformed_place file p q w v a b)
told_once file (Line (Share p w)) (Line (Contract q v)) a b = absurd (shares_before file (Line (Share p w)) b.trailer b.shares a b.before.before)
told_once file (Line (Share p w)) (Shares q) a b = absurd (malformed_or_shares file p q w a b)
told_once file (Line (Share p w)) (Count q) a b = absurd (shares_before file (Line (Share p w)) b.trailer b.shares a b.whole.before)
told_once file (Line (Share p w)) (Book f) a b = absurd b
told_once file (Line (Contract p w)) Length a b = length_else file (Line (Contract p w)) b a
told_once file (Line (Contract p w)) (Trailer q) a b = trailer_else file q (Line (Contract p w)) b a
told_once file (Line (Contract p w)) (Line (Share q v)) a b = absurd (shares_before file (Line (Share q v)) a.trailer a.shares b a.before.before)
told_once file (Line (Contract p w)) (Line (Contract q v)) a b = ap (at 3) (contract_place file p q w v a b)
told_once file (Line (Contract p w)) (Shares q) a b = absurd (shares_before file (Shares q) a.trailer a.shares b a.before.before)
told_once file (Line (Contract p w)) (Count q) a b = absurd (contract_or_count file p q w a b)
told_once file (Line (Contract p w)) (Book f) a b = absurd b
told_once file (Shares p) Length a b = length_else file (Shares p) b a
told_once file (Shares p) (Trailer q) a b = trailer_else file q (Shares p) b a
told_once file (Shares p) (Line (Share q v)) a b = absurd (malformed_or_shares file q p v b a)
told_once file (Shares p) (Line (Contract q v)) a b = absurd (shares_before file (Shares p) b.trailer b.shares a b.before.before)
told_once file (Shares p) (Shares q) a b = ap (at 2) (a.wrong.0 ∙ sym b.wrong.0)
told_once file (Shares p) (Count q) a b = absurd (shares_before file (Shares p) b.trailer b.shares a b.whole.before)
told_once file (Shares p) (Book f) a b = absurd b
told_once file (Count p) Length a b = length_else file (Count p) b a
told_once file (Count p) (Trailer q) a b = trailer_else file q (Count p) b a
told_once file (Count p) (Line (Share q v)) a b = absurd (shares_before file (Line (Share q v)) a.trailer a.shares b a.whole.before)
told_once file (Count p) (Line (Contract q v)) a b = absurd (contract_or_count file q p v b a)
told_once file (Count p) (Shares q) a b = absurd (shares_before file (Shares q) a.trailer a.shares b a.whole.before)
told_once file (Count p) (Count q) a b = ap (at 4) (a.told ∙ sym b.told)
told_once file (Count p) (Book f) a b = absurd b
told_once file (Book e) f a b = absurd a
