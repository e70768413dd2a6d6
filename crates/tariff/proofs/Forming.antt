-- The form of a file, put together from its parts.
use Rattle.std.proofs.Common.{◌≡◌, ℕ, ◌+◌, ◌-◌, ◌≢◌, List, ◌++◌, length, take, drop, Some, None, Err, sym, refl, ◌∙◌, subst, arith}
use Rattle.std.proofs.lemmas.List.{length-take-le, take_rest, take_at}
use Rattle.tariff.specs.declared.refusal.LineFault.{LineFault}
use Rattle.tariff.specs.declared.refusal.LineFault.TheVariants.{Share, Contract}
use Rattle.tariff.specs.declared.refusal.FileFault.{FileFault}
use Rattle.tariff.specs.declared.refusal.FileFault.TheVariants.{Length, Trailer, Line, Shares, Count, Book}
use Rattle.lines.specs.declared.trailer.Trailer as trailers
use Rattle.tariff.specs.Forms.{trailer_at, body, part, LengthRight, EndsIn, SharesRight, SharesWrong, Begins, Form, FormWrong}
use Rattle.tariff.specs.Reading.{ContractsCounted, Counts, FormedWith}
use Rattle.lines.specs.Trailers.{TrailerOf, ReadsTrailer}

pub length_body : (file : List ℕ) → length (body file) ≡ trailer_at file
length_body file = length-take-le (trailer_at file) file (omega arith)

module _ (file : List ℕ) where
  -- the trailer as a part of the file
  abbrev pub trailer_part : List ℕ
  trailer_part = take (length file - trailer_at file) (drop (trailer_at file) file)

  pub no_trailer : ReadsTrailer trailer_part None → (c n m q : ℕ) → TrailerOf (drop (trailer_at file) file) c n m q → ⊥
  no_trailer none c n m q t = none c n m q (subst (λ (bytes : List ℕ). TrailerOf bytes c n m q) (sym (take_rest file (trailer_at file))) t)

  module _ (t : trailers.Trailer) where
    pub ends_in : LengthRight file → ReadsTrailer trailer_part (Some t) → EndsIn file t
    ends_in long is = record { long = long; trailer = subst (λ (bytes : List ℕ). TrailerOf bytes t.ceiling t.scenarios t.contracts t.place) (take_rest file (trailer_at file)) is }

    module _ (ends : EndsIn file t) where
      pub shares_fault : (n : ℕ) (e : FileFault) → n ≡ t.scenarios → SharesWrong (body file) n t.place e → FormWrong file e
      shares_fault n e size wrong =
          by e (subst (λ (k : ℕ). SharesWrong (body file) k t.place e) size wrong)
        where
          by : (e : FileFault) → SharesWrong (body file) t.scenarios t.place e → FormWrong file e
          by Length x = absurd x
          by (Trailer p) x = absurd x
          by (Line (Share p w)) x = record { trailer = t; ends = ends; wrong = x }
          by (Line (Contract p w)) x = absurd x
          by (Shares p) x = record { trailer = t; ends = ends; wrong = x }
          by (Count p) x = absurd x
          by (Book f) x = absurd x

      pub begins : (n : ℕ) (shares : List ℕ) → n ≡ t.scenarios → SharesRight (body file) n t.place shares → Begins file t shares
      begins n shares size right = record {
        ends = ends;
        lines = subst (λ (k : ℕ). SharesRight (body file) k t.place shares) size right;
      }

    module _ (shares : List ℕ) (before : Begins file t shares) where
      pub contract_fault : (e : LineFault) → Counts (part file t) t.place (2 + t.scenarios) (Err e) → FormWrong file (Line e)
      contract_fault (Share p w) x = absurd x
      contract_fault (Contract p w) (entries, (place, lines, wrong, told)) =
          record { trailer = t; shares = shares; place = place; entries = entries; before = record { before = before; contracts = lines }; wrong = wrong; told = told }

      pub count_fault : (many : ℕ) → ContractsCounted (part file t) (2 + t.scenarios) (length (part file t)) many → many ≢ t.contracts → FormWrong file (Count (trailer_at file))
      count_fault many (entries, lines, count) other =
          record { trailer = t; shares = shares; entries = entries; whole = record { before = before; contracts = lines }; other = λ same. other (sym count ∙ same); told = refl }

      -- the shares stand in front of places that are not used
      pub formed : (many : ℕ) (rest : List ℕ) → ContractsCounted (part file t) (2 + t.scenarios) (length (part file t)) many → many ≡ t.contracts → FormedWith file (shares ++ rest) t
      formed many rest (entries, lines, count) same =
          let front = take_at shares rest t.scenarios before.lines.count in (
            entries,
            subst (λ (ws : List ℕ). Form file t ws entries) (sym front) (record { whole = record { before = before; contracts = lines }; count = count ∙ same }),
          )
