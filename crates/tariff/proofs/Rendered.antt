-- A file of the right form is the one file of a list, and the one file of a list has the right form.
use Rattle.std.proofs.Common.{◌≡◌, ℕ, ◌+◌, ◌-◌, List, ◌++◌, length, take, drop, sym, refl, ap, ◌∙◌, subst, append_assoc, arith, length-append}
use Rattle.std.specs.List.{AllByRecursion}
use Rattle.std.proofs.lemmas.List.{take_all, take_at, drop_at}
use Rattle.book.specs.Plain.{Entry, Plain, size, scenarios}
use Rattle.tariff.specs.Files.{numbers_of, shares_text, contracts_text, file_text}
use Rattle.tariff.specs.Forms.{trailer_at, body, part, ContractsTo, trailer_of, FilesRight, RightAreFiles}
use Rattle.tariff.specs.Grammar.{Numbers}
use Rattle.lines.specs.Texts.{trailer_text}
use Rattle.lines.specs.Trailers.{TrailerOf}
use Rattle.tariff.proofs.Filing.{shares_end, whole_file}

pub length_trailer_text : (ceiling scenarios contracts place : ℕ) → length (trailer_text ceiling scenarios contracts place) ≡ 18
length_trailer_text ceiling scenarios contracts place = simp length-append (omega arith)

-- the three parts of the one file
module _ (p : Plain) where
  abbrev shares_part : List ℕ
  shares_part = shares_text p.shares

  abbrev contracts_part : List ℕ
  contracts_part = contracts_text p.contracts

  abbrev trailer_part : List ℕ
  trailer_part = trailer_text p.ceiling (scenarios p) (size p) (length shares_part)

  pub file_length_lem : length (file_text p) ≡ length shares_part + length contracts_part + 18
  file_length_lem =
      omega (arith, length_trailer_text p.ceiling (scenarios p) (size p) (length shares_part), length-append shares_part (contracts_part ++ trailer_part), length-append contracts_part trailer_part)

  -- the trailer begins behind the two other parts
  at_end : length (shares_part ++ contracts_part) ≡ trailer_at (file_text p)
  at_end = omega (arith, file_length_lem, length-append shares_part contracts_part)

  grouped : file_text p ≡ (shares_part ++ contracts_part) ++ trailer_part
  grouped = sym (append_assoc shares_part contracts_part trailer_part)

  body_is : body (file_text p) ≡ shares_part ++ contracts_part
  body_is = ap (take (trailer_at (file_text p))) grouped ∙ take_at (shares_part ++ contracts_part) trailer_part (trailer_at (file_text p)) at_end

  trailer_is : drop (trailer_at (file_text p)) (file_text p) ≡ trailer_part
  trailer_is = ap (drop (trailer_at (file_text p))) grouped ∙ drop_at (shares_part ++ contracts_part) trailer_part (trailer_at (file_text p)) at_end

  part_is : part (file_text p) (trailer_of p) ≡ contracts_part
  part_is =
      let k = trailer_at (file_text p) - length shares_part in
      let long : length contracts_part ≡ k = omega (arith, file_length_lem) in
      ap (take k) (drop_at shares_part (contracts_part ++ trailer_part) (length shares_part) refl) ∙ take_at contracts_part trailer_part k long

pub files_right : FilesRight
files_right p fit =
    let n = scenarios p in
    let s = shares_part p in
    let c = contracts_part p in
    let trailer : TrailerOf (trailer_part p) p.ceiling n (size p) (length s) =
    record { ceiling_fits = fit.low; scenarios_fit = fit.few_scenarios; contracts_fit = fit.few_contracts; place_fits = fit.near; text = refl } in
    let contracts : ContractsTo c (2 + n) (length c) p.contracts = record { inside = omega arith; each = fit.each; text = take_all (length c) c (omega arith) } in
    record {
      whole = record {
        before = record {
          ends = record {
            long = record { least = omega (arith, file_length_lem p); most = fit.long };
            trailer = subst (λ (bytes : List ℕ). TrailerOf bytes p.ceiling n (size p) (length s)) (sym (trailer_is p)) trailer;
          };
          lines = record {
            lines = record {
              inside = omega (arith, ap length (body_is p), length-append s c);
              small = fit.small;
              text = ap (take (length s)) (body_is p) ∙ take_at s c (length s) refl;
            };
            count = refl;
          };
        };
        contracts = subst (λ (bytes : List ℕ). ContractsTo bytes (2 + n) (length bytes) p.contracts) (sym (part_is p)) contracts;
      };
      count = refl;
    }

pub right_are_files : RightAreFiles
right_are_files file t shares entries places form =
    let lines = form.whole.before.lines in
    let trailer = form.whole.before.ends.trailer in
    let count = lines.count in
    let many = form.count in
    let end = shares_end file t shares entries form in
    let same = whole_file file t shares entries form places in
    let ceiling = trailer.ceiling_fits in
    let few = trailer.scenarios_fit in
    let most = trailer.contracts_fit in
    let near = trailer.place_fits in
    let long = form.whole.before.ends.long.most in (
      record {
        low = ceiling;
        few_scenarios = omega arith;
        few_contracts = omega arith;
        near = omega arith;
        small = lines.lines.small;
        each = subst (λ (n : ℕ). AllByRecursion (λ (e : Entry). Numbers (2 + n) (numbers_of e)) entries) (sym count) form.whole.contracts.each;
        long = omega (arith, ap length same);
      },
      same,
    )
