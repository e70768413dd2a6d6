-- What the answers tell in short: a number, and a place that lies within the file.
use Rattle.std.proofs.Common.{ℕ, ◌+◌, ◌<◌, ◌≤◌, List, length, arith}
use Rattle.book.specs.Plain.{Entry}
use Rattle.lines.specs.declared.trailer.Trailer as trailers
use Rattle.tariff.specs.Files.{numbers_of}
use Rattle.tariff.specs.Forms.{part}
use Rattle.tariff.specs.Grammar.{LinesFrom}
use Rattle.tariff.specs.Reading.{LineOf, Formed, FormedWith}
use Rattle.lines.proofs.Lines.{length_line_text}
use Rattle.tariff.proofs.Filing.{lines_from_contracts, place_inside}

-- where the C line of a contract stands, the walk goes on behind it
pub walks_on : (part : List ℕ) (n place next : ℕ) (e : Entry) → LineOf part n place next e → (place < next) × (next ≤ length part) × LinesFrom part next 67 n
walks_on part n place next e line = let end = line.end in let long = length_line_text 67 (numbers_of e) in (omega arith, line.inside, line.rest)

-- what the form tells in short
pub form_told : (file shares : List ℕ) (t : trailers.Trailer) → FormedWith file shares t → Formed file t
form_told file shares t (entries, form) =
    let ends = form.whole.before.ends in
    let fit = ends.trailer.scenarios_fit in
    record {
      least = ends.long.least;
      most = ends.long.most;
      few = omega arith;
      inside = place_inside file t _ entries form;
      contracts = lines_from_contracts (part file t) (2 + t.scenarios) entries form.whole.contracts;
    }
