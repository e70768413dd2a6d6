use Rattle.std.proofs.Common.{◌≡◌, false, take, vec_items}
use Rattle.reckoning.specs.Counting.{counts}
use Rattle.book.specs.Places.{handed_of, shown}
use Rattle.book.specs.Declines.{places_wrong}
use Rattle.book.specs.Laid.{Holds}
use Rattle.book.specs.Levels.{kept}
use Rattle.book.specs.Listed.{listed}
use Rattle.book.specs.Plain.{losses}
use Rattle.rendering.specs.Tables.{Table, levels_text}
use Rattle.rendering.proofs.statement.table.Given as goal

-- so far there are lines of levels; over places that hold the book, those of the first kept levels
abbrev pub invariant-loop-level : goal.invariant-loop-level
invariant-loop-level l = record {
  rows : Table (vec_items l.text);
  kept :
      places_wrong (handed_of (shown l.places)) (listed l.book) ≡ false → Holds counts l.book (shown l.places) →
      vec_items l.text ≡ levels_text (listed l.book) (take l.level-index (kept (listed l.book).ceiling (losses (listed l.book))));
}
