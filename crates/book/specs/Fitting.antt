-- Lists that the level places have room for.
use Rattle.std.specs.Prelude.{◌≤◌, length}
use Rattle.book.specs.Levels.{kept}
use Rattle.book.specs.Plain.{Plain, losses}

-- no more levels are kept than there are places
abbrev pub Fits : Plain → Type 0
Fits p = length (kept p.ceiling (losses p)) ≤ p.places
