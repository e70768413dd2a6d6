-- Where a text stands in bytes, and what bytes hold after a text is put into them.
use Rattle.std.specs.Prelude.{◌≡◌, ℕ, ◌+◌, List, ◌++◌, length, take, drop}

-- the bytes have the text at a place
abbrev pub Stands : List ℕ → ℕ → List ℕ → Type 0
Stands bytes place text = take (length text) (drop place bytes) ≡ text

-- the bytes after a text is put over them from a place on
abbrev pub written : List ℕ → ℕ → List ℕ → List ℕ
written bytes place text = take place bytes ++ (text ++ drop (place + length text) bytes)
