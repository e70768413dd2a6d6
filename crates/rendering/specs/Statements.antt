-- What a statement is, and what is printed of it.
use Rattle.std.specs.Prelude.{ℕ, Bool, true, false, List, vec_items}
use Rattle.rendering.specs.declared.statement.Statement.{Statement}
use Rattle.rendering.specs.declared.statement.Statement.TheVariants.{Table, Refusal}

-- whether it is a table of levels
abbrev pub is_table : Statement → Bool
is_table (Table text) = true
is_table (Refusal text) = false

-- the bytes to print
abbrev pub text_of : Statement → List ℕ
text_of (Table text) = vec_items text
text_of (Refusal text) = vec_items text
