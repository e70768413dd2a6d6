-- The operations of a reckoning, as functions of its values.
use Rattle.std.specs.Prelude.{ℕ}

pub record Operations (V : Type 0) : Type 0 where
  pub nothing : V
  pub whole : V
  pub blended : ℕ → V → V → V
