-- What a region is told at its making.
use Rattle.std.specs.Prelude.{ℕ, List}

-- its words, up to the capacity, and how many passes it has
pub record Told : Type 0 where
  pub words : List ℕ
  pub passes : ℕ
