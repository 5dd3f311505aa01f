-- A block's type code and its bytes, without where they lie in memory.
use Rattle.std.specs.Prelude.{ℕ, List}

pub record TypedBytes : Type 0 where
  pub code : ℕ
  pub bytes : List ℕ
