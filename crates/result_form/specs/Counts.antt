-- What stands behind a set's metric (pmFetch(3)).
use Rattle.std.specs.Prelude.{ℕ, ℤ}

-- pairs: the byte where they begin, and how many there are
pub record Run : Type 0 where
  pub from : ℕ
  pub count : ℕ

-- the status of a set without values, or its pairs, with values in place or in blocks
pub data Counted : Type 0 where
  Status : ℤ → Counted
  InPlace : Run → Counted
  Blocks : Run → Counted
