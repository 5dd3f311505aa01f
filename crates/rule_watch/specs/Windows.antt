-- A window: the last values of a stream, at most so many, from the oldest to the newest.
use Rattle.std.specs.Prelude.{ℕ, ℤ, pos, neg_ℤ, ◌≤ℤ◌, ◌-◌, List, length, drop}
use Rattle.rule_watch.specs.declared.aggregate.Aggregate.{Aggregate}

-- the last of a list, at most so many
abbrev pub last : {X : Type 0} → ℕ → List X → List X
last n xs = drop (length xs - n) xs

-- a number of 64 bits, with its sign or without one
pub record IsValue (x : ℤ) : Type 0 where
  pub low : neg_ℤ (pos 9223372036854775808) ≤ℤ x
  pub high : x ≤ℤ pos 18446744073709551615

-- what is told of a stream, how many of its values, and these
pub record Recent : Type 0 where
  pub aggregate : Aggregate
  pub size : ℕ
  pub values : List ℤ
