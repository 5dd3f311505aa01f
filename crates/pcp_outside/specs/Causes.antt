-- Why a call may answer that it failed.
use Rattle.std.specs.Prelude.{◌≡◌, ◌⊎◌, ℕ, ◌<◌, ◌≤◌, min, Result, IsOk, IsErr}

-- A count of faults rose: it is greater now, or stands at 2^64 - 1, past which it can't rise.
abbrev pub Rose : ℕ → ℕ → Type 0
Rose before after = (before < after) ⊎ (18446744073709551615 ≤ after)

-- The count of faults never falls, a call that failed has raised it, and one that answers Ok has left it.
pub record HasCause {T E : Type 0} (before after : ℕ) (result : Result T E) : Type 0 where
  pub later : before ≤ after
  pub quiet : IsOk result → after ≡ before
  pub failed : IsErr result → Rose before after

-- what a count in 64 bits shows of a sum
abbrev pub shown_count : ℕ → ℕ
shown_count n = min n 18446744073709551615
