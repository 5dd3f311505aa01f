-- A time stamp of the archive and of results: seconds and microseconds since 1970.
use Rattle.std.specs.Prelude.{ℕ, ◌+◌, ◌*◌, ◌<◌}

pub record Moment : Type 0 where
  pub sec : ℕ
  pub usec : ℕ

-- seconds fit 31 bits, microseconds are below a million
pub record IsMoment (t : Moment) : Type 0 where
  pub sec : t.sec < 2147483648
  pub usec : t.usec < 1000000

-- a moment in microseconds since 1970
abbrev pub microseconds : Moment → ℕ
microseconds t = t.sec * 1000000 + t.usec
