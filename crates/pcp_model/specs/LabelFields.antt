-- What a label says, without where it lies in memory.
use Rattle.std.specs.Prelude.{ℕ, ◌≤◌, List, length}
use Rattle.pcp_base.specs.Time.{Moment}

-- the logger's process number, the archive's start, and the host and time zone that it was written for
pub record LabelFields : Type 0 where
  pub pid : ℕ
  pub start : Moment
  pub host : List ℕ
  pub zone : List ℕ

-- with their zero bytes the texts fit 64 and 40 bytes
pub record FitsLabel (label : LabelFields) : Type 0 where
  pub host : length label.host ≤ 63
  pub zone : length label.zone ≤ 39
