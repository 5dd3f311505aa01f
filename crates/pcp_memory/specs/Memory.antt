-- What the objects in memory hold.
use Rattle.std.specs.Prelude.{ℕ, List, Bool, ◌==◌}
use Rattle.std.specs.List.{list_any}
use Rattle.pcp_base.specs.Time.{Moment}
use Rattle.pcp_outside.specs.Doors.{Connection, Report}

-- a source: the bytes left, the numbers of the calls that are to fail, how many calls there were, and its faults
pub record SourceState : Type 0 where
  pub left : List ℕ
  pub fails : List ℕ
  pub asked : ℕ
  pub faults : ℕ

-- a sink: the bytes written, the numbers of the calls that are to fail, how many calls there were, and its faults
pub record SinkState : Type 0 where
  pub written : List ℕ
  pub fails : List ℕ
  pub asked : ℕ
  pub faults : ℕ

-- a clock in memory: the moments left, the numbers of the calls that are to fail, how many calls there were, and its faults
pub record ClockState : Type 0 where
  pub left : List Moment
  pub fails : List ℕ
  pub asked : ℕ
  pub faults : ℕ

-- a door in memory: the connections left and those given, the reports, the numbers of the calls of `next` that are to
-- fail, how many of these calls there were, and its faults
pub record DoorState : Type 0 where
  pub left : List Connection
  pub given : List Connection
  pub reports : List Report
  pub fails : List ℕ
  pub asked : ℕ
  pub faults : ℕ

-- whether a call with this number is to fail
abbrev pub is_listed : List ℕ → ℕ → Bool
is_listed fails number = list_any (λ n. n == number) fails
