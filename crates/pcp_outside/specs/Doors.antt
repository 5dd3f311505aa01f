-- What comes in through a door, and what is told of it at its end.
use Rattle.std.specs.Prelude.{◌≡◌, ℕ, List, [], ◌∷◌, ◌++◌}
use Rattle.pcp_base.specs.Time.{Moment}
use Rattle.pcp_outside.specs.declared.doors.SessionEnd.{SessionEnd}

-- a connection: the bytes that come over it, and the moments that its clock has
abbrev pub Connection : Type 0
Connection = (List ℕ) × (List Moment)

-- of a connection that ended: the bytes and moments left, the bytes written, the faults of its source, sink and clock, and the end
pub record Report : Type 0 where
  pub bytes_left : List ℕ
  pub moments_left : List Moment
  pub written : List ℕ
  pub source_faults : ℕ
  pub sink_faults : ℕ
  pub clock_faults : ℕ
  pub session_end : SessionEnd

-- the first connection left is given
pub record GivesConnection (connection : Connection) (left_before left_after given_before given_after : List Connection) : Type 0 where
  pub first : left_before ≡ connection ∷ left_after
  pub given : given_after ≡ given_before ++ connection ∷ []

-- the three objects of a connection begin without a fault, the sink without a byte
pub record IsFresh (source_faults sink_faults clock_faults : ℕ) (written : List ℕ) : Type 0 where
  pub source : source_faults ≡ 0
  pub sink : sink_faults ≡ 0
  pub clock : clock_faults ≡ 0
  pub nothing_written : written ≡ []
