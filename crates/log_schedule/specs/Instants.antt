-- When a group is due (pmlogger(1)): a group with an interval at its start and then again and again,
-- one that is logged once at its start alone.
use Rattle.std.specs.Prelude.{◌≡◌, ℕ, ◌+◌, ◌*◌, ◌<◌, ◌≤◌, List, length, slice_index_or, Option, Some, None, MatchOption, unwrap_or}
use Rattle.pcp_base.specs.Time.{Moment, IsMoment, microseconds}
use Rattle.log_schedule.specs.declared.config.Group.{Group}

-- a group's start, its interval in milliseconds where it has one, and the next instant that it waits for
pub record Timetable : Type 0 where
  pub start : Moment
  pub interval : Option ℕ
  pub next : Option Moment

-- the instants are the start and, each an interval after the one before, the moments up to the last
-- that a stamp can tell
abbrev pub IsInstant : Timetable → Moment → Type 0
IsInstant t m = IsMoment m × (k : ℕ) × (microseconds m ≡ microseconds t.start + k * (unwrap_or t.interval 0 * 1000))

-- an instant after now, and not before the one that the group waited for
pub record Comes (t : Timetable) (before now m : Moment) : Type 0 where
  pub instant : IsInstant t m
  pub after : microseconds now < microseconds m
  pub not_back : microseconds before ≤ microseconds m

-- it is the least of them
pub record IsNextAfter (t : Timetable) (before now m : Moment) : Type 0 where
  pub comes : Comes t before now m
  pub least : (other : Moment) → Comes t before now other → microseconds m ≤ microseconds other

-- the next instant once now has passed: the least that comes, or none where none does
abbrev pub Follows : Timetable → Moment → Option Moment → Option Moment → Type 0
Follows t now None next = next ≡ None
Follows t now (Some before) next = MatchOption next ((other : Moment) → Comes t before now other → ⊥) (IsNextAfter t before now)

-- what a passed moment makes of a timetable
pub record Passes (now : Moment) (old new : Timetable) : Type 0 where
  pub start : new.start ≡ old.start
  pub interval : new.interval ≡ old.interval
  pub next : Follows old now old.next new.next

-- each timetable by itself
pub record EachPasses (now : Moment) (old new : List Timetable) : Type 0 where
  pub same_length : length new ≡ length old
  pub each : (k : ℕ) (d : Timetable) → k < length old → Passes now (slice_index_or old k d) (slice_index_or new k d)

-- a group is due where its next instant is not after now
abbrev pub Due : Timetable → Moment → Type 0
Due t now = (m : Moment) × (t.next ≡ Some m) × (microseconds m ≤ microseconds now)

-- the timetable of a group that starts now
abbrev pub timetable_from : Moment → Group → Timetable
timetable_from now group = record { start = now; interval = group.interval; next = Some now }
