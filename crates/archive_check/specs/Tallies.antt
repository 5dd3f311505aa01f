-- What is kept of records' stamps.
use Rattle.std.specs.Prelude.{◌≡◌, ℕ, ◌<◌, ◌≤◌, List, [], ◌∷◌, ◌++◌, length, max, Option, Some, None, nat_lt, if◌then◌else◌}
use Rattle.pcp_base.specs.Time.{Moment, microseconds}
use Rattle.pcp_outside.specs.Causes.{shown_count}
use Rattle.archive_check.specs.declared.tally.Tally.{Tally}
use Rattle.archive_check.specs.Stamped.{all_of}

-- no stamp is before the one in front of it
abbrev pub Climbs : List Moment → Type 0
Climbs [] = Unit {0}
Climbs (s ∷ []) = Unit {0}
Climbs (s ∷ t ∷ moments) = (microseconds s ≤ microseconds t) × Climbs (t ∷ moments)

abbrev pub LastIs : List Moment → Option Moment → Type 0
LastIs moments None = moments ≡ []
LastIs moments (Some t) = (front : List Moment) × (moments ≡ front ++ t ∷ [])

-- the first that is
pub record FirstFall (moments : List Moment) (fall : Moment × Moment) : Type 0 where
  pub front : List Moment
  pub behind : List Moment
  pub are : moments ≡ front ++ fall.0 ∷ fall.1 ∷ behind
  pub good : Climbs (front ++ fall.0 ∷ [])
  pub falls : microseconds fall.1 < microseconds fall.0

abbrev pub FallSays : List Moment → Option Moment → Option (Moment × Moment) → Type 0
FallSays moments last None = Climbs moments × LastIs moments last
FallSays moments last (Some fall) = FirstFall moments fall

-- a stamp behind the last one is before it, or it isn't
abbrev pub FallsBehind : Option Moment → Moment → Option (Moment × Moment) → Type 0
FallsBehind last stamp None = (t : Moment) → last ≡ Some t → microseconds t ≤ microseconds stamp
FallsBehind last stamp (Some fall) = (last ≡ Some fall.0) × (fall.1 ≡ stamp) × (microseconds fall.1 < microseconds fall.0)

abbrev pub FallsBy : Option (Moment × Moment) → Option Moment → Moment → Option (Moment × Moment) → Type 0
FallsBy (Some fall) last stamp found = found ≡ Some fall
FallsBy None last stamp found = FallsBehind last stamp found

-- the latest time, or 0
abbrev pub time_with : ℕ → Moment → ℕ
time_with time stamp = if nat_lt time (microseconds stamp) then microseconds stamp else time

abbrev pub latest : List Moment → ℕ
latest [] = 0
latest (s ∷ moments) = max (microseconds s) (latest moments)

pub record IsTally (records : List (List Moment)) (t : Tally) : Type 0 where
  pub count_is : t.count ≡ shown_count (length records)
  pub time_is : t.time ≡ latest (all_of records)
  pub fall_is : FallSays (all_of records) t.last t.fall
