-- Groups, their timetables and the metrics that they have asked for, as plans.
use Rattle.std.specs.Prelude.{◌≡◌, ℕ, ◌<◌, List, [], ◌∷◌, length}
use Rattle.log_schedule.specs.declared.config.Group.{Group}
use Rattle.log_schedule.specs.Instants.{Timetable}
use Rattle.script_runs.specs.Groups.{Plan}

abbrev pub plans_of : List Group → List Timetable → List (List ℕ) → List Plan
plans_of [] timetables asked = []
plans_of (group ∷ groups) [] asked = []
plans_of (group ∷ groups) (timetable ∷ timetables) [] = []
plans_of (group ∷ groups) (timetable ∷ timetables) (pmids ∷ asked) =
    record { group = group; timetable = timetable; asked = pmids } ∷ plans_of groups timetables asked

-- each group has its timetable and its metrics, and its position is a number of 32 bits
pub record AreBeside (groups : List Group) (timetables : List Timetable) (asked : List (List ℕ)) : Type 0 where
  pub timed : length timetables ≡ length groups
  pub kept : length asked ≡ length groups
  pub few : length groups < 4294967296
