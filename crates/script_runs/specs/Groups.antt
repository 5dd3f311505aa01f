-- What the groups of a configuration ask for at a tick (pmlogger(1)). A group keeps the metrics that it has asked for, in the
-- order in which they were first found.
use Rattle.std.specs.Prelude.{ℕ, ◌==◌, Bool, false, nat_le, nat_lt, if◌then◌else◌, List, [], ◌∷◌, ◌++◌, map, fold, flat_map, Option, Some, None}
use Rattle.std.specs.List.{list_any}
use Rattle.pcp_base.specs.Time.{Moment, microseconds}
use Rattle.pmns_core.specs.Pairs.{Pair}
use Rattle.pmns_core.specs.Below.{below}
use Rattle.fetch_answers.specs.declared.shot.Shot.{Shot}
use Rattle.log_schedule.specs.declared.config.Group.{Group}
use Rattle.log_schedule.specs.Instants.{Timetable, timetable_from}
use Rattle.region_core.specs.State.{g1, g2}
use Rattle.script_runs.specs.Regions.{ScriptRegion}

-- What the logger reads of a region: its words, where the two generations agree, else it is missed.
abbrev pub shot_of : ScriptRegion → Shot
shot_of r = record { file = r.file; cluster = r.cluster; image = if g1 r.state == g2 r.state then Some r.state.words else None }

-- regions are served by rising cluster
abbrev pub with_shot : Shot → List Shot → List Shot
with_shot shot [] = shot ∷ []
with_shot shot (other ∷ others) = if nat_lt shot.cluster other.cluster then shot ∷ other ∷ others else other ∷ with_shot shot others

abbrev pub shots_of : List ScriptRegion → List Shot
shots_of [] = []
shots_of (r ∷ rs) = with_shot (shot_of r) (shots_of rs)

-- the metrics to which a name leads, in the byte order of their names
abbrev pub metrics_below : List Pair → List ℕ → List ℕ
metrics_below names name = map (λ pair. pair.1) (below names name)

abbrev pub metrics_of : List Pair → Group → List ℕ
metrics_of names group = flat_map (metrics_below names) group.names

-- metrics with another, if it isn't among them
abbrev pub with_metric : List ℕ → ℕ → List ℕ
with_metric pmids pmid = if list_any (λ other. other == pmid) pmids then pmids else pmids ++ pmid ∷ []

abbrev pub with_metrics : List ℕ → List ℕ → List ℕ
with_metrics pmids more = fold with_metric pmids more

-- a group is due where its next instant is not after the moment
abbrev pub is_not_after : Option Moment → Moment → Bool
is_not_after None now = false
is_not_after (Some next) now = nat_le (microseconds next) (microseconds now)

-- a group as a run keeps it: when it is due, and which metrics it has asked for
pub record Plan : Type 0 where
  pub group : Group
  pub timetable : Timetable
  pub asked : List ℕ

-- the groups start at the first tick
abbrev pub plans_at_start : List Group → Moment → List Plan
plans_at_start groups now = map (λ group. record { group = group; timetable = timetable_from now group; asked = [] }) groups

-- each group that is due adds the metrics to which its names lead now
abbrev pub asks_more : List Pair → Plan → Plan
asks_more names plan = record plan { asked = with_metrics plan.asked (metrics_of names plan.group) }

abbrev pub is_due : Moment → Plan → Bool
is_due now plan = is_not_after plan.timetable.next now

abbrev pub asking : List Pair → Moment → List Plan → List Plan
asking names now plans = map (λ plan. if is_due now plan then asks_more names plan else plan) plans

-- the metrics of all groups that are due, each once
abbrev pub if_due : Moment → List ℕ → Plan → List ℕ
if_due now pmids plan = if is_due now plan then with_metrics pmids plan.asked else pmids

abbrev pub asked_for : Moment → List Plan → List ℕ
asked_for now plans = fold (if_due now) [] plans
