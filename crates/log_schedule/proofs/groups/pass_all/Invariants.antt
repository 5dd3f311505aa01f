-- The plans before the index have passed, and the others are as they were.
use Rattle.std.proofs.Common.{◌≡◌, ℕ, ◌<◌, ◌≤◌, get_or}
use Rattle.log_schedule.specs.Instants.{Timetable, Passes}
use Rattle.log_schedule.proofs.groups.pass_all.Given as goal

abbrev pub invariant-loop-plan : goal.invariant-loop-plan
invariant-loop-plan l = record {
  passed : (k : ℕ) (d : Timetable) → k < l.plan-index → Passes l.now (get_or l.initial.plans k d) (get_or l.plans k d);
  kept : (k : ℕ) (d : Timetable) → l.plan-index ≤ k → get_or l.plans k d ≡ get_or l.initial.plans k d;
}
