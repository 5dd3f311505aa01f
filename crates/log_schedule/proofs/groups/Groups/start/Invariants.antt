-- A plan for each group that the loop has passed.
use Rattle.std.proofs.Common.{◌≡◌, map, take}
use Rattle.log_schedule.specs.Instants.{timetable_from}
use Rattle.log_schedule.proofs.groups.Groups.start.Given as goal

abbrev pub invariant-loop-group : goal.invariant-loop-group
invariant-loop-group l = l.plans.items ≡ map (timetable_from l.now) (take l.group-index l.group-items)
