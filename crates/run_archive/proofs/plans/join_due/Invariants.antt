-- With the groups that are left all are joined.
use Rattle.std.proofs.Common.{◌≡◌, drop, fold}
use Rattle.run_archive.specs.Plans.{plans_of}
use Rattle.script_runs.specs.Groups.{asked_for, if_due}
use Rattle.run_archive.proofs.plans.join_due.Given as goal

abbrev pub invariant-loop-at : goal.invariant-loop-at
invariant-loop-at l = fold (if_due l.now) l.all (drop l.at (plans_of l.groups l.timetables l.asked)) ≡ asked_for l.now (plans_of l.groups l.timetables l.asked)
