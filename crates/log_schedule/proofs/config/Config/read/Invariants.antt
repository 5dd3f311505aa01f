-- The bytes so far lead to the stage and to what has been found.
use Rattle.std.proofs.Common.{◌≡◌, Some, take}
use Rattle.log_schedule.specs.Scanning.{IsStage, run, at_start}
use Rattle.log_schedule.proofs.config.Config.read.Given as goal

abbrev pub invariant-loop-at : goal.invariant-loop-at
invariant-loop-at l = record {
  good : IsStage l.stage;
  leads : run at_start (take l.at l.text) ≡ Some (l.stage, l.found);
}
