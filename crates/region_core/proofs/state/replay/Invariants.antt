use Rattle.region_core.specs.State.{opening}
use Rattle.region_core.proofs.Running.{Ran}
use Rattle.region_core.proofs.state.replay.Given as goal

abbrev pub invariant-loop-position : goal.invariant-loop-position
invariant-loop-position l = Ran (opening l.words l.passes) l.log l.position l.state
