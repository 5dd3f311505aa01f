use Rattle.run_passes.proofs.Idling.{IdleSoFar}
use Rattle.run_passes.proofs.running.Running.is_idle.Given as goal

abbrev pub invariant-loop-region : goal.invariant-loop-region
invariant-loop-region l = IdleSoFar l.script l.server l.self l.region
