-- The volumes so far hold nothing.
use Rattle.logger_core.proofs.Emptied.{Emptying}
use Rattle.logger_core.proofs.retiring.empty_volumes.Given as goal

abbrev pub invariant-loop-number : goal.invariant-loop-number
invariant-loop-number g l = Emptying g.D.Disk l.below l.number l.fn.disk l.disk
