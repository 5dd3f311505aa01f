use Rattle.std.proofs.Common.{length, ◌-◌}
use Rattle.pcp_outside.proofs.Runs.{IsWritten}
use Rattle.pcp_outside.proofs.streams.write_all.Given as goal

abbrev pub invariant-loop-done : goal.invariant-loop-done
invariant-loop-done g l = let o = g.O.Sink in IsWritten o.tells l.done l.bytes (o.written l.fn.out) (o.written l.out) (o.faults l.fn.out) (o.faults l.out)

abbrev pub decreases-loop-done : goal.decreases-loop-done
decreases-loop-done g l = length l.bytes - l.done
