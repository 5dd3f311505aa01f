use Rattle.std.proofs.Common.{◌+◌, ◌-◌, vec_len}
use Rattle.pcp_outside.proofs.Runs.{IsTaken}
use Rattle.pcp_outside.proofs.streams.read_to_limit.Given as goal

abbrev pub invariant-loop-buffer : goal.invariant-loop-buffer
invariant-loop-buffer g l = let i = g.I.Source in IsTaken i.tells l.limit l.bytes.items (i.left l.fn.input) (i.left l.input) (i.faults l.fn.input) (i.faults l.input)

abbrev pub decreases-loop-buffer : goal.decreases-loop-buffer
decreases-loop-buffer g l = l.limit + 1 - vec_len l.bytes
