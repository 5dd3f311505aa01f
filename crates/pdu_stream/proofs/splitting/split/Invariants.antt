-- The bytes up to here are whole PDUs.
use Rattle.std.proofs.Common.{◌-◌, length}
use Rattle.pdu_stream.specs.Front.{IsCut}
use Rattle.pdu_stream.proofs.splitting.split.Given as goal

abbrev pub invariant-loop-at : goal.invariant-loop-at
invariant-loop-at l = IsCut l.bytes l.pdus l.at

abbrev pub decreases-loop-at : goal.decreases-loop-at
decreases-loop-at l = length l.bytes - l.at
