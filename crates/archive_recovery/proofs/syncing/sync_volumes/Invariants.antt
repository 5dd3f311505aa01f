-- The volumes so far are sure.
use Rattle.archive_recovery.specs.Syncing.{Syncing}
use Rattle.archive_recovery.proofs.syncing.sync_volumes.Given as goal

abbrev pub invariant-loop-number : goal.invariant-loop-number
invariant-loop-number g l = Syncing g.D.Disk l.number l.fn.disk l.disk
