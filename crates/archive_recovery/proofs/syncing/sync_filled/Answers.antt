-- The file's length is looked at, and the file synced.
use Rattle.archive_recovery.proofs.Sures.{looked, looked_synced}
use Rattle.archive_recovery.proofs.syncing.sync_filled.Goals as goal

pub returns-in_err-length-clause-any_moment : goal.returns-in_err-length-clause-any_moment
returns-in_err-length-clause-any_moment g c = λ tells. looked g.D.Disk g.met.D.Disk.only_now c.args.disk.now c.len.new.self (c.len.ensures.held tells) c.len.ensures.time

pub returns-then-length-eq0-clause-any_moment : goal.returns-then-length-eq0-clause-any_moment
returns-then-length-eq0-clause-any_moment g c = λ tells. looked g.D.Disk g.met.D.Disk.only_now c.args.disk.now c.len.new.self (c.len.ensures.held tells) c.len.ensures.time

pub returns-clause-any_moment : goal.returns-clause-any_moment
returns-clause-any_moment g c = λ tells.
    looked_synced g.D.Disk g.met.D.Disk.only_now c.args.disk.now c.len.new.self c.sync.new.self c.args.file c.sync.result (c.len.ensures.held tells) c.len.ensures.time c.sync.ensures.time (c.sync.ensures.held tells)
