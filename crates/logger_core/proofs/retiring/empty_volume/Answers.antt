-- The volume's length is looked at, and the volume cut.
use Rattle.logger_core.proofs.Emptied.{cut_after, looked_at}
use Rattle.logger_core.proofs.retiring.empty_volume.Goals as goal

pub returns-in_err-length-clause-any_moment : goal.returns-in_err-length-clause-any_moment
returns-in_err-length-clause-any_moment g c = λ tells. looked_at g.D.Disk g.met.D.Disk.only_now c.args.number c.args.disk.now c.len.new.self (c.len.ensures.held tells) c.len.ensures.time

pub returns-then-length-eq0-clause-any_moment : goal.returns-then-length-eq0-clause-any_moment
returns-then-length-eq0-clause-any_moment g c = λ tells. looked_at g.D.Disk g.met.D.Disk.only_now c.args.number c.args.disk.now c.len.new.self (c.len.ensures.held tells) c.len.ensures.time

pub returns-clause-any_moment : goal.returns-clause-any_moment
returns-clause-any_moment g c = λ tells.
    cut_after g.D.Disk g.met.D.Disk.only_now c.args.number c.args.disk.now c.len.new.self c.cut.new.self c.cut.result (c.len.ensures.held tells) c.len.ensures.time c.cut.ensures.time (c.cut.ensures.held tells)
