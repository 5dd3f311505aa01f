-- The logger keeps what recovery left.
use Rattle.std.proofs.Common.{◌∙◌}
use Rattle.logger_core.specs.Reopening.{SameFiles}
use Rattle.logger_core.proofs.AsFound.{reopened_is, same_files}
use Rattle.logger_core.proofs.Calls.{no_call}
use Rattle.logger_core.proofs.logger.Logger.reopen.Goals as goal

pub returns-in_default-clause-any_moment : goal.returns-in_default-clause-any_moment
returns-in_default-clause-any_moment g c = λ tells left.
    let held = g.D.Disk.held c.args.disk.now in
    no_call g.D.Disk g.met.D.Disk.only_now c.args.disk.now (SameFiles held) (same_files held left.sure)

pub returns-in-Some-logger_of-clause-reopened : goal.returns-in-Some-logger_of-clause-reopened
returns-in-Some-logger_of-clause-reopened g c = λ tells left.
    let of = c.in-Some-logger_of.ensures in
    reopened_is (g.D.Disk.held c.args.disk.now) c.args.archive c.args.volume c.in-Some-logger_of.logger c.in-Some.ensures.2 of.0 of.1 (of.2 ∙ c.in-Some.ensures.0) of.3 of.4 left

pub returns-in-Some-logger_of-clause-any_moment : goal.returns-in-Some-logger_of-clause-any_moment
returns-in-Some-logger_of-clause-any_moment g c = λ tells left.
    let held = g.D.Disk.held c.args.disk.now in
    no_call g.D.Disk g.met.D.Disk.only_now c.args.disk.now (SameFiles held) (same_files held left.sure)
