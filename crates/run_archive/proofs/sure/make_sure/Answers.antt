-- What was logged is made sure.
use Rattle.std.proofs.Common.{◌∙◌}
use Rattle.run_archive.proofs.Causes.{flush_unclosed, flush_unheld}
use Rattle.run_archive.proofs.Flushes.{flush_failed}
use Rattle.run_archive.proofs.sure.make_sure.Goals as goal

pub returns-in-Ok-clause-syncs : goal.returns-in-Ok-clause-syncs
returns-in-Ok-clause-syncs g c = λ tells left events start keeps. record { label = c.sync.ensures.same.0 ∙ keeps.label; kept = c.in-Ok.ensures.went tells left events start keeps.kept }

pub returns-in-Err-clause-failed : goal.returns-in-Err-clause-failed
returns-in-Err-clause-failed g c = λ tells left events start keeps.
    let d = g.D.Disk in
    let was = c.args.session.now in
    let now = c.sync.new.self in
    let disk = c.sync.new.disk in
    flush_failed d left events start was c.args.disk.now keeps now disk c.in-Err.field-0 (flush_unclosed was now (d.faults c.args.disk.now) (d.faults disk) c.in-Err.field-0 c.requires.working c.in-Err.ensures.cause)
    (c.in-Err.ensures.went tells left events start keeps.kept)

pub returns-in-Err-clause-none : goal.returns-in-Err-clause-none
returns-in-Err-clause-none g c =
    let d = g.D.Disk in
    flush_unheld c.args.session.now c.sync.new.self (d.faults c.args.disk.now) (d.faults c.sync.new.disk) c.in-Err.field-0 c.in-Err.ensures.cause
