-- The source is loaded, read and planned.
use Rattle.std.proofs.Common.{sym, ◌∙◌}
use Rattle.pcp_model.specs.Disk.{contents_of}
use Rattle.archive_loading.proofs.Looking.{looks_on}
use Rattle.log_export.proofs.Laid.{err_handed}
use Rattle.log_export.specs.Reading.{IsReadFault}
use Rattle.log_export.proofs.Plans.{copied_none, stopped_of, want_fault}
use Rattle.log_export.proofs.planning.plan_export.Goals as goal

pub returns-in_err-walk-clause-looks : goal.returns-in_err-walk-clause-looks
returns-in_err-walk-clause-looks g c = looks_on g.D.Disk c.args.disk.now c.load.new.disk c.read_all.new.disk c.load.ensures.looks c.read_all.ensures.looks

pub returns-then-is_none-clause-planned : goal.returns-then-is_none-clause-planned
returns-then-is_none-clause-planned g c = λ tells. stopped_of (contents_of (g.D.Disk.held c.args.disk.now)) c.in_ok-reader.reader (c.in_ok-reader.ensures.loaded tells)
    (sym c.label.ensures ∙ copied_none c.label.result c.is_none.result c.is_none.ensures c.if-is_none.true)

pub returns-then-is_none-clause-looks : goal.returns-then-is_none-clause-looks
returns-then-is_none-clause-looks g c = looks_on g.D.Disk c.args.disk.now c.load.new.disk c.read_all.new.disk c.load.ensures.looks c.read_all.ensures.looks

pub returns-in_err-plan-clause-fault : goal.returns-in_err-plan-clause-fault
returns-in_err-plan-clause-fault g c = λ tells.
    let e = c.in_err-plan.field-0.0 in
    err_handed c.from_residual-in_err-plan.result e (IsReadFault (g.D.Disk.wrapped_file c.args.disk.now) (contents_of (g.D.Disk.held c.args.disk.now))) c.from_residual-in_err-plan.ensures.1
    (want_fault (g.D.Disk.wrapped_file c.args.disk.now) (contents_of (g.D.Disk.held c.args.disk.now)) e (c.in_err-plan.ensures.fault tells))

pub returns-in_err-plan-clause-looks : goal.returns-in_err-plan-clause-looks
returns-in_err-plan-clause-looks g c =
    looks_on g.D.Disk c.args.disk.now c.read_all.new.disk c.plan_walked.new.disk (looks_on g.D.Disk c.args.disk.now c.load.new.disk c.read_all.new.disk c.load.ensures.looks c.read_all.ensures.looks) c.plan_walked.ensures.looks

pub returns-clause-looks : goal.returns-clause-looks
returns-clause-looks g c =
    looks_on g.D.Disk c.args.disk.now c.read_all.new.disk c.plan_walked.new.disk (looks_on g.D.Disk c.args.disk.now c.load.new.disk c.read_all.new.disk c.load.ensures.looks c.read_all.ensures.looks) c.plan_walked.ensures.looks
