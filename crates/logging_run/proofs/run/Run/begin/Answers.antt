-- A run begins over what recovery left.
use Rattle.std.proofs.Common.{[], refl, sym, ◌∙◌}
use Rattle.pcp_model.specs.Disk.{CrashImage}
use Rattle.logger_core.proofs.Calls.{no_call}
use Rattle.logging_run.specs.declared.fault.RunFault.TheVariants as faults
use Rattle.archive_recovery.specs.declared.outcome.RecoverFault.TheVariants as recovery
use Rattle.logging_run.specs.Closing.{Close, Ran}
use Rattle.logging_run.specs.Recovering.{IsOfRecovery}
use Rattle.logging_run.proofs.Finishing.{recovery_rose, unbegun, unrecovered_so}
use Rattle.logging_run.proofs.Places.{found_unheld}
use Rattle.logging_run.proofs.Standing.{begun_so, handed_on}
use Rattle.logging_run.proofs.run.Run.begin.Goals as goal

pub returns-in_err-label-clause-unrecovered : goal.returns-in_err-label-clause-unrecovered
returns-in_err-label-clause-unrecovered g c = λ tells.
    let d = g.D.Disk in
    handed_on c.from_residual.result faults.NoMemory (λ e. Ran d c.args.volume [] c.args.disk.now c.args.disk.now (Close.unrecovered e)) c.from_residual.ensures.1 (unbegun d g.met.D.Disk.only_now c.args.volume c.args.disk.now faults.NoMemory refl)

pub returns-in_err-label-clause-unread : goal.returns-in_err-label-clause-unread
returns-in_err-label-clause-unread g c = λ tells none. no_call g.D.Disk g.met.D.Disk.only_now c.args.disk.now (CrashImage (g.D.Disk.held c.args.disk.now)) (λ image crash. crash)

pub returns-in_err-label-clause-cause : goal.returns-in_err-label-clause-cause
returns-in_err-label-clause-cause g c = handed_on c.from_residual.result faults.NoMemory _ c.from_residual.ensures.1 (λ is. absurd cc)

pub returns-in-Ok-clause-begun : goal.returns-in-Ok-clause-begun
returns-in-Ok-clause-begun g c =
    let told = c.in-Ok.ensures in
    let same = c.begin.ensures.same in (
      begun_so g.D.Disk g.met.D.Disk.only_now c.args.volume c.args.disk.now c.recover.new.disk c.in-Ok.archive c.begin.result (same.0 ∙ c.in_ok-label.ensures) same.1 same.2 c.begin.ensures.found told.quiet
          (λ tells. told.recovered tells) (λ tells. told.sure tells) (λ tells. told.unwrapped tells) c.recover.ensures.any_moment c.begin.ensures.begun,
      found_unheld c.begin.result c.begin.ensures.found,
    )

pub returns-in-Err-clause-unrecovered : goal.returns-in-Err-clause-unrecovered
returns-in-Err-clause-unrecovered g c = λ tells.
    unrecovered_so g.D.Disk g.met.D.Disk.only_now c.args.volume c.args.disk.now c.recover.new.disk c.in-Err.fault c.unrecovered.result c.unrecovered.ensures (c.in-Err.ensures.fault tells) (c.in-Err.ensures.kept tells) (c.recover.ensures.any_moment tells)

pub returns-in-Err-clause-cause : goal.returns-in-Err-clause-cause
returns-in-Err-clause-cause g c = λ is. c.in-Err.ensures.cause (recovery_rose c.in-Err.fault (sym c.unrecovered.ensures ∙ is))

pub returns-in_err-label-clause-kinds : goal.returns-in_err-label-clause-kinds
returns-in_err-label-clause-kinds g c = handed_on c.from_residual.result faults.NoMemory IsOfRecovery c.from_residual.ensures.1 (recovery.NoMemory, refl)

pub returns-in-Err-clause-kinds : goal.returns-in-Err-clause-kinds
returns-in-Err-clause-kinds g c = (c.in-Err.fault, c.unrecovered.ensures)
