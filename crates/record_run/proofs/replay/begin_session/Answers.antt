-- A session begins over what recovery left.
use Rattle.std.proofs.Common.{refl, ◌∙◌, subst, sym}
use Rattle.pcp_model.specs.Disk.{CrashImage}
use Rattle.archive_recovery.specs.declared.outcome.RecoverFault.TheVariants as recovery
use Rattle.logger_core.proofs.Calls.{no_call}
use Rattle.script_runs.specs.declared.ending.Ending.{Ending}
use Rattle.run_archive.specs.Endings.{MayEnd}
use Rattle.run_archive.specs.Outcomes.{IsUnrecovered}
use Rattle.run_archive.proofs.Beginning.{begins_over, told_left}
use Rattle.record_run.proofs.Replaying.{is_unrecovered, recovery_cause, unlooked}
use Rattle.record_run.proofs.replay.begin_session.Goals as goal

pub returns-in_default-clause-refused : goal.returns-in_default-clause-refused
returns-in_default-clause-refused g c = (recovery.NoMemory, refl)

pub returns-in_default-clause-any_moment : goal.returns-in_default-clause-any_moment
returns-in_default-clause-any_moment g c = λ tells. unlooked g.D.Disk g.met.D.Disk.only_now c.args.disk.now

pub returns-in_default-clause-unread : goal.returns-in_default-clause-unread
returns-in_default-clause-unread g c = λ tells none. no_call g.D.Disk g.met.D.Disk.only_now c.args.disk.now (CrashImage (g.D.Disk.held c.args.disk.now)) (λ image crash. crash)

pub returns-in-Ok-recover-clause-begun : goal.returns-in-Ok-recover-clause-begun
returns-in-Ok-recover-clause-begun g c = λ tells.
    let d = g.D.Disk in
    let archive = c.in-Ok-recover.archive in
    let was = c.in-Ok-recover.ensures.recovered tells in
    let sure = c.in-Ok-recover.ensures.sure tells in
    record {
      archive = archive;
      unwrapped = c.in-Ok-recover.ensures.unwrapped tells;
      was = was;
      sure = sure;
      keeps = begins_over d g.met.D.Disk.only_now archive c.begin.result c.recover.new.disk (c.begin.ensures.same.0 ∙ c.in-Ok.ensures) c.begin.ensures.begun (told_left d g.met.D.Disk.only_now c.args.disk.now c.recover.new.disk archive was sure);
    }

pub returns-in-Err-clause-refused : goal.returns-in-Err-clause-refused
returns-in-Err-clause-refused g c = (c.in-Err.fault, c.ending_of.ensures)

pub returns-in-Err-clause-unrecovered : goal.returns-in-Err-clause-unrecovered
returns-in-Err-clause-unrecovered g c = λ tells.
    let d = g.D.Disk in
    subst (λ (e : Ending). IsUnrecovered d c.args.disk.now c.recover.new.disk e) (sym c.ending_of.ensures)
    (is_unrecovered d c.args.disk.now c.recover.new.disk c.in-Err.fault (c.in-Err.ensures.fault tells) (c.in-Err.ensures.kept tells) (c.recover.ensures.any_moment tells))

pub returns-in-Err-clause-cause : goal.returns-in-Err-clause-cause
returns-in-Err-clause-cause g c =
    let before = g.D.Disk.faults c.args.disk.now in
    let after = g.D.Disk.faults c.recover.new.disk in
    subst (λ (e : Ending). MayEnd before after e) (sym c.ending_of.ensures) (recovery_cause before after c.in-Err.fault c.in-Err.ensures.cause)
