-- A script is run over any files.
use Rattle.std.proofs.Common.{refl, ◌∙◌, subst, sym}
use Rattle.pcp_model.specs.Disk.{CrashImage}
use Rattle.archive_recovery.specs.declared.outcome.RecoverFault.TheVariants as recovery
use Rattle.logger_core.proofs.Calls.{no_call}
use Rattle.script_runs.specs.declared.ending.Ending.{Ending}
use Rattle.script_runs.specs.Regions.{made_regions}
use Rattle.run_archive.specs.Endings.{MayEnd, LeavesCount}
use Rattle.run_archive.specs.Outcomes.{IsUnrecovered}
use Rattle.record_run.specs.Replays.{IsBegun}
use Rattle.record_run.proofs.Causes.{may_end_earlier, leaves_count, unrecovered_leaves}
use Rattle.record_run.proofs.Replaying.{replay_ended, replay_nothing, unlooked}
use Rattle.record_run.proofs.replay.replay_with.Goals as goal

pub returns-in-Err-clause-runs : goal.returns-in-Err-clause-runs
returns-in-Err-clause-runs g c =
    let d = g.D.Disk in
    replay_nothing c.args.script.now c.args.server.now c.begin.new.seat.tokens c.nothing.result c.nothing.ensures.output c.nothing.ensures.logged c.in-Err.ensures.refused recovery.NoMemory c.nothing.ensures.ending d g.met.D.Disk.only_now
    g.met.D.Disk.counts_now c.args.volume c.args.disk.now c.args.disk.now (λ tells. refl) (λ tells. unlooked d g.met.D.Disk.only_now c.args.disk.now)

pub returns-in-Err-clause-unread : goal.returns-in-Err-clause-unread
returns-in-Err-clause-unread g c = λ tells none. no_call g.D.Disk g.met.D.Disk.only_now c.args.disk.now (CrashImage (g.D.Disk.held c.args.disk.now)) (λ image crash. crash)

pub returns-in-Ok-begin_session-clause-runs : goal.returns-in-Ok-begin_session-clause-runs
returns-in-Ok-begin_session-clause-runs g c =
    replay_ended g.D.Disk g.met.D.Disk.only_now g.met.D.Disk.counts_now c.args.script.now c.args.volume c.args.server.now c.replay_over.new.seat.tokens c.in-Ok-begin_session.session c.args.disk.now c.begin_session.new.disk c.replay_over.new.disk c.replay_over.result
    c.in-Ok-begin_session.ensures.fresh.0 c.in-Ok-begin_session.ensures.begun c.begin_session.ensures.any_moment (c.replay_over.ensures.runs c.in-Ok.ensures.follows)

pub returns-in-Ok-begin_session-clause-unread : goal.returns-in-Ok-begin_session-clause-unread
returns-in-Ok-begin_session-clause-unread g c = λ tells none. let b : IsBegun g.D.Disk c.args.disk.now c.begin_session.new.disk c.in-Ok-begin_session.session = c.in-Ok-begin_session.ensures.begun tells in absurd (none (b.was.reading, b.was.was))

pub returns-in-Ok-begin_session-clause-cause : goal.returns-in-Ok-begin_session-clause-cause
returns-in-Ok-begin_session-clause-cause g c =
    may_end_earlier (g.D.Disk.faults c.args.disk.now) (g.D.Disk.faults c.begin_session.new.disk) (g.D.Disk.faults c.replay_over.new.disk) c.replay_over.result.ending c.begin_session.ensures.later c.replay_over.ensures.cause

pub returns-in-Err-begin_session-clause-runs : goal.returns-in-Err-begin_session-clause-runs
returns-in-Err-begin_session-clause-runs g c =
    let d = g.D.Disk in
    let refused = c.in-Err-begin_session.ensures.refused in
    replay_nothing c.args.script.now c.args.server.now c.close.new.seat.tokens c.nothing-in-Err-begin_session.result c.nothing-in-Err-begin_session.ensures.output c.nothing-in-Err-begin_session.ensures.logged
    (c.close.ensures.seen c.args.script.now (made_regions c.args.script.now) c.in-Ok.ensures.follows) refused.0 (c.nothing-in-Err-begin_session.ensures.ending ∙ refused.1) d g.met.D.Disk.only_now g.met.D.Disk.counts_now c.args.volume c.args.disk.now
    c.begin_session.new.disk (λ tells. subst (λ (e : Ending). IsUnrecovered d c.args.disk.now c.begin_session.new.disk e) refused.1 (c.in-Err-begin_session.ensures.unrecovered tells)) c.begin_session.ensures.any_moment

pub returns-in-Err-begin_session-clause-cause : goal.returns-in-Err-begin_session-clause-cause
returns-in-Err-begin_session-clause-cause g c =
    subst (λ (e : Ending). MayEnd (g.D.Disk.faults c.args.disk.now) (g.D.Disk.faults c.begin_session.new.disk) e) (sym c.nothing-in-Err-begin_session.ensures.ending) c.in-Err-begin_session.ensures.cause

pub returns-in-Err-clause-quiet : goal.returns-in-Err-clause-quiet
returns-in-Err-clause-quiet g c = subst (LeavesCount (g.D.Disk.faults c.args.disk.now) (g.D.Disk.faults c.args.disk.now)) (sym c.nothing.ensures.ending) tt

pub returns-in-Ok-begin_session-clause-quiet : goal.returns-in-Ok-begin_session-clause-quiet
returns-in-Ok-begin_session-clause-quiet g c =
    leaves_count (g.D.Disk.faults c.args.disk.now) (g.D.Disk.faults c.replay_over.new.disk) c.replay_over.result.ending (λ other. c.replay_over.ensures.quiet other ∙ c.in-Ok-begin_session.ensures.quiet)

pub returns-in-Err-begin_session-clause-quiet : goal.returns-in-Err-begin_session-clause-quiet
returns-in-Err-begin_session-clause-quiet g c =
    let refused = c.in-Err-begin_session.ensures.refused in
    subst (LeavesCount (g.D.Disk.faults c.args.disk.now) (g.D.Disk.faults c.begin_session.new.disk)) (sym (c.nothing-in-Err-begin_session.ensures.ending ∙ refused.1)) (unrecovered_leaves (g.D.Disk.faults c.args.disk.now) (g.D.Disk.faults c.begin_session.new.disk) refused.0)
