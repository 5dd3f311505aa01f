-- A script is run over what recovery left.
use Rattle.std.proofs.Common.{None, refl, ◌≡◌, ◌-◌, ◌≤◌, ℕ, List, length, subst, ◌∙◌}
use Rattle.script_runs.specs.Runs.{run_start}
use Rattle.run_archive.specs.Endings.{before_lost, told_behind}
use Rattle.record_run.specs.declared.run.Run.{Run}
use Rattle.record_run.specs.States.{CameTo, Stands}
use Rattle.record_run.proofs.Endings.{replays_over}
use Rattle.record_run.proofs.replay.replay_over.Goals as goal

pub returns-clause-runs : goal.returns-clause-runs
returns-clause-runs g c = λ follows.
    let d = g.D.Disk in
    let script = c.args.script.now in
    let server = c.args.server.now in
    let was : Run = record { running = c.args.running; sampler = record { session = c.args.session; plans = None }; out = c.new.result; marks = c.new-2.result } in
    let is : Run = c.run_lines-ending.new.run in
    let before = c.run_lines-ending.new.seat.tokens in
    let start = c.args.disk.now in
    let stopped = c.run_lines-ending.new.disk in
    let ending = c.run_lines-ending.result in
    let stands : Stands script server was c.args.seat.now.tokens (run_start script) =
    record { follow = record { follows = follows; output = c.new.ensures.items; counted = c.requires.fresh }; plans = refl } in
    let came : CameTo d script server was is before start stopped ending = c.run_lines-ending.ensures.came c.close.ensures.alone stands in
    let told = c.finish.ensures.told in
    let within : told.0 ≤ length is.marks.items = subst (λ (marks : List ℕ). told.0 ≤ length marks) c.as_slice.ensures.value told.1 in
    let output : c.finish.result.output ≡ told_behind c.finish.result.ending (before_lost is.marks.items told.0 is.out.items) (is.sampler.session.logged - told.0) =
    subst (λ (marks : List ℕ). c.finish.result.output ≡ told_behind c.finish.result.ending (before_lost marks told.0 is.out.items) (is.sampler.session.logged - told.0)) c.as_slice.ensures.value told.5 in
    replays_over d script server was is before c.close.new.seat.tokens start stopped c.finish.new.disk ending c.finish.result came c.run_lines-ending.ensures.same.1 c.finish.ensures.ends told.0 within told.3 told.4 output
    (c.close.ensures.seen script came.last.regions came.stands.follows) (λ tells left events more. c.finish.ensures.flushed) (λ tells left events more. c.finish.ensures.fails) (λ tells left events more. c.finish.ensures.failed)

pub returns-clause-cause : goal.returns-clause-cause
returns-clause-cause g c = c.finish.ensures.cause (g.D.Disk.faults c.args.disk.now) c.run_lines-ending.ensures.later c.run_lines-ending.ensures.cause

pub returns-clause-quiet : goal.returns-clause-quiet
returns-clause-quiet g c = λ other.
    c.finish.ensures.quiet other ∙ c.run_lines-ending.ensures.quiet (λ is. other (c.finish.ensures.failed is).0)
