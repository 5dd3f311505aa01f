-- A recording over what recovery left.
use Rattle.std.proofs.Common.{[], refl, ◌∙◌, ◌≡◌}
use Rattle.run_archive.specs.Endings.{told_behind}
use Rattle.run_archive.proofs.Beginning.{begins_over}
use Rattle.script_runs.specs.declared.ending.Ending.TheVariants as ends
use Rattle.record_run.proofs.RecordCauses.{done_before, finish_may, undone}
use Rattle.record_run.proofs.Finishing.{recorded, unmarked_told}
use Rattle.record_run.proofs.Running.{told_on}
use Rattle.record_run.proofs.recording.record_over.Goals as goal

pub returns-clause-records : goal.returns-clause-records
returns-clause-records g c =
    let d = g.D.Disk in
    let was = c.begin-session.result in
    let is = c.run-ending.new.sampler.session in
    let r = c.finish.result in
    let lost = c.finish.ensures.told in
    let told : (r.logged ≡ is.logged) × (r.output ≡ told_behind r.ending [] is.logged) = unmarked_told r.ending _ c.new.result.items r.output is.logged r.logged lost.0 refl c.new.ensures.items lost.1 lost.4 lost.5 in
    recorded g.C.Clock d c.args.clock.now c.run-ending.new.clock was is c.args.disk.now c.run-ending.new.disk c.finish.new.disk c.args.script.now c.args.volume c.args.samples c.args.server.now c.args.seat.now.tokens c.run-ending.new.seat.tokens c.args.archive c.run-ending.result r
    c.run-ending.ensures.halts c.begin-session.ensures.same.1 c.run-ending.ensures.same.1 (λ is_left. begins_over d g.met.D.Disk.only_now c.args.archive was c.args.disk.now (c.begin-session.ensures.same.0 ∙ c.requires.label) c.begin-session.ensures.begun is_left)
    c.finish.ensures.flushed c.finish.ensures.fails c.finish.ensures.failed c.finish.ensures.ends told.0 told.1

pub returns-clause-writers : goal.returns-clause-writers
returns-clause-writers g c =
    told_on c.args.script.now c.args.server.now c.run-ending.new.seat.tokens c.run-ending.new.passes.items c.run-ending.result c.finish.result.ending c.run-ending.ensures.writers c.finish.ensures.ends

pub returns-clause-cause : goal.returns-clause-cause
returns-clause-cause g c =
    finish_may g.C.Clock g.D.Disk c.args.clock.now c.run-ending.new.clock c.args.disk.now c.run-ending.new.disk c.finish.new.disk c.run-ending.result c.finish.result.ending c.run-ending.ensures.later c.finish.ensures.later c.run-ending.ensures.cause c.finish.ensures.ends c.finish.ensures.rose

pub returns-clause-quiet : goal.returns-clause-quiet
returns-clause-quiet g c = λ is.
    let e = c.run-ending.result in
    let last = c.finish.result.ending in
    let done : e ≡ ends.Done = done_before e last c.finish.ensures.ends is in
    let run = c.run-ending.ensures.quiet done in (
      c.finish.ensures.quiet (λ failing. undone last failing is) ∙ run.0,
      run.1,
    )
