-- What is held is written.
use Rattle.std.proofs.Common.{◌≡◌, ◌∙◌, arith}
use Rattle.logging_session.specs.Keeping.{held_in}
use Rattle.run_archive.proofs.Causes.{flush_unclosed}
use Rattle.run_archive.proofs.Flushes.{flush_failed}
use Rattle.record_run.proofs.Leading.{write_unheld}
use Rattle.record_run.proofs.steps.write_full.Goals as goal

pub returns-in-Ok-clause-keeps : goal.returns-in-Ok-clause-keeps
returns-in-Ok-clause-keeps g c = λ tells left events start keeps. record { label = c.write.ensures.same.0 ∙ keeps.label; kept = c.in-Ok.ensures.went tells left events start keeps.kept }

pub returns-in-Err-clause-failed : goal.returns-in-Err-clause-failed
returns-in-Err-clause-failed g c = λ tells left events start keeps.
    let d = g.D.Disk in
    let was = c.args.run.now.sampler.session in
    let now = c.write.new.self in
    let disk = c.write.new.disk in
    flush_failed d left events start was c.args.disk.now keeps now disk c.in-Err.field-0 (flush_unclosed was now (d.faults c.args.disk.now) (d.faults disk) c.in-Err.field-0 c.requires.working c.in-Err.ensures.cause)
    (c.in-Err.ensures.went tells left events start keeps.kept)

pub returns-in-Err-clause-unheld : goal.returns-in-Err-clause-unheld
returns-in-Err-clause-unheld g c =
    let d = g.D.Disk in
    let was = c.args.run.now.sampler.session in
    let now = c.write.new.self in
    let before = d.faults c.args.disk.now in
    let after = d.faults c.write.new.disk in
    let none : held_in now.place ≡ 0 = write_unheld was now before after c.in-Err.field-0 (flush_unclosed was now before after c.in-Err.field-0 c.requires.working c.in-Err.ensures.cause) c.in-Err.ensures.cause in
    omega (arith, none)
