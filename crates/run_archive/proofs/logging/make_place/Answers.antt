-- What is held is written where a result has no place beside it.
use Rattle.std.proofs.Common.{◌∙◌, arith}
use Rattle.logging_session.specs.Keeping.{held_in}
use Rattle.run_archive.proofs.Causes.{flush_few, flush_rose, flush_unclosed, flush_unheld, working_few}
use Rattle.run_archive.proofs.Flushes.{flush_failed}
use Rattle.run_archive.proofs.logging.make_place.Goals as goal

pub returns-then-has_room-clause-lost : goal.returns-then-has_room-clause-lost
returns-then-has_room-clause-lost g c = working_few c.args.session.now (held_in c.args.session.now.place) c.requires.working

pub returns-in-Ok-clause-lost : goal.returns-in-Ok-clause-lost
returns-in-Ok-clause-lost g c = working_few c.write.new.self (held_in c.args.session.now.place) c.in-Ok.ensures.working.1

pub returns-in-Ok-clause-keeps : goal.returns-in-Ok-clause-keeps
returns-in-Ok-clause-keeps g c = λ tells left events start keeps. record { label = c.write.ensures.same.0 ∙ keeps.label; kept = c.in-Ok.ensures.went tells left events start keeps.kept }

pub returns-in-Err-clause-held : goal.returns-in-Err-clause-held
returns-in-Err-clause-held g c =
    let d = g.D.Disk in
    let none = flush_unheld c.args.session.now c.write.new.self (d.faults c.args.disk.now) (d.faults c.write.new.disk) c.in-Err.field-0 c.in-Err.ensures.cause in
    omega (arith, none)

pub returns-in-Err-clause-lost : goal.returns-in-Err-clause-lost
returns-in-Err-clause-lost g c =
    let d = g.D.Disk in
    let was = c.args.session.now in
    let now = c.write.new.self in
    flush_few was now (d.faults c.args.disk.now) (d.faults c.write.new.disk) c.in-Err.field-0 (flush_unclosed was now (d.faults c.args.disk.now) (d.faults c.write.new.disk) c.in-Err.field-0 c.requires.working c.in-Err.ensures.cause)
    c.in-Err.ensures.cause

pub returns-in-Err-clause-failed : goal.returns-in-Err-clause-failed
returns-in-Err-clause-failed g c = λ tells left events start keeps.
    let d = g.D.Disk in
    let was = c.args.session.now in
    let now = c.write.new.self in
    let disk = c.write.new.disk in
    flush_failed d left events start was c.args.disk.now keeps now disk c.in-Err.field-0 (flush_unclosed was now (d.faults c.args.disk.now) (d.faults disk) c.in-Err.field-0 c.requires.working c.in-Err.ensures.cause)
    (c.in-Err.ensures.went tells left events start keeps.kept)

pub returns-in-Err-clause-cause : goal.returns-in-Err-clause-cause
returns-in-Err-clause-cause g c =
    let d = g.D.Disk in
    let was = c.args.session.now in
    let now = c.write.new.self in
    flush_rose was now (d.faults c.args.disk.now) (d.faults c.write.new.disk) c.in-Err.field-0 (flush_unclosed was now (d.faults c.args.disk.now) (d.faults c.write.new.disk) c.in-Err.field-0 c.requires.working c.in-Err.ensures.cause)
    c.in-Err.ensures.cause
