-- What was logged is flushed.
use Rattle.std.proofs.Common.{◌≡◌, ◌∙◌, arith}
use Rattle.logging_session.specs.Keeping.{held_in}
use Rattle.run_archive.proofs.Causes.{flush_few, flush_unclosed, flush_unheld, working_few}
use Rattle.run_archive.proofs.Flushes.{flush_failed, some_flushed}
use Rattle.run_archive.proofs.flushing.flush_line.Goals as goal

pub returns-in-Ok-flush-clause-flushes : goal.returns-in-Ok-flush-clause-flushes
returns-in-Ok-flush-clause-flushes g c = λ tells left events start keeps.
    let was = c.args.session.now in
    some_flushed g.D.Disk left events start was c.args.disk.now keeps c.flush.new.self c.flush.new.disk (λ (none : was.logged ≡ 0). c.if-logged-eq0.false (c.logged-logged.ensures.value ∙ none)) c.flush.ensures.same.0
    (c.in-Ok-flush.ensures.went tells left events start keeps.kept)

pub returns-in-Err-clause-failed : goal.returns-in-Err-clause-failed
returns-in-Err-clause-failed g c = λ is tells left events start keeps.
    let d = g.D.Disk in
    let was = c.args.session.now in
    let now = c.flush.new.self in
    let disk = c.flush.new.disk in
    flush_failed d left events start was c.args.disk.now keeps now disk c.in-Err.field-0 (flush_unclosed was now (d.faults c.args.disk.now) (d.faults disk) c.in-Err.field-0 c.requires.working c.in-Err.ensures.cause)
    (c.in-Err.ensures.went tells left events start keeps.kept)

pub returns-in-Err-clause-unheld : goal.returns-in-Err-clause-unheld
returns-in-Err-clause-unheld g c =
    let d = g.D.Disk in
    let none = flush_unheld c.args.session.now c.flush.new.self (d.faults c.args.disk.now) (d.faults c.flush.new.disk) c.in-Err.field-0 c.in-Err.ensures.cause in
    omega (arith, none)

pub returns-in-Err-clause-lost : goal.returns-in-Err-clause-lost
returns-in-Err-clause-lost g c =
    let d = g.D.Disk in
    let was = c.args.session.now in
    let now = c.flush.new.self in
    flush_few was now (d.faults c.args.disk.now) (d.faults c.flush.new.disk) c.in-Err.field-0 (flush_unclosed was now (d.faults c.args.disk.now) (d.faults c.flush.new.disk) c.in-Err.field-0 c.requires.working c.in-Err.ensures.cause)
    c.in-Err.ensures.cause

pub returns-in-Ok-flush-clause-lost : goal.returns-in-Ok-flush-clause-lost
returns-in-Ok-flush-clause-lost g c = working_few c.flush.new.self (held_in c.args.session.now.place) c.in-Ok-flush.ensures.working.1
