-- The session is closed.
use Rattle.std.proofs.Common.{inr}
use Rattle.logging_session.specs.Keeping.{held_in}
use Rattle.run_archive.proofs.Causes.{flush_few, flush_rose, unfailed_few, unfailed_unlost}
use Rattle.run_archive.proofs.Flushes.{close_failed, is_closed}
use Rattle.run_archive.proofs.finishing.flush_last.Goals as goal

pub returns-in-Ok-clause-flushed : goal.returns-in-Ok-clause-flushed
returns-in-Ok-clause-flushed g c = λ goes tells left events start keeps. (
  is_closed g.D.Disk left events start c.args.session.now c.args.disk.now keeps c.close.new.self c.close.new.disk c.close.ensures.same.0 (c.in-Ok.ensures.went tells left events start keeps.kept),
  c.in-Ok.ensures.none,
  c.in-Ok.ensures.settled tells left events keeps.kept.keeps,
  c.in-Ok.ensures.whole tells left events keeps.kept.keeps,
)

pub returns-in_default-fault-clause-fails : goal.returns-in_default-fault-clause-fails
returns-in_default-fault-clause-fails g c = λ other is tells left events start keeps.
    close_failed g.D.Disk left events start c.args.session.now c.args.disk.now keeps c.close.new.disk c.in-Err.fault (c.in-Err.ensures.went tells left events start keeps.kept)

pub returns-in_default-fault-clause-cause : goal.returns-in_default-fault-clause-cause
returns-in_default-fault-clause-cause g c = λ is.
    inr (flush_rose c.args.session.now c.close.new.self (g.D.Disk.faults c.args.disk.now) (g.D.Disk.faults c.close.new.disk) c.in-Err.fault c.in_default-fault.not-Closed c.in-Err.ensures.cause)

pub returns-in-Ok-clause-lost : goal.returns-in-Ok-clause-lost
returns-in-Ok-clause-lost g c = λ other. unfailed_few c.close.new.self (held_in c.args.session.now.place) c.in-Ok.ensures.open_

pub returns-in-Ok-clause-unlost : goal.returns-in-Ok-clause-unlost
returns-in-Ok-clause-unlost g c = λ other. unfailed_unlost c.close.new.self c.in-Ok.ensures.open_

pub returns-in_default-fault-clause-lost : goal.returns-in_default-fault-clause-lost
returns-in_default-fault-clause-lost g c = λ other.
    flush_few c.args.session.now c.close.new.self (g.D.Disk.faults c.args.disk.now) (g.D.Disk.faults c.close.new.disk) c.in-Err.fault c.in_default-fault.not-Closed c.in-Err.ensures.cause
