-- Where what is held isn't written the disk failed.
use Rattle.std.proofs.Common.{arith}
use Rattle.logging_session.proofs.Writes.{write_fails}
use Rattle.logging_session.proofs.sure.write_held.Goals as goal

pub returns-in-Err-clause-passed : goal.returns-in-Err-clause-passed
returns-in-Err-clause-passed g c = λ tells m o pending h.
    let d = g.D.Disk in
    let why = write_fails c.args.batch.now c.write.new.self (d.faults c.args.disk.now) (d.faults c.write.new.disk) c.in-Err.written c.in-Err.field-0-1 c.requires.open_ c.in-Err.ensures.fault in
    record { written = c.in-Err.written; others = omega (arith, why.1, c.held-held.ensures.value); passed = c.in-Err.ensures.passed tells m pending o h why.0 }
