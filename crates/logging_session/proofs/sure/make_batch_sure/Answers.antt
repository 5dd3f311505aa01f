-- What was written is made sure.
use Rattle.logger_core.proofs.Holds.{is_a_logger}
use Rattle.logging_session.proofs.Writes.{then_passed, then_survives}
use Rattle.logging_session.proofs.sure.make_batch_sure.Goals as goal

pub returns-in-Ok-make_written_sure-clause-any_moment : goal.returns-in-Ok-make_written_sure-clause-any_moment
returns-in-Ok-make_written_sure-clause-any_moment g c = λ tells m o pending h.
    let d = g.D.Disk in
    let is = c.in-Ok.ensures.done tells m o pending h in
    then_survives d g.met.D.Disk.only_now m o pending c.args.batch.now c.args.disk.now c.write_held.new.disk c.make_written_sure.new.disk h (c.write_held.ensures.any_moment tells m o pending h)
    (c.make_written_sure.ensures.any_moment tells o (is_a_logger o o c.write_held.new.batch (d.held c.write_held.new.disk) is).0)

pub returns-in-Err-make_written_sure-clause-any_moment : goal.returns-in-Err-make_written_sure-clause-any_moment
returns-in-Err-make_written_sure-clause-any_moment g c = λ tells m o pending h.
    let d = g.D.Disk in
    let is = c.in-Ok.ensures.done tells m o pending h in
    then_survives d g.met.D.Disk.only_now m o pending c.args.batch.now c.args.disk.now c.write_held.new.disk c.make_written_sure.new.disk h (c.write_held.ensures.any_moment tells m o pending h)
    (c.make_written_sure.ensures.any_moment tells o (is_a_logger o o c.write_held.new.batch (d.held c.write_held.new.disk) is).0)

pub returns-in-Err-make_written_sure-clause-passed : goal.returns-in-Err-make_written_sure-clause-passed
returns-in-Err-make_written_sure-clause-passed g c = λ tells m o pending h.
    let d = g.D.Disk in
    let is = c.in-Ok.ensures.done tells m o pending h in
    then_passed d g.met.D.Disk.only_now m o pending c.args.batch.now c.write_held.new.batch c.args.disk.now c.write_held.new.disk c.make_written_sure.new.disk h is (c.write_held.ensures.any_moment tells m o pending h)
    (c.make_written_sure.ensures.any_moment tells o (is_a_logger o o c.write_held.new.batch (d.held c.write_held.new.disk) is).0)
