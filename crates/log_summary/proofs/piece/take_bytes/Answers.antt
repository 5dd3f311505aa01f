-- The call only looks.
use Rattle.archive_loading.proofs.Looking.{looks_none, looked}
use Rattle.log_summary.proofs.piece.take_bytes.Goals as goal

pub returns-in_err-make_room-clause-looks : goal.returns-in_err-make_room-clause-looks
returns-in_err-make_room-clause-looks g c = looks_none g.D.Disk g.met.D.Disk.only_now c.args.disk.now

pub returns-in_err-read-clause-looks : goal.returns-in_err-read-clause-looks
returns-in_err-read-clause-looks g c = looked g.D.Disk g.met.D.Disk.only_now c.args.disk.now c.read.new.self c.read.result c.read.ensures.cause c.read.ensures.held c.read.ensures.wrapped c.read.ensures.time

pub returns-clause-looks : goal.returns-clause-looks
returns-clause-looks g c = looked g.D.Disk g.met.D.Disk.only_now c.args.disk.now c.read.new.self c.read.result c.read.ensures.cause c.read.ensures.held c.read.ensures.wrapped c.read.ensures.time
