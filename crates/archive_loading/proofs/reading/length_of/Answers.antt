use Rattle.archive_loading.proofs.Looking.{looked}
use Rattle.archive_loading.proofs.reading.length_of.Goals as goal

pub returns-in_err-length-clause-looks : goal.returns-in_err-length-clause-looks
returns-in_err-length-clause-looks g c = looked g.D.Disk g.met.D.Disk.only_now c.args.disk.now c.len.new.self c.len.result c.len.ensures.cause c.len.ensures.held c.len.ensures.wrapped c.len.ensures.time

pub returns-clause-looks : goal.returns-clause-looks
returns-clause-looks g c = looked g.D.Disk g.met.D.Disk.only_now c.args.disk.now c.len.new.self c.len.result c.len.ensures.cause c.len.ensures.held c.len.ensures.wrapped c.len.ensures.time

pub returns-then-length-clause-looks : goal.returns-then-length-clause-looks
returns-then-length-clause-looks g c = looked g.D.Disk g.met.D.Disk.only_now c.args.disk.now c.len.new.self c.len.result c.len.ensures.cause c.len.ensures.held c.len.ensures.wrapped c.len.ensures.time
