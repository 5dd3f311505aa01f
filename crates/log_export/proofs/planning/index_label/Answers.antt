use Rattle.archive_loading.proofs.Looking.{looked}
use Rattle.log_export.proofs.planning.index_label.Goals as goal

pub returns-in-Ok-clause-looks : goal.returns-in-Ok-clause-looks
returns-in-Ok-clause-looks g c = looked g.D.Disk g.met.D.Disk.only_now c.args.disk.now c.read.new.self c.read.result c.read.ensures.cause c.read.ensures.held c.read.ensures.wrapped c.read.ensures.time

pub returns-in-Err-clause-looks : goal.returns-in-Err-clause-looks
returns-in-Err-clause-looks g c = looked g.D.Disk g.met.D.Disk.only_now c.args.disk.now c.read.new.self c.read.result c.read.ensures.cause c.read.ensures.held c.read.ensures.wrapped c.read.ensures.time
