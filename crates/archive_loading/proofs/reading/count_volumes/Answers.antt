use Rattle.archive_loading.proofs.Looking.{looked}
use Rattle.archive_loading.proofs.reading.count_volumes.Goals as goal

pub returns-in_err-count-clause-looks : goal.returns-in_err-count-clause-looks
returns-in_err-count-clause-looks g c = looked g.D.Disk g.met.D.Disk.only_now c.args.disk.now c.volumes.new.self c.volumes.result c.volumes.ensures.cause c.volumes.ensures.held c.volumes.ensures.wrapped c.volumes.ensures.time

pub returns-clause-looks : goal.returns-clause-looks
returns-clause-looks g c = looked g.D.Disk g.met.D.Disk.only_now c.args.disk.now c.volumes.new.self c.volumes.result c.volumes.ensures.cause c.volumes.ensures.held c.volumes.ensures.wrapped c.volumes.ensures.time
