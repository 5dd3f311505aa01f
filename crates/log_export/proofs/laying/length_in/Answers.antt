-- It is looked at.
use Rattle.archive_loading.proofs.Looking.{looked}
use Rattle.log_export.proofs.laying.length_in.Goals as goal

pub returns-in-Ok-clause-looks : goal.returns-in-Ok-clause-looks
returns-in-Ok-clause-looks g c = looked g.A.Disk g.met.A.Disk.only_now c.args.source.now c.len.new.self c.len.result c.len.ensures.cause c.len.ensures.held c.len.ensures.wrapped c.len.ensures.time

pub returns-in-Err-clause-looks : goal.returns-in-Err-clause-looks
returns-in-Err-clause-looks g c = looked g.A.Disk g.met.A.Disk.only_now c.args.source.now c.len.new.self c.len.result c.len.ensures.cause c.len.ensures.held c.len.ensures.wrapped c.len.ensures.time
