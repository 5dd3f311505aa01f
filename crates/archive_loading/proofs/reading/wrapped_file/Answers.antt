use Rattle.archive_loading.proofs.Looking.{looked}
use Rattle.archive_loading.proofs.reading.wrapped_file.Goals as goal

pub returns-in_err-found-clause-looks : goal.returns-in_err-found-clause-looks
returns-in_err-found-clause-looks g c = looked g.D.Disk g.met.D.Disk.only_now c.args.disk.now c.wrapped.new.self c.wrapped.result c.wrapped.ensures.cause c.wrapped.ensures.held c.wrapped.ensures.wrapped c.wrapped.ensures.time

pub returns-clause-looks : goal.returns-clause-looks
returns-clause-looks g c = looked g.D.Disk g.met.D.Disk.only_now c.args.disk.now c.wrapped.new.self c.wrapped.result c.wrapped.ensures.cause c.wrapped.ensures.held c.wrapped.ensures.wrapped c.wrapped.ensures.time
