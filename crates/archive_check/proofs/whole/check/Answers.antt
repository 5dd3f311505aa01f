use Rattle.archive_loading.proofs.Looking.{looks_on}
use Rattle.archive_check.proofs.whole.check.Goals as goal

pub returns-clause-looks : goal.returns-clause-looks
returns-clause-looks g c = looks_on g.D.Disk c.args.disk.now c.load.new.disk c.check_loaded.new.disk c.load.ensures.looks c.check_loaded.ensures.looks
