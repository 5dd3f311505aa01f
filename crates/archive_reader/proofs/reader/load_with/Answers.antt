use Rattle.archive_loading.proofs.Looking.{looks_on}
use Rattle.archive_reader.proofs.reader.load_with.Goals as goal

pub returns-in-Whole-clause-looks : goal.returns-in-Whole-clause-looks
returns-in-Whole-clause-looks g c = looks_on g.D.Disk c.args.disk.now c.load_index.new.disk c.load_behind.new.disk c.load_index.ensures.looks c.load_behind.ensures.looks
