use Rattle.archive_loading.proofs.Looking.{looks_on}
use Rattle.archive_reader.proofs.reader.load_files.Goals as goal

pub returns-in-Whole-clause-looks : goal.returns-in-Whole-clause-looks
returns-in-Whole-clause-looks g c = looks_on g.D.Disk c.args.disk.now c.load_meta.new.disk c.load_with.new.disk c.load_meta.ensures.looks c.load_with.ensures.looks

pub returns-in-Begun-clause-looks : goal.returns-in-Begun-clause-looks
returns-in-Begun-clause-looks g c = looks_on g.D.Disk c.args.disk.now c.load_meta.new.disk c.load_begun.new.disk c.load_meta.ensures.looks c.load_begun.ensures.looks
