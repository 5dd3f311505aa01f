use Rattle.archive_loading.proofs.Looking.{looks_on}
use Rattle.archive_reader.proofs.reader.ArchiveReader.load.Goals as goal

pub returns-in-None-clause-looks : goal.returns-in-None-clause-looks
returns-in-None-clause-looks g c = looks_on g.D.Disk c.args.disk.now c.wrapped_file.new.disk c.load_files.new.disk c.wrapped_file.ensures.looks c.load_files.ensures.looks
