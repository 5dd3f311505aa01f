use Rattle.archive_loading.proofs.Looking.{looks_on}
use Rattle.archive_loading.proofs.reading.whole_of.Goals as goal

pub returns-clause-looks : goal.returns-clause-looks
returns-clause-looks g c = looks_on g.D.Disk c.args.disk.now c.length_of.new.disk c.take_bytes.new.disk c.length_of.ensures.looks c.take_bytes.ensures.looks

pub returns-in_err-take_bytes-clause-looks : goal.returns-in_err-take_bytes-clause-looks
returns-in_err-take_bytes-clause-looks g c = looks_on g.D.Disk c.args.disk.now c.length_of.new.disk c.take_bytes.new.disk c.length_of.ensures.looks c.take_bytes.ensures.looks
