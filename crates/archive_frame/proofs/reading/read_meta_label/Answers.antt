use Rattle.archive_frame.proofs.Beginnings.{meta_whole, meta_part}
use Rattle.archive_frame.proofs.reading.read_meta_label.Goals as goal

pub returns-clause-whole : goal.returns-clause-whole
returns-clause-whole c = meta_whole c.args.bytes.now c.meta_head.result c.meta_head.ensures.found c.meta_head.ensures.fault

pub returns-clause-part : goal.returns-clause-part
returns-clause-part c = meta_part c.args.bytes.now c.meta_head.result c.meta_head.ensures.found c.meta_head.ensures.fault
