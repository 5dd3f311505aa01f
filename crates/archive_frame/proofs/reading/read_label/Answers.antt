use Rattle.archive_frame.proofs.Unique.{only_reading}
use Rattle.archive_frame.proofs.reading.read_label.Goals as goal

pub returns-clause-only : goal.returns-clause-only
returns-clause-only c = only_reading c.args.bytes.now c.read_any.result c.read_any.ensures.found c.read_any.ensures.fault
