use Rattle.std.proofs.Common.{◌∙◌, sym}
use Rattle.archive_loading.proofs.PartsRead.{meta_stops_at}
use Rattle.archive_loading.proofs.labels.meta_head.Goals as goal

pub returns-in-Some : goal.returns-in-Some
returns-in-Some c = meta_stops_at c.args.bytes.now c.in-Err.fault c.in-Some.at (sym c.label_offset.ensures ∙ c.in-Some.is) c.in-Err.ensures.fault
