-- What was read is an item, and where nothing was, there is none.
use Rattle.archive_volume.proofs.Readings.{item_is}
use Rattle.log_summary.proofs.Viewed.{no_item}
use Rattle.log_summary.proofs.walking.result_of.Goals as goal

pub returns-in-Ok : goal.returns-in-Ok
returns-in-Ok c = item_is c.args.payload.now c.in-Ok.read c.in-Ok.ensures.found

pub returns-in-Err : goal.returns-in-Err
returns-in-Err c = no_item c.args.payload.now c.read.result c.in-Err.field-0 c.in-Err.is c.in-Err.ensures.bytes c.read.ensures.only
