use Rattle.std.proofs.Common.{Ok, Err}
use Rattle.archive_volume.proofs.Readings.{item_is, item_shown}
use Rattle.archive_volume.proofs.viewing.ItemView.read.Goals as goal

pub returns-in-Ok-clause-found : goal.returns-in-Ok-clause-found
returns-in-Ok-clause-found c = item_is c.args.payload.now c.in-Ok.read c.in-Ok.ensures.found

pub returns-in-Ok-clause-only : goal.returns-in-Ok-clause-only
returns-in-Ok-clause-only c = item_shown c.args.payload.now (Ok c.in-Ok.read) c.in-Ok.ensures.only

pub returns-in-Err-clause-only : goal.returns-in-Err-clause-only
returns-in-Err-clause-only c = item_shown c.args.payload.now (Err c.in-Err.fault) c.in-Err.ensures.only
