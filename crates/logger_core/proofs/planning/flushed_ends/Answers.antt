-- The entry that is due has room.
use Rattle.logger_core.proofs.Turned.{found_room}
use Rattle.logger_core.proofs.planning.flushed_ends.Goals as goal

pub with_put-requires : goal.with_put-requires
with_put-requires c = found_room c.all_counted-counted.result c.due-entry.result c.due-entry.ensures
