-- The entry of a switch has room.
use Rattle.logger_core.proofs.Turned.{switch_found_room}
use Rattle.logger_core.proofs.planning.led_ends.Goals as goal

pub with_put-requires : goal.with_put-requires
with_put-requires c = switch_found_room c.args.ends.now c.switch_entry-entry.result c.switch_entry-entry.ensures
