use Rattle.archive_loading.proofs.PartsRead.{no_entry}
use Rattle.archive_loading.proofs.parts.no_entries.Goals as goal

pub returns-in-Ok : goal.returns-in-Ok
returns-in-Ok c = no_entry c.in-Ok.index c.in-Ok.ensures.only
