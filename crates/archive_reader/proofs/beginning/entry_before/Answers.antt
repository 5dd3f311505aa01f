use Rattle.std.proofs.Common.{sym}
use Rattle.archive_reader.proofs.Spanned.{no_entry, last_is}
use Rattle.archive_reader.proofs.beginning.entry_before.Goals as goal

pub returns-in-Some : goal.returns-in-Some
returns-in-Some c = sym (last_is c.args.t c.args.index.now c.in-Some.found c.in-Some.ensures)

pub returns-in-None : goal.returns-in-None
returns-in-None c = sym (no_entry c.args.t c.args.index.now c.in-None.ensures)
