use Rattle.std.proofs.Common.{sym}
use Rattle.archive_reader.proofs.Spanned.{no_entry_by, last_by}
use Rattle.archive_reader.proofs.beginning.entry_by.Goals as goal

pub returns-in-Some : goal.returns-in-Some
returns-in-Some c = sym (last_by c.args.t c.args.index.now c.in-Some.found c.in-Some.ensures)

pub returns-in-None : goal.returns-in-None
returns-in-None c = sym (no_entry_by c.args.t c.args.index.now c.in-None.ensures)
