use Rattle.std.proofs.Common.{ap, ◌∙◌, is_some}
use Rattle.pmns_core.proofs.Tables.{lookup_shown, there_some}
use Rattle.pmns_core.specs.Tables.{pairs_of}
use Rattle.pmns_core.proofs.table.has.Goals as goal

pub returns : goal.returns
returns c = c.contains_key.ensures ∙ ap is_some (lookup_shown c.args.table.now.entries c.args.name.now) ∙ there_some (pairs_of c.args.table.now) c.args.name.now
