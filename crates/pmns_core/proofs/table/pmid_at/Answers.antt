use Rattle.std.proofs.Common.{◌∙◌}
use Rattle.pmns_core.proofs.Tables.{lookup_shown}
use Rattle.pmns_core.proofs.table.pmid_at.Goals as goal

pub returns : goal.returns
returns c = c.copied.ensures ∙ c.get.ensures.value ∙ lookup_shown c.args.table.now.entries c.args.name.now
