use Rattle.std.proofs.Common.{sym, ◌∙◌}
use Rattle.std.specs.List.{slice_get}
use Rattle.archive_merge.proofs.Lookups.{numbered_none, numbered_some}
use Rattle.archive_merge.proofs.naming.is_number_at.Goals as goal

pub returns-in-None : goal.returns-in-None
returns-in-None c = sym (numbered_none c.args.instance (slice_get c.args.pairs.now c.args.at) (sym c.number.ensures ∙ c.in-None.is))
