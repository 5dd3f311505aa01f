use Rattle.std.specs.Option.{option_copied}
use Rattle.archive_merge.proofs.Lookups.{held_found}
use Rattle.archive_merge.proofs.naming.held_at.Goals as goal

pub returns : goal.returns
returns c = held_found (option_copied c.domain_at.result) c.args.meta.now c.args.indom c.args.t c.domain_at.ensures
