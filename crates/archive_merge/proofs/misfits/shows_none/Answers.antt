use Rattle.std.proofs.Common.{◌∙◌}
use Rattle.archive_merge.proofs.Lookups.{none_named}
use Rattle.archive_merge.proofs.misfits.shows_none.Goals as goal

pub returns : goal.returns
returns g c = c.is_empty.ensures ∙ none_named c.args.shown.now
