-- An item's stamp is that of its result.
use Rattle.std.proofs.Common.{sym, ◌∙◌}
use Rattle.log_summary.proofs.Viewed.{item_stamp}
use Rattle.log_summary.proofs.walking.stamp_of.Goals as goal

pub returns : goal.returns
returns c = c.stamp.ensures ∙ sym (item_stamp c.args.read.now)
