-- Each condition's values are those of the whole row.
use Rattle.rule_watch.proofs.Lacking.{rows_may_lack}
use Rattle.rule_watch.proofs.laws.rows_may_lack_others.Goals as goal

pub returns : goal.returns
returns c = rows_may_lack
