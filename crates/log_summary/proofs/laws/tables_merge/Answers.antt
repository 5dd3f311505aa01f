use Rattle.log_summary.proofs.Tabled.{tables_merge}
use Rattle.log_summary.proofs.laws.tables_merge.Goals as goal

pub returns : goal.returns
returns c = tables_merge
