use Rattle.log_summary.proofs.Telling.{table_tells}
use Rattle.log_summary.proofs.laws.tables_tell.Goals as goal

pub returns : goal.returns
returns c = table_tells
