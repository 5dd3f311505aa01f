use Rattle.logging_run.proofs.Events.{run_items}
use Rattle.logging_run.proofs.laws.items_are_reports.Goals as goal

pub returns : goal.returns
returns c = run_items
