use Rattle.record_run.proofs.Unlost.{no_line_lost}
use Rattle.record_run.proofs.laws.no_line_is_lost.Goals as goal

pub returns : goal.returns
returns c = no_line_lost
