use Rattle.log_summary.proofs.Printing.{are_printed}
use Rattle.log_summary.proofs.laws.numbers_are_printed.Goals as goal

pub returns : goal.returns
returns c = are_printed
