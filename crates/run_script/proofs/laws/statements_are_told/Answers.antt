-- The theorem itself.
use Rattle.run_script.proofs.Statements.{statements_are_told}
use Rattle.run_script.proofs.laws.statements_are_told.Goals as goal

pub returns : goal.returns
returns c = statements_are_told
