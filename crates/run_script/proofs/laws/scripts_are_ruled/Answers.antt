-- The theorem itself.
use Rattle.run_script.proofs.Ruled.{scripts_are_ruled}
use Rattle.run_script.proofs.laws.scripts_are_ruled.Goals as goal

pub returns : goal.returns
returns c = scripts_are_ruled
