-- No flag is set.
use Rattle.std.proofs.Common.{refl}
use Rattle.run_script.proofs.Held.{none_held}
use Rattle.run_script.proofs.holding.no_regions.Goals as goal

pub returns-clause-clear : goal.returns-clause-clear
returns-clause-clear c = none_held _ refl
