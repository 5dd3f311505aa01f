-- Nothing is done before the first step.
use Rattle.std.proofs.Common.{refl}
use Rattle.run_script.proofs.Stages.{tells_none}
use Rattle.run_script.proofs.pass_stages.all_idle.Goals as goal

pub returns : goal.returns
returns c = tells_none _ refl
