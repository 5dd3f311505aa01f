-- The theorems themselves.
use Rattle.run_script.proofs.MadeSteps.{generated_is_read, generated_is_ruled}
use Rattle.run_script.proofs.laws.generated_is_read.Goals as goal

pub returns : goal.returns
returns c = record { read = generated_is_read; ruled = generated_is_ruled }
