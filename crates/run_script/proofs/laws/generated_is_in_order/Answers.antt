-- The theorems themselves.
use Rattle.run_script.proofs.MadeOrder.{generated_ticks, generated_adds, draws_are_adds, generated_order}
use Rattle.run_script.proofs.laws.generated_is_in_order.Goals as goal

pub returns : goal.returns
returns c = record { ticks = generated_ticks; adds = generated_adds; bounds = draws_are_adds; order = generated_order }
