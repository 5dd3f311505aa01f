use Rattle.logging_run.specs.Named.{run_label}
use Rattle.logging_run.proofs.OneArchive.{one_led}
use Rattle.logging_run.proofs.laws.events_lead_to_one.Goals as goal

pub returns : goal.returns
returns c = λ limit left events files others a b. one_led run_label limit left events files others a b
