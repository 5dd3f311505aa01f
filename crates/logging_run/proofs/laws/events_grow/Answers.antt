use Rattle.logging_run.proofs.Events.{grows}
use Rattle.logging_run.proofs.laws.events_grow.Goals as goal

pub returns : goal.returns
returns c = grows
