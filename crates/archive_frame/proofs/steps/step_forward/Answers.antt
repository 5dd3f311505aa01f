use Rattle.archive_frame.proofs.Only.{only_forward}
use Rattle.archive_frame.proofs.steps.step_forward.Goals as goal

pub returns-clause-only : goal.returns-clause-only
returns-clause-only c = only_forward c.args.bytes.now c.args.at c.forward.result c.forward.ensures.found c.forward.ensures.fault
