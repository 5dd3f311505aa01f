use Rattle.archive_frame.proofs.Only.{only_back}
use Rattle.archive_frame.proofs.steps.step_back.Goals as goal

pub returns-clause-only : goal.returns-clause-only
returns-clause-only c = only_back c.args.bytes.now c.args.at c.back.result c.back.ensures.found c.back.ensures.fault
