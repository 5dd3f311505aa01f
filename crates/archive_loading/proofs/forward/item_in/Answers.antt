use Rattle.std.proofs.Common.{ap, ◌∙◌, Ok, subst}
use Rattle.archive_frame.specs.Steps.{IsForward}
use Rattle.archive_loading.proofs.Frames.{no_end, no_answer, item_found}
use Rattle.archive_loading.proofs.forward.item_in.Goals as goal

pub returns-in-Ok-End : goal.returns-in-Ok-End
returns-in-Ok-End c = no_end c.args.frame.now 0 c.step_forward.result c.step_forward.ensures.only c.in-Ok-End.field-0 c.in-Ok-End.is c.in-Ok-End.field-0-is

pub returns-in-Err : goal.returns-in-Err
returns-in-Err c = no_answer c.args.frame.now 0 c.step_forward.result c.step_forward.ensures.only c.in-Err.field-0 c.in-Err.is

pub returns-in-Ok-Payload : goal.returns-in-Ok-Payload
returns-in-Ok-Payload c =
    let step = c.in-Ok-Payload in
    item_found c.args.frame.now c.step_forward.result c.step_forward.ensures.only step.from step.to step.field-0-2 c.item_of.result c.requires (step.is ∙ ap Ok step.field-0-is)
    (subst (IsForward c.args.frame.now 0) step.field-0-is step.ensures.found) c.item_of.ensures
