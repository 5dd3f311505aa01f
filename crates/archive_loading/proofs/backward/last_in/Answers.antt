use Rattle.std.proofs.Common.{length, sym, subst}
use Rattle.archive_frame.specs.Steps.{IsBack}
use Rattle.archive_loading.specs.declared.backward.Last.TheVariants.{Item}
use Rattle.archive_loading.specs.Ending.{IsWholeRecord}
use Rattle.archive_loading.proofs.Endings.{ends_nothing, read_of}
use Rattle.archive_loading.proofs.backward.last_in.Goals as goal

pub returns-in_ok-to_item-in-Some : goal.returns-in_ok-to_item-in-Some
returns-in_ok-to_item-in-Some c = λ tailed.
    let step = c.in-Ok-Payload in
    subst (λ x. IsWholeRecord c.args.frame.now c.args.first (Item x)) (sym c.in_ok-to_item-in-Some.ensures)
    ((read_of c.args.frame.now c.args.first step.from step.to step.field-0-2 c.item_of.result tailed (subst (IsBack c.args.frame.now (length c.args.frame.now)) step.field-0-is step.ensures.found)
    c.item_of.ensures).1 c.in-Some.item c.in-Some.is)

pub returns-in-None : goal.returns-in-None
returns-in-None c = λ tailed.
    let step = c.in-Ok-Payload in
    (read_of c.args.frame.now c.args.first step.from step.to step.field-0-2 c.item_of.result tailed (subst (IsBack c.args.frame.now (length c.args.frame.now)) step.field-0-is step.ensures.found)
    c.item_of.ensures).0 c.in-None.is

pub returns-in-Err : goal.returns-in-Err
returns-in-Err c = λ tailed payload s. ends_nothing c.args.frame.now c.step_back.result c.step_back.ensures.only c.in-Err.field-0 c.in-Err.is payload s
