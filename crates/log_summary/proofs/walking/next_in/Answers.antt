-- A frame over which a step went, with a result or with none; and a step that was refused.
use Rattle.std.proofs.Common.{ap, ◌∙◌, Ok, sym, subst}
use Rattle.std.specs.List.{slice_range}
use Rattle.std.specs.Option.{option_map}
use Rattle.archive_frame.specs.Steps.{IsForward}
use Rattle.archive_loading.specs.Standing.{IsItemOf}
use Rattle.archive_loading.proofs.Frames.{not_read, no_answer}
use Rattle.archive_volume.specs.Items.{item_of}
use Rattle.log_summary.proofs.Walked.{stands_whole, other_step, torn_step}
use Rattle.log_summary.proofs.walking.next_in.Goals as goal

pub returns-in-Some : goal.returns-in-Some
returns-in-Some c =
    let step = c.in-Ok-Payload in
    let found = subst (IsForward c.args.bytes.now c.args.at) step.field-0-is step.ensures.found in
    record {
      payload = slice_range c.args.bytes.now step.from step.to;
      stands = found.0;
      reads = subst (λ o. IsItemOf (slice_range c.args.bytes.now step.from step.to) (option_map item_of o)) c.in-Some.is c.result_of.ensures;
    }

pub returns-in-None : goal.returns-in-None
returns-in-None c =
    let step = c.in-Ok-Payload in
    let found = subst (IsForward c.args.bytes.now c.args.at) step.field-0-is step.ensures.found in (
      not_read c.args.bytes.now c.args.at c.step_forward.result c.step_forward.ensures.only step.from step.to step.next (step.is ∙ ap Ok step.field-0-is)
          (subst (λ o. IsItemOf (slice_range c.args.bytes.now step.from step.to) (option_map item_of o)) c.in-None.is c.result_of.ensures),
      stands_whole c.args.bytes.now (slice_range c.args.bytes.now step.from step.to) c.args.at step.next found.0,
    )

pub returns-then-is_torn : goal.returns-then-is_torn
returns-then-is_torn c = torn_step c.args.bytes.now c.args.at c.in-Err.fault c.in-Err.ensures.fault (sym c.is_torn.ensures ∙ c.if-is_torn.true)

pub returns-else-is_torn : goal.returns-else-is_torn
returns-else-is_torn c = (
  no_answer c.args.bytes.now c.args.at c.step_forward.result c.step_forward.ensures.only c.in-Err.fault c.in-Err.is,
  other_step c.args.bytes.now c.args.at c.in-Err.fault c.in-Err.ensures.fault (sym c.is_torn.ensures ∙ c.if-is_torn.false),
)
