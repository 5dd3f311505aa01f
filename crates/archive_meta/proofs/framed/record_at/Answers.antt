use Rattle.std.proofs.Common.{refl, ap, ◌∙◌, Ok}
use Rattle.archive_meta.proofs.OneRecord.{no_end, no_answer, not_read, none_read}
use Rattle.archive_meta.proofs.framed.record_at.Goals as goal

pub returns-in-Ok-End-clause-fault : goal.returns-in-Ok-End-clause-fault
returns-in-Ok-End-clause-fault c = (refl, no_end c.args.bytes.now c.args.at c.step_forward.result c.step_forward.ensures.only c.in-Ok-End.field-0 c.in-Ok-End.is c.in-Ok-End.field-0-is)

pub returns-in-Err-clause-fault : goal.returns-in-Err-clause-fault
returns-in-Err-clause-fault c = (refl, no_answer c.args.bytes.now c.args.at c.step_forward.result c.step_forward.ensures.only c.in-Err.field-0 c.in-Err.is)

pub returns-in-None-clause-fault : goal.returns-in-None-clause-fault
returns-in-None-clause-fault c = (
  refl,
  not_read c.args.bytes.now c.args.at c.step_forward.result c.step_forward.ensures.only c.in-Ok-Payload.from c.in-Ok-Payload.to c.in-Ok-Payload.next (c.in-Ok-Payload.is ∙ ap Ok c.in-Ok-Payload.field-0-is)
      (λ r reads. none_read c.in_ok-record-in-Ok-Payload.field-0 r c.in-None.is (c.in_ok-record-in-Ok-Payload.ensures.only r reads)),
)
