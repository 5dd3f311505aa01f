use Rattle.std.proofs.Common.{refl}
use Rattle.archive_frame.specs.Labels.{IsMetaNumber, IsNumberField, IsFieldFault}
use Rattle.archive_frame.proofs.Exits.{handed_on}
use Rattle.archive_frame.proofs.Numbers.{meta_fault, meta_there}
use Rattle.archive_frame.proofs.parts.meta_number.Goals as goal

pub returns-in_err-wanted_at-clause-fault : goal.returns-in_err-wanted_at-clause-fault
returns-in_err-wanted_at-clause-fault c =
    handed_on c.from_residual.result c.in_err-wanted_at.field-0.0 c.in_err-wanted_at.field-0.0 (IsFieldFault (IsNumberField IsMetaNumber) 4 c.args.bytes.now 20) c.from_residual.ensures.1 refl
    (meta_fault c.args.bytes.now c.in_err-wanted_at.field-0.0 c.in_err-wanted_at.ensures.fault)

pub returns-clause-number : goal.returns-clause-number
returns-clause-number c = meta_there c.args.bytes.now c.in_ok-wanted_at.ensures.there.0 c.in_ok-wanted_at.ensures.there.1
