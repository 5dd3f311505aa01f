use Rattle.std.proofs.Common.{sym, subst}
use Rattle.std.specs.Prelude.{IfErr}
use Rattle.archive_frame.specs.Labels.{IsWanted, IsNumberField, IsFieldFault}
use Rattle.archive_frame.proofs.parts.number_at.Goals as goal

pub returns-in-Any-clause-fault : goal.returns-in-Any-clause-fault
returns-in-Any-clause-fault c = subst (λ w. IfErr c.any_number.result (IsFieldFault (IsNumberField (IsWanted w)) 4 c.args.bytes.now 20)) (sym c.in-Any.is) c.any_number.ensures.fault

pub returns-in-Meta-clause-fault : goal.returns-in-Meta-clause-fault
returns-in-Meta-clause-fault c = subst (λ w. IfErr c.meta_number.result (IsFieldFault (IsNumberField (IsWanted w)) 4 c.args.bytes.now 20)) (sym c.in-Meta.is) c.meta_number.ensures.fault
