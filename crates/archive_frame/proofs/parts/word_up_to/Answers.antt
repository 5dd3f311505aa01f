use Rattle.std.proofs.Common.{arith}
use Rattle.archive_frame.specs.Labels.{IsUpTo, IsFieldFault}
use Rattle.archive_frame.proofs.Exits.{handed_on}
use Rattle.archive_frame.proofs.Fields.{first_exit, second_exit, third_exit, last_exit, word_there}
use Rattle.archive_frame.proofs.parts.word_up_to.Goals as goal

pub returns-in_err-first-clause-fault : goal.returns-in_err-first-clause-fault
returns-in_err-first-clause-fault c =
    handed_on c.from_residual.result c.in_err-first.field-0.0 _ (IsFieldFault (IsUpTo c.args.most) 4 c.args.bytes.now c.args.at) c.from_residual.ensures.1 c.in_err-first.ensures.0
    (first_exit c.args.bytes.now c.args.at c.args.most (λ i. omega (arith, c.type_inv.bytes i)) (omega arith) (omega arith) c.in_err-first.ensures.1)

pub returns-in_err-second-clause-fault : goal.returns-in_err-second-clause-fault
returns-in_err-second-clause-fault c =
    handed_on c.from_residual-in_err-second.result c.in_err-second.field-0.0 _ (IsFieldFault (IsUpTo c.args.most) 4 c.args.bytes.now c.args.at) c.from_residual-in_err-second.ensures.1 c.in_err-second.ensures.0
    (second_exit c.args.bytes.now c.args.at c.args.most (λ i. omega (arith, c.type_inv.bytes i)) (omega arith) c.in_ok-first.first c.in_ok-first.ensures.0 c.in_ok-first.ensures.1 c.in_ok-first.ensures.2 c.in_err-second.ensures.1)

pub returns-in_err-third-clause-fault : goal.returns-in_err-third-clause-fault
returns-in_err-third-clause-fault c =
    handed_on c.from_residual-in_err-third.result c.in_err-third.field-0.0 _ (IsFieldFault (IsUpTo c.args.most) 4 c.args.bytes.now c.args.at) c.from_residual-in_err-third.ensures.1 c.in_err-third.ensures.0
    (third_exit c.args.bytes.now c.args.at c.args.most (λ i. omega (arith, c.type_inv.bytes i)) (omega arith) c.in_ok-first.first c.in_ok-second.second c.in_ok-second.ensures.0 c.in_ok-first.ensures.1 c.in_ok-second.ensures.1 c.in_ok-second.ensures.2 c.in_err-third.ensures.1)

pub returns-in_err-number-clause-fault : goal.returns-in_err-number-clause-fault
returns-in_err-number-clause-fault c =
    handed_on c.from_residual-in_err-number.result c.in_err-number.field-0.0 _ (IsFieldFault (IsUpTo c.args.most) 4 c.args.bytes.now c.args.at) c.from_residual-in_err-number.ensures.1 c.in_err-number.ensures.0
    (last_exit c.args.bytes.now c.args.at c.args.most (λ i. omega (arith, c.type_inv.bytes i)) (omega arith) c.in_ok-first.first c.in_ok-second.second c.in_ok-third.third c.in_ok-third.ensures.0 c.in_ok-first.ensures.1 c.in_ok-second.ensures.1 c.in_ok-third.ensures.1 c.in_ok-third.ensures.2 c.in_err-number.ensures.1)

pub returns-clause-word : goal.returns-clause-word
returns-clause-word c = (
  omega (arith, c.in_ok-number.ensures.0),
  c.in_ok-number.ensures.2,
  word_there c.args.bytes.now c.args.at c.args.most (λ i. omega (arith, c.type_inv.bytes i)) (omega arith) c.in_ok-first.first c.in_ok-second.second c.in_ok-third.third c.in_ok-number.number c.in_ok-number.ensures.0 c.in_ok-first.ensures.1 c.in_ok-second.ensures.1 c.in_ok-third.ensures.1 c.in_ok-number.ensures.1,
)
