use Rattle.std.proofs.Common.{Err, sym, ◌∙◌, arith, inr}
use Rattle.std.specs.Prelude.{◌≢◌}
use Rattle.result_form.specs.declared.fault.FormFault.TheVariants.{NoMemory}
use Rattle.result_form.specs.Faults.{IsFormFault}
use Rattle.result_form.proofs.Again.{payload_again}
use Rattle.result_form.proofs.Whole.{payload_takes}
use Rattle.result_form.proofs.FaultsFound.{is_fault}
use Rattle.result_form.proofs.Refused.{err_handed, never_memory, not_read}
use Rattle.result_form.proofs.view.ResultView.read.Goals as goal

pub returns-in_err-stamp-clause-only : goal.returns-in_err-stamp-clause-only
returns-in_err-stamp-clause-only c = λ r is. absurd (not_read c.args.payload.now c.in_err-stamp.field-0.0 r (λ i. omega (arith, c.type_inv.payload i)) is c.in_err-stamp.ensures)

pub returns-in_err-stamp-clause-fault : goal.returns-in_err-stamp-clause-fault
returns-in_err-stamp-clause-fault c = err_handed c.from_residual.result c.in_err-stamp.field-0.0 (IsFormFault c.args.payload.now) c.from_residual.ensures.1 (is_fault c.args.payload.now (Err c.in_err-stamp.field-0.0) (inr c.in_err-stamp.ensures))

pub returns-in_err-stamp-clause-bytes : goal.returns-in_err-stamp-clause-bytes
returns-in_err-stamp-clause-bytes c = err_handed c.from_residual.result c.in_err-stamp.field-0.0 (λ e. e ≢ NoMemory) c.from_residual.ensures.1 (never_memory c.args.payload.now c.in_err-stamp.field-0.0 c.in_err-stamp.ensures)

pub returns-clause-found : goal.returns-clause-found
returns-clause-found c = payload_takes c.args.payload.now _ (λ i. omega (arith, c.type_inv.payload i)) c.in_ok-stamp.ensures.0

pub returns-clause-only : goal.returns-clause-only
returns-clause-only c = λ r is. sym c.in_ok-stamp.ensures.0 ∙ payload_again c.args.payload.now r (λ i. omega (arith, c.type_inv.payload i)) is
