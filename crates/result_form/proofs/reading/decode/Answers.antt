use Rattle.std.proofs.Common.{Ok, Err, refl, sym, ap, ◌∙◌}
use Rattle.result_form.proofs.ShownPairs.{other_fault}
use Rattle.result_form.proofs.reading.decode.Goals as goal

pub returns-in_err-read-clause-only : goal.returns-in_err-read-clause-only
returns-in_err-read-clause-only c = λ r is. absurd (other_fault (Err c.in_err-read.field-0.0) r c.in_err-read.field-0.0 (c.in_err-read.ensures.only r is) refl)

pub returns-clause-only : goal.returns-clause-only
returns-clause-only c = λ r is. sym (c.in_ok-read.ensures.only r is) ∙ ap Ok (sym c.in_ok-answer.ensures)
