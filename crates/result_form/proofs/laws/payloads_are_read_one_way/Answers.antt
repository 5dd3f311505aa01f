use Rattle.std.proofs.Common.{sym, ◌∙◌}
use Rattle.result_form.proofs.Again.{payload_again}
use Rattle.result_form.proofs.Spans.{ok_is}
use Rattle.result_form.proofs.Whole.{payload_takes}
use Rattle.result_form.proofs.laws.payloads_are_read_one_way.Goals as goal

pub returns : goal.returns
returns c = λ bytes fits. record {
  read = λ r is. payload_again bytes r fits is;
  said = λ r e. payload_takes bytes r fits e;
  one = λ r s is also. ok_is r s (sym (payload_again bytes r fits is) ∙ payload_again bytes s fits also);
}
