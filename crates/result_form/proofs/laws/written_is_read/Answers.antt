use Rattle.std.proofs.Common.{arith}
use Rattle.pcp_model.proofs.Spelled.{is_payload}
use Rattle.result_form.proofs.laws.written_is_read.Goals as goal

pub returns : goal.returns
returns c = λ r range few. is_payload r range (omega arith)
