use Rattle.pdu_codec.proofs.ResultEnds.{results_begin}
use Rattle.pdu_codec.proofs.laws.some_result_goes_so_far.Goals as goal

pub returns : goal.returns
returns c = results_begin
