use Rattle.pdu_codec.proofs.ResultStops.{results_stop}
use Rattle.pdu_codec.proofs.laws.no_result_goes_on.Goals as goal

pub returns : goal.returns
returns c = results_stop
