use Rattle.pdu_codec.proofs.Once.{one_beginning}
use Rattle.pdu_codec.proofs.laws.no_pdu_begins_another.Goals as goal

pub returns : goal.returns
returns c = one_beginning
