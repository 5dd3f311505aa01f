use Rattle.pdu_codec.proofs.Written.{written}
use Rattle.pdu_codec.proofs.laws.written_is_read.Goals as goal

pub returns : goal.returns
returns c = written
