use Rattle.pdu_codec.proofs.Once.{once}
use Rattle.pdu_codec.proofs.laws.faults_come_once.Goals as goal

pub returns : goal.returns
returns c = once
