use Rattle.logging_session.proofs.Recovering.{later_comes}
use Rattle.logging_session.proofs.laws.recovered_come_back.Goals as goal

pub returns : goal.returns
returns c = λ old mid archive more k image w comes. later_comes old mid archive w more k image comes
