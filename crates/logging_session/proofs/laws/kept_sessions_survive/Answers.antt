use Rattle.logging_session.proofs.Sessions.{kept_comes}
use Rattle.logging_session.proofs.laws.kept_sessions_survive.Goals as goal

pub returns : goal.returns
returns c = λ left events s held image k crash. kept_comes left events s held k image crash
