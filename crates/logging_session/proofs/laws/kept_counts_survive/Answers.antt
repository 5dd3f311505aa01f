use Rattle.logging_session.proofs.Sessions.{kept_counts}
use Rattle.logging_session.proofs.laws.kept_counts_survive.Goals as goal

pub returns : goal.returns
returns c = λ left files image events s held r k crash reads recovered. kept_counts left events s held k files image r crash reads recovered
