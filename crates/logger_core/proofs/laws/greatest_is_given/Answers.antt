use Rattle.logger_core.proofs.Greatest.{greatest_found}
use Rattle.logger_core.proofs.laws.greatest_is_given.Goals as goal

pub returns : goal.returns
returns c = λ m e held at none. greatest_found m.files m.contents at.stands.keeps.is m.greatest (at.ends.found none)
