use Rattle.logger_core.proofs.Survival.{survives}
use Rattle.logger_core.proofs.laws.kept_files_survive.Goals as goal

pub returns : goal.returns
returns c = survives
