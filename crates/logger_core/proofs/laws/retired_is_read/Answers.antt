use Rattle.logger_core.proofs.WithoutSound.{is_read}
use Rattle.logger_core.proofs.laws.retired_is_read.Goals as goal

pub returns : goal.returns
returns c = is_read
