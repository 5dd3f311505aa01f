use Rattle.logging_session.proofs.Sessions.{kept_whole}
use Rattle.logging_session.proofs.laws.kept_files_are_whole.Goals as goal

pub returns : goal.returns
returns c = kept_whole
