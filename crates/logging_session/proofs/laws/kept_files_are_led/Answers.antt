use Rattle.logging_session.proofs.Sessions.{kept_files}
use Rattle.logging_session.proofs.laws.kept_files_are_led.Goals as goal

pub returns : goal.returns
returns c = λ left events s held k none. (k.stand, k.lead, kept_files left events s held k none)
