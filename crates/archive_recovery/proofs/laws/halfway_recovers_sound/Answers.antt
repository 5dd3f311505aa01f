use Rattle.archive_recovery.proofs.Again.{recovers_sound}
use Rattle.archive_recovery.proofs.laws.halfway_recovers_sound.Goals as goal

pub returns : goal.returns
returns c = recovers_sound
