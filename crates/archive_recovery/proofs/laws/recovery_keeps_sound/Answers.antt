use Rattle.archive_recovery.proofs.KeepsSound.{recovery_keeps_sound}
use Rattle.archive_recovery.proofs.laws.recovery_keeps_sound.Goals as goal

pub returns : goal.returns
returns c = recovery_keeps_sound
