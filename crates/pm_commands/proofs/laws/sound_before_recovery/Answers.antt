use Rattle.pm_commands.proofs.Torn.{torn_is_sound}
use Rattle.pm_commands.proofs.laws.sound_before_recovery.Goals as goal

pub returns : goal.returns
returns c = λ files readable sound. (readable.0, readable.1, (torn_is_sound files readable.0 readable.1 sound).0)
