use Rattle.log_export.proofs.Exports as exports
use Rattle.log_export.proofs.laws.export_keeps_sound.Goals as goal

pub returns : goal.returns
returns c = exports.export_keeps_sound
