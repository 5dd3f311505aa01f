use Rattle.log_export.proofs.Exports as exports
use Rattle.log_export.proofs.laws.export_is_read.Goals as goal

pub returns : goal.returns
returns c = exports.export_is_read
