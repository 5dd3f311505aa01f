use Rattle.log_export.proofs.Exports as exports
use Rattle.log_export.proofs.laws.export_begins.Goals as goal

pub returns : goal.returns
returns c = exports.export_begins
