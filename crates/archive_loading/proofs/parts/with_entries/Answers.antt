use Rattle.std.proofs.Common.{◌+◌, ◌-◌, ◌*◌, ◌/◌, length, arith}
use Rattle.archive_loading.proofs.PartsRead.{index_at}
use Rattle.archive_loading.proofs.parts.with_entries.Goals as goal

pub returns-in-Ok : goal.returns-in-Ok
returns-in-Ok c = index_at c.args.bytes.now c.args.label.now c.in-Ok.index (132 + ((length c.args.bytes.now - 132) / 20 * 20) - 132) c.requires.label c.in-Ok.ensures.found (omega arith)
