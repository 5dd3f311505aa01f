use Rattle.std.proofs.Common.{take}
use Rattle.pcp_memory.specs.Record.{IsHeld, held_after}
use Rattle.pcp_memory.proofs.memory_disk.MemDisk.holdings_at.Given as goal

abbrev pub invariant-loop-call : goal.invariant-loop-call
invariant-loop-call l = IsHeld (held_after (take l.call-index l.call-items) l.file) l.sure l.bytes.items
