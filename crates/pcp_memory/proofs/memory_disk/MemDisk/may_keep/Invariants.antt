use Rattle.std.proofs.Common.{◌≡◌, drop}
use Rattle.pcp_memory.specs.Record.{held_after, may_keep}
use Rattle.pcp_memory.proofs.memory_disk.MemDisk.may_keep.Given as goal

abbrev pub invariant-loop-entry : goal.invariant-loop-entry
invariant-loop-entry l = may_keep (drop l.entry-index l.keep) (held_after l.self.calls) ≡ may_keep l.keep (held_after l.self.calls)
