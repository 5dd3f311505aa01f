use Rattle.std.proofs.Common.{◌≡◌, []}
use Rattle.pcp_base.specs.declared.file.FileId.{FileId}
use Rattle.pcp_memory.specs.Record.{begun, held_after, kept_of}
use Rattle.pcp_memory.proofs.Left.{laid_up_to}
use Rattle.pcp_memory.proofs.memory_disk.MemDisk.crash.Given as goal

abbrev pub invariant-loop-number : goal.invariant-loop-number
invariant-loop-number l = record {
  rest : l.image ≡ begun l.image.calls [] [] l.self.wrapped;
  laid : (g : FileId) → held_after l.image.calls g ≡ laid_up_to l.number (kept_of l.keep (held_after l.self.calls)) g;
}
