use Rattle.std.proofs.Common.{ℕ, List, IfOk, subst, arith}
use Rattle.std.proofs.lemmas.List.{take_all}
use Rattle.pcp_memory.specs.Record.{IsHeld, held_after}
use Rattle.pcp_memory.specs.declared.memory_disk.DiskChange.{DiskChange}
use Rattle.pcp_memory.proofs.memory_disk.MemDisk.held_now.Goals as goal

pub returns : goal.returns
returns c = subst (λ (l : List DiskChange). IfOk c.holdings_at.result (λ (found : ℕ × List ℕ). IsHeld (held_after l c.args.file) found.0 found.1)) (take_all c.moments.result c.args.self.now.calls (omega (arith, c.moments.ensures))) c.holdings_at.ensures
