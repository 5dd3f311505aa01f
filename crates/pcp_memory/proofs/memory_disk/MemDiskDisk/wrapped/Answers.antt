use Rattle.std.proofs.Common.{ap}
use Rattle.pcp_memory.specs.Record.{DiskState}
use Rattle.pcp_memory.proofs.Moments.{elapses_same}
use Rattle.pcp_memory.proofs.memory_disk.MemDiskDisk.wrapped.Goals as goal

pub returns-in_err-look-clause-time : goal.returns-in_err-look-clause-time
returns-in_err-look-clause-time c = elapses_same c.args.self.now.calls c.look.new.self.calls (ap (λ (d : DiskState). d.calls) c.look.ensures.after)

pub returns-clause-time : goal.returns-clause-time
returns-clause-time c = elapses_same c.args.self.now.calls c.look.new.self.calls (ap (λ (d : DiskState). d.calls) c.look.ensures.after)
