use Rattle.std.proofs.Common.{◌≡◌}
use Rattle.pcp_system.proofs.adapters.WriterSinkSink.put.Given as goal

abbrev pub invariant-loop : goal.invariant-loop
invariant-loop g l = l.self.faults ≡ l.fn.self.faults
