use Rattle.std.proofs.Common.{◌≡◌}
use Rattle.pcp_system.proofs.client.ClientSourceSource.take.Given as goal

abbrev pub invariant-loop : goal.invariant-loop
invariant-loop l = l.self.faults ≡ l.fn.self.faults
