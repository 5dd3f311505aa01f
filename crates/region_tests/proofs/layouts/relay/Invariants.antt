use Rattle.std.proofs.Common.{◌≡◌}
use Rattle.region_tests.proofs.layouts.relay.Given as goal

abbrev pub invariant-loop-layout : goal.invariant-loop-layout
invariant-loop-layout g l = l.pass.region ≡ l.initial.pass.region
