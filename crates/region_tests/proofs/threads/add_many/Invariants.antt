use Rattle.std.proofs.Common.{◌≡◌}
use Rattle.region_tests.proofs.threads.add_many.Given as goal

abbrev pub invariant-loop : goal.invariant-loop
invariant-loop l = l.stint.region ≡ l.initial.stint.region
