-- None so far.
use Rattle.std.proofs.Common.{◌≡◌, [], replicate}
use Rattle.run_archive.proofs.plans.none_asked.Given as goal

abbrev pub invariant-loop : goal.invariant-loop
invariant-loop l = l.asked.items ≡ replicate l.counter []
