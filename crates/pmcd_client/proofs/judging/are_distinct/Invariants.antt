use Rattle.std.proofs.Common.{◌≡◌, length}
use Rattle.pmcd_client.proofs.Matching.{are_apart}
use Rattle.pmcd_client.proofs.judging.are_distinct.Given as goal

abbrev pub invariant-loop-rest : goal.invariant-loop-rest
invariant-loop-rest l = are_apart l.rest ≡ are_apart l.pairs

abbrev pub decreases-loop-rest : goal.decreases-loop-rest
decreases-loop-rest l = length l.rest
