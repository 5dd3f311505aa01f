-- So far they are the same.
use Rattle.std.proofs.Common.{◌≡◌, ℕ, ◌<◌}
use Rattle.std.specs.Prelude.{slice_get}
use Rattle.pcp_model.specs.Instances.{instance_at}
use Rattle.pcp_model.proofs.instances.are_instances.Given as goal

abbrev pub invariant-loop-i : goal.invariant-loop-i
invariant-loop-i l = (k : ℕ) → k < l.i → instance_at l.count l.bytes k ≡ slice_get l.pairs k
