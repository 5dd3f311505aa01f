-- The count so far is of the parts, and of the instances of those that the loop has passed.
use Rattle.std.proofs.Common.{◌≡◌, ◌+◌, min, length, take, sum_by}
use Rattle.profile_filter.proofs.profile.count_of.Given as goal

abbrev pub invariant-loop-part : goal.invariant-loop-part
invariant-loop-part l = l.count ≡ min (length l.parts + sum_by (λ part. length part.instances) (take l.part-index l.parts)) 18446744073709551615
