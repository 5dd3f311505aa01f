-- The passes are those of the region, and the batches so far were counted.
use Rattle.std.proofs.Common.{take}
use Rattle.region_example.specs.Counts.{AreOf, HasCounted}
use Rattle.region_example.proofs.running.count_all.Given as goal

abbrev pub invariant-loop-batch : goal.invariant-loop-batch
invariant-loop-batch g l = AreOf l.region l.passes × HasCounted (take l.batch-index l.batches) l.passes.0.view l.passes.1.view
