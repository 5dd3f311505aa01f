use Rattle.std.proofs.Common.{◌∙◌}
use Rattle.region_example.proofs.Adds.{counted_more}
use Rattle.region_example.proofs.running.count_all.Goals as goal

pub loop-batch-preserved : goal.loop-batch-preserved
loop-batch-preserved g c =
    let here = c.in_ok-passes.ensures.here in
    let stays = c.in_ok-image.ensures.stays in (
      (stays.region ∙ here.0, here.1, here.2, stays.number ∙ here.3, here.4),
      counted_more c.args.batches.now c.loop-batch.batch-index _ c.loop-batch.passes c.in_ok-passes.passes c.read_image.new.pass.view c.in_ok-image.image c.loop-batch.invariant.1 c.loop-batch-test.true
          c.in_ok-passes.ensures.counts c.in_ok-image.ensures.reads,
    )
