use Rattle.std.proofs.Common.{refl}
use Rattle.region_example.proofs.Adds.{counts_halves}
use Rattle.region_example.proofs.running.count_batch.Goals as goal

pub returns-then-not-has_error-clause-counts : goal.returns-then-not-has_error-clause-counts
returns-then-not-has_error-clause-counts g c = counts_halves c.count_together.result c.args.lines.now c.args.passes c.args.passes refl refl c.count_together.ensures.counts

pub returns-clause-counts : goal.returns-clause-counts
returns-clause-counts g c = counts_halves c.count_together-2.result c.args.lines.now c.args.passes c.in_ok-passes.passes c.in_ok-passes.ensures.adds_none.0 c.in_ok-passes.ensures.adds_none.1 c.count_together-2.ensures.counts
