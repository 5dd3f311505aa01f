-- The first entry that stood before is the first with a key that stood before.
use Rattle.std.proofs.Common.{arith}
use Rattle.mmv_layout.specs.declared.keys.Key.TheVariants.{Item, MetricName}
use Rattle.mmv_layout.specs.Entries.{metric_count, metric_at, is_new_metric}
use Rattle.mmv_layout.specs.Faults.{metrics_duplicate_fault}
use Rattle.mmv_layout.specs.Keys.{is_new_key}
use Rattle.mmv_layout.proofs.Again.{first_same, first_both, found_at, found_none, metric_keys}
use Rattle.mmv_layout.proofs.metrics.metrics_duplicate_fault.Goals as goal

pub returns-then-first-count : goal.returns-then-first-count
unfolding metrics_duplicate_fault
returns-then-first-count c =
    found_none (metric_count c.args.words.now) _ _ (is_new_metric c.args.words.now) (λ i. metric_at c.args.words.now i)
    (first_same _ _ _ (is_new_metric c.args.words.now) (metric_keys c.args.words.now) (first_both _ _ _ (is_new_key c.args.words.now Item) (is_new_key c.args.words.now MetricName) c.in_ok-before.ensures c.in_ok-first.ensures)) c.metric_count-count.ensures (omega arith)

pub returns : goal.returns
unfolding metrics_duplicate_fault
returns c =
    found_at (metric_count c.args.words.now) _ _ _ (is_new_metric c.args.words.now) (λ i. metric_at c.args.words.now i)
    (first_same _ _ _ (is_new_metric c.args.words.now) (metric_keys c.args.words.now) (first_both _ _ _ (is_new_key c.args.words.now Item) (is_new_key c.args.words.now MetricName) c.in_ok-before.ensures c.in_ok-first.ensures)) c.metric_count-count.ensures (λ e. absurd (grind arith)) (grind arith)
