use Rattle.std.proofs.Common.{◌≡◌, ℕ, List, map, ap, ap₂, ◌∙◌}
use Rattle.archive_meta.specs.Facts.{metric_of, fact_of}
use Rattle.archive_meta.specs.Missing.{values_of_keys, undescribed_metrics, position_from, at_positions}
use Rattle.archive_meta.proofs.FramedRecords.{ok_then}
use Rattle.archive_meta.proofs.Positions.{at_taken, found_first}
use Rattle.archive_meta.proofs.state.MetaState.missing_metrics.Goals as goal

pub returns : goal.returns
returns c =
    let metrics = c.args.metrics.now in
    let wanted = undescribed_metrics c.args.self.now c.args.sets.now in
    let table : c.as_slice.result.now ≡ map metric_of metrics = c.as_slice.ensures ∙ c.in_ok-table.ensures in
    let keys : c.as_slice-2.result.now ≡ wanted = c.as_slice-2.ensures ∙ c.in_ok-keys.ensures in
    ok_then c.take_positions.result (λ positions. positions ≡ values_of_keys (position_from 0 c.as_slice.result.now) c.as_slice-2.result.now) (λ positions. at_positions metrics positions ≡ values_of_keys (fact_of metrics) wanted) c.take_positions.ensures
    (λ positions e.
    ap (at_positions metrics) (e ∙ ap₂ (λ (t k : List ℕ). values_of_keys (position_from 0 t) k) table keys)
    ∙ at_taken metrics (position_from 0 (map metric_of metrics)) (fact_of metrics) wanted (found_first metric_of metrics))
