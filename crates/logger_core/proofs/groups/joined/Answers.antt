-- What didn't grow is cut back.
use Rattle.std.proofs.Common.{ap, ◌∙◌, List, ℕ}
use Rattle.logger_core.proofs.RunKept.{back_again}
use Rattle.logger_core.proofs.groups.joined.Goals as goal

pub returns : goal.returns
returns c =
    let run = c.args.run in
    ap (λ (x : List ℕ). record { crossing = run.crossing; records = x; items = c.first_bytes-2.result; count = run.count; stamp = run.stamp })
    (back_again c.first_bytes.result c.with_more-records.result.0 run.records c.as_slice.result.now c.with_more-records.result.1 c.len-records_length.result c.first_bytes.ensures c.len-records_length.ensures c.with_more-records.ensures)
    ∙ ap (λ (x : List ℕ). record { crossing = run.crossing; records = run.records; items = x; count = run.count; stamp = run.stamp })
    (back_again c.first_bytes-2.result c.with_more-items.result.0 run.items c.as_slice-2.result.now c.with_more-items.result.1 c.len-items_length.result c.first_bytes-2.ensures c.len-items_length.ensures c.with_more-items.ensures)
