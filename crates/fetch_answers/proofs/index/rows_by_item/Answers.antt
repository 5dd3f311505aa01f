-- One row more was kept.
use Rattle.std.proofs.Common.{rules, ◌≡◌, ◌<◌, length, get_or}
use Rattle.fetch_answers.proofs.Numbers.{rows_step}
use Rattle.fetch_answers.proofs.index.rows_by_item.Goals as goal

pub loop-number-preserved : goal.loop-number-preserved
loop-number-preserved c =
    let below : c.loop-number.number < length c.args.rows.now = search rules in
    let row : c.index-rows-number.result ≡ get_or c.args.rows.now c.loop-number.number c.index-rows-number.result = search rules in
    rows_step c.loop-number.table c.keep_row.new.table c.args.rows.now c.loop-number.number c.index-rows-number.result c.index-rows-number.result below row c.loop-number.invariant c.in_ok-keep_row.ensures
