-- The row takes its place.
use Rattle.std.proofs.Common.{◌≡◌, ℕ, List, length, map, ap, ◌∙◌}
use Rattle.std.specs.BTreeMap.{insert_entry}
use Rattle.pm_print.specs.Infos.{row_order}
use Rattle.pm_print.specs.Rows.{row, listed_rows}
use Rattle.pm_print.proofs.Tables.{insert_rows, long_rows}
use Rattle.pm_print.proofs.infos.add_name.Goals as goal

pub returns : goal.returns
returns c =
    let rows = listed_rows c.args.rows.now in
    let count : c.len-count.result ≡ length rows = long_rows c.args.rows.now c.len-count.result c.len-count.ensures.len in
    let name : c.in_ok-key.key.items ≡ c.args.name.now = c.in_ok-key.ensures.items ∙ c.as_slice.ensures.value in
    ap (map row) c.in_ok-insert.ensures.entries
    ∙ insert_rows c.args.rows.now.entries c.in_ok-key.key c.len-count.result c.args.desc.now
    ∙ ap (λ (n : List ℕ). insert_entry row_order rows (n, c.len-count.result) c.args.desc.now) name
    ∙ ap (λ (k : ℕ). insert_entry row_order rows (c.args.name.now, k) c.args.desc.now) count
