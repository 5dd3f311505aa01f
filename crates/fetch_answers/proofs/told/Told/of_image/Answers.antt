-- There is a row for each value.
use Rattle.std.proofs.Common.{rules, ◌≡◌, List, length, ap, sym, ◌∙◌}
use Rattle.mmv_layout.specs.Entries.{value_count}
use Rattle.mmv_layout.specs.declared.rows.Layout.{Layout}
use Rattle.mmv_layout.specs.declared.rows.ValueRow.{ValueRow}
use Rattle.mmv_layout.specs.Rows.{layout_of}
use Rattle.fetch_answers.proofs.Numbers.{many_rows}
use Rattle.fetch_answers.proofs.told.Told.of_image.Goals as goal

pub rows_by_item-requires : goal.rows_by_item-requires
rows_by_item-requires c =
    let words : c.words.result.now ≡ c.args.image = search rules in
    let said : c.in_ok-layout.layout ≡ layout_of c.args.image = search rules in
    let rows : c.as_slice-2.result.now ≡ c.in_ok-layout.layout.values = search rules in
    c.value_count-count.ensures ∙ ap value_count words ∙ sym (many_rows c.args.image) ∙ ap (λ (l : Layout). length l.values) (sym said) ∙ ap (λ (rs : List ValueRow). length rs) (sym rows)
