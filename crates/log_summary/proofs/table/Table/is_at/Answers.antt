-- The key of a row that was found there.
use Rattle.std.proofs.Common.{◌≡◌, Some, slice_get, sym, ap, ◌∙◌}
use Rattle.std.proofs.lemmas.Option.{slice_get_within}
use Rattle.log_summary.specs.Tables.{Row, Rows, Key}
use Rattle.log_summary.proofs.Tabled.{same_is}
use Rattle.log_summary.proofs.table.Table.is_at.Goals as goal

pub returns-in-Some : goal.returns-in-Some
returns-in-Some c = λ same.
    let key : c.in-Some.found.now ≡ c.args.key = same_is c.in-Some.found.now c.args.key (sym c.eq.ensures ∙ same) in
    let row : Row = (c.args.key, c.in-Some.field-0-1.now) in
    let at : slice_get c.args.self.now c.args.row ≡ Some row =
    ap (λ (rows : Rows). slice_get rows c.args.row) (sym c.self.view_is) ∙ sym c.in-Some.ensures.entry ∙ ap (λ (k : Key). Some (k, c.in-Some.field-0-1.now)) key in
    (slice_get_within c.args.self.now c.args.row row at, c.in-Some.field-0-1.now, at)
