-- What is joined to a row in its place is put there.
use Rattle.std.proofs.Common.{◌≡◌, Option, Some, slice_get, unwrap_or, sym, ap, ◌∙◌}
use Rattle.indexmap.specs.IndexMap.{set_value_at}
use Rattle.log_summary.specs.declared.tally.Tally.{Tally}
use Rattle.log_summary.specs.Tallies.{joined}
use Rattle.log_summary.specs.Tables.{Row, Rows, put}
use Rattle.log_summary.proofs.Rowed.{put_there}
use Rattle.log_summary.proofs.table.Table.join_at.Goals as goal

pub returns : goal.returns
returns c = λ key before at.
    let rows : Rows = c.self.inside.tallies.entries in
    let there : slice_get rows c.args.row ≡ Some (key, before) = ap (λ (l : Rows). slice_get l c.args.row) c.self.view_is ∙ at in
    let same : c.pair_mut-before.result.1.now ≡ before = ap (λ (o : Option Row). (unwrap_or o (key, before)).1) (sym c.pair_mut-before.ensures.value ∙ there) in
    ap (λ (t : Tally). set_value_at rows c.args.row t) (c.joined.ensures ∙ ap (λ (t : Tally). joined t c.args.tally.now) same)
    ∙ put_there rows c.args.row key before c.args.tally.now c.pair_mut-before.ensures.unique there
    ∙ ap (λ (l : Rows). put l (key, c.args.tally.now)) c.self.view_is
