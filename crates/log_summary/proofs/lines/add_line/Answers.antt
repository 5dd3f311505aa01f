-- The line takes its place.
use Rattle.std.proofs.Common.{◌≡◌, ℤ, List, w32, to_z, of_z, map, ap, ◌∙◌}
use Rattle.std.proofs.lemmas.Int.{to_z-of_z}
use Rattle.std.specs.BTreeMap.{insert_entry}
use Rattle.log_summary.specs.Lines.{Line, line_order, line_of, metric_name}
use Rattle.log_summary.specs.Listed.{line, listed_lines}
use Rattle.log_summary.proofs.Lining.{insert_lines}
use Rattle.log_summary.proofs.lines.add_line.Goals as goal

pub returns : goal.returns
returns c =
    let lines : List Line = listed_lines c.args.lines.now in
    let plain : to_z w32 (of_z w32 c.args.instance) ≡ c.args.instance = to_z-of_z w32 c.args.instance c.ranges.instance in
    let name : c.in_ok-name.name.items ≡ metric_name c.args.meta.now c.args.pmid = c.in_ok-name.ensures.items ∙ c.metric_name.ensures in
    let text : c.in_ok-line.line.items ≡ line_of c.args.meta.now ((c.args.pmid, c.args.instance), c.args.tally.now) =
    c.in_ok-line.ensures ∙ ap (λ (i : ℤ). line_of c.args.meta.now ((c.args.pmid, i), c.args.tally.now)) plain in
    ap (map line) c.in_ok-insert.ensures.entries
    ∙ insert_lines c.args.lines.now.entries c.in_ok-name.name c.word.result (to_z w32 (of_z w32 c.args.instance)) c.in_ok-line.line
    ∙ (λ k. insert_entry line_order lines (name k, c.word.ensures k, plain k) (text k))
