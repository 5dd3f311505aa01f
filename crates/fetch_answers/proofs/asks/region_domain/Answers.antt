-- The rows are those that the region showed.
use Rattle.std.proofs.Common.{rules, ◌≡◌, ◌==◌, ℕ, List, Option, Some, subst}
use Rattle.std.specs.Prelude.{option_map}
use Rattle.std.specs.List.{find}
use Rattle.mmv_layout.specs.declared.rows.IndomRow.{IndomRow}
use Rattle.mmv_layout.specs.Rows.{layout_of}
use Rattle.fetch_answers.specs.Asks.{Tells, layout_domain, row_asked}
use Rattle.fetch_answers.proofs.asks.region_domain.Goals as goal

pub returns-in-Some : goal.returns-in-Some
returns-in-Some c =
    let there : Some c.in-Some.told ≡ c.args.region.now.image = search rules in
    let rows = subst (λ (rows : List IndomRow). Tells c.row_domain.result (row_asked (find (λ (row : IndomRow). row.serial == c.args.serial) rows))) c.indoms.ensures c.row_domain.ensures in
    subst (λ (o : Option (List ℕ)). Tells c.row_domain.result (layout_domain c.args.serial (option_map layout_of o))) there rows
