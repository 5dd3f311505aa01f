-- The name is among them, or comes behind them.
use Rattle.std.proofs.Common.{ℕ, List, map, ap, ◌∙◌}
use Rattle.std.specs.Prelude.{not, bytes_eq}
use Rattle.std.specs.List.{list_any}
use Rattle.std.specs.Global.{Vec}
use Rattle.pm_tasks.specs.Rows.{with_name}
use Rattle.pm_tasks.proofs.Entries.{any_items, insert_items}
use Rattle.pm_tasks.proofs.rows.Names.add.Goals as goal

pub returns-clause-fresh : goal.returns-clause-fresh
returns-clause-fresh c =
    let name : Vec ℕ = c.in_ok-name.name in
    let keys : List (Vec ℕ) = c.self.inside.names.keys in
    c.in_ok-fresh.ensures.added
    ∙ ap not (any_items name.items keys ∙ (λ j. list_any (bytes_eq (c.in_ok-name.ensures.items j)) (c.self.view_is j)))

pub returns-clause-names : goal.returns-clause-names
returns-clause-names c =
    let name : Vec ℕ = c.in_ok-name.name in
    let keys : List (Vec ℕ) = c.self.inside.names.keys in
    ap (λ (ks : List (Vec ℕ)). map (λ (k : Vec ℕ). k.items) ks) c.in_ok-fresh.ensures.keys ∙ insert_items name keys ∙ (λ j. with_name (c.self.view_is j) (c.in_ok-name.ensures.items j))
