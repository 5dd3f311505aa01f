-- One more entry stands in its group.
use Rattle.std.proofs.Common.{subst}
use Rattle.std.proofs.lemmas.List.{take_all}
use Rattle.rule_watch.specs.Groups.{AreGroups, groups_in, names_in}
use Rattle.rule_watch.specs.Rows.{Row}
use Rattle.rule_watch.proofs.groups.put_row.Goals as goal

pub returns-clause-groups : goal.returns-clause-groups
returns-clause-groups c =
    subst (λ (row : Row). AreGroups (names_in c.args.names.now.keys) row (groups_in c.loop-entry.groups)) (take_all c.loop-entry.entry-index c.args.row.now c.loop-entry-test.false) c.loop-entry.invariant.groups
