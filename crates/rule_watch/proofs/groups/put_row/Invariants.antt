-- The entries before the index stand in their groups.
use Rattle.std.proofs.Common.{take}
use Rattle.rule_watch.specs.Groups.{AreAllNumbers, AreGroups, groups_in, names_in}
use Rattle.rule_watch.proofs.groups.put_row.Given as goal

abbrev pub invariant-loop-entry : goal.invariant-loop-entry
invariant-loop-entry l = record {
  groups : AreGroups (names_in l.names.keys) (take l.entry-index l.row) (groups_in l.groups);
  numbers : AreAllNumbers (groups_in l.groups);
}
