-- The groups before the index are empty.
use Rattle.std.proofs.Common.{◌≡◌, ℕ, ◌<◌, []}
use Rattle.rule_watch.specs.Groups.{group_at, groups_in}
use Rattle.rule_watch.proofs.groups.clear_groups.Given as goal

abbrev pub invariant-loop-group : goal.invariant-loop-group
invariant-loop-group l = (k : ℕ) → k < l.group-index → group_at (groups_in l.groups) k ≡ []
