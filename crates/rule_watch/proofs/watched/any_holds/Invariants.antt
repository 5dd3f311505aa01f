-- No condition before the index holds.
use Rattle.std.proofs.Common.{◌≡◌, false, take}
use Rattle.std.specs.List.{list_any}
use Rattle.rule_watch.specs.Groups.{group_at}
use Rattle.rule_watch.specs.Watched.{group_holds, kept}
use Rattle.rule_watch.proofs.watched.any_holds.Given as goal

abbrev pub invariant-loop-watched : goal.invariant-loop-watched
invariant-loop-watched l = list_any (λ w. group_holds (kept w.windows) (group_at l.groups.groups w.number) w.condition) (take l.watched-index l.conditions) ≡ false
