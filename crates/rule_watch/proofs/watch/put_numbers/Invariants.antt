-- The numbers of the rules before the index that hold are put down, and there is room for the others.
use Rattle.std.proofs.Common.{◌≡◌, ◌≤◌, take, length}
use Rattle.std.specs.Vec.{vec_capacity}
use Rattle.rule_watch.specs.Watched.{groups_hold, places_from}
use Rattle.rule_watch.proofs.watch.put_numbers.Given as goal

abbrev pub invariant-loop-at : goal.invariant-loop-at
invariant-loop-at l = record {
  numbers : l.numbers.items ≡ places_from 0 (groups_hold l.groups.groups) (take l.at l.rules);
  room : length l.rules ≤ vec_capacity l.numbers;
}
