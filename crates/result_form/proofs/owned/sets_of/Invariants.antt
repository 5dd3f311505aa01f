-- The sets so far and those that are left are all of them, and the blocks of these lie behind the sets.
use Rattle.std.proofs.Common.{◌≡◌, ◌-◌, ◌++◌}
use Rattle.result_form.specs.Shown.{shown_sets}
use Rattle.result_form.specs.Lying.{SetsLie}
use Rattle.result_form.proofs.owned.sets_of.Given as goal

abbrev pub invariant-loop : goal.invariant-loop
invariant-loop l = record {
  all : l.sets ++ shown_sets l.payload (l.count - l.counter) l.left ≡ shown_sets l.payload l.count l.words;
  lie : SetsLie l.payload l.end (l.count - l.counter) l.left;
}
