-- What is written and the lines of the sets that are left are the whole; what is kept of metrics is said.
use Rattle.std.proofs.Common.{◌≡◌, ◌++◌, length}
use Rattle.pm_print.specs.Items.{sets_lines}
use Rattle.pm_print.specs.Starts.{AreSaid}
use Rattle.pm_print.proofs.item_lines.put_sets.Given as goal

abbrev pub invariant-loop-set : goal.invariant-loop-set
invariant-loop-set l = record {
  put : l.initial.out.items ++ sets_lines l.meta l.stamp l.initial.left ≡ l.out.items ++ sets_lines l.meta l.stamp l.left;
  said : AreSaid l.meta l.starts.list.items;
}

abbrev pub decreases-loop-set : goal.decreases-loop-set
decreases-loop-set l = length l.left
