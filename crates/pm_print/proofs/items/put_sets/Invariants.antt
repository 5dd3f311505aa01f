-- What is written and the lines of what is left are the whole.
use Rattle.std.proofs.Common.{◌≡◌, ◌++◌, drop}
use Rattle.pm_print.specs.Items.{sets_lines}
use Rattle.pm_print.proofs.items.put_sets.Given as goal

abbrev pub invariant-loop-set : goal.invariant-loop-set
invariant-loop-set l =
    l.initial.out.items ++ sets_lines l.meta l.stamp l.sets ≡ l.out.items ++ sets_lines l.meta l.stamp (drop l.set-index l.sets)
