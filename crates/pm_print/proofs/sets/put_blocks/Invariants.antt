-- What is written and the lines of what is left are the whole.
use Rattle.std.proofs.Common.{◌≡◌, ◌++◌, drop}
use Rattle.pm_print.specs.Sets.{block_lines}
use Rattle.pm_print.proofs.sets.put_blocks.Given as goal

abbrev pub invariant-loop-value : goal.invariant-loop-value
invariant-loop-value l =
    l.initial.out.items ++ block_lines l.head l.code l.instances l.values ≡ l.out.items ++ block_lines l.head l.code l.instances (drop l.value-index l.values)
