-- What is written and the lines of what is left are the whole.
use Rattle.std.proofs.Common.{◌≡◌, ◌++◌, length}
use Rattle.pm_print.specs.Sets.{block_lines}
use Rattle.pm_print.proofs.item_lines.put_blocks.Given as goal

abbrev pub invariant-loop-next : goal.invariant-loop-next
invariant-loop-next l =
    l.initial.out.items ++ block_lines l.head l.code l.instances l.initial.left ≡ l.out.items ++ block_lines l.head l.code l.instances l.left

abbrev pub decreases-loop-next : goal.decreases-loop-next
decreases-loop-next l = length l.left
