-- What is written and the lines of what is left are the whole.
use Rattle.std.proofs.Common.{◌≡◌, ◌++◌, length}
use Rattle.pm_print.specs.Sets.{word_lines}
use Rattle.pm_print.proofs.item_lines.put_words.Given as goal

abbrev pub invariant-loop-next : goal.invariant-loop-next
invariant-loop-next l =
    l.initial.out.items ++ word_lines l.head l.code l.instances l.initial.left ≡ l.out.items ++ word_lines l.head l.code l.instances l.left

abbrev pub decreases-loop-next : goal.decreases-loop-next
decreases-loop-next l = length l.left
