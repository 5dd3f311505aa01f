-- What is written and the lines of what is left are the whole.
use Rattle.std.proofs.Common.{◌≡◌, ◌++◌, drop}
use Rattle.pm_print.specs.Sets.{word_lines}
use Rattle.pm_print.proofs.sets.put_words.Given as goal

abbrev pub invariant-loop-value : goal.invariant-loop-value
invariant-loop-value l =
    l.initial.out.items ++ word_lines l.head l.code l.instances l.values ≡ l.out.items ++ word_lines l.head l.code l.instances (drop l.value-index l.values)
