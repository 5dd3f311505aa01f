-- What is written and what is left make the whole.
use Rattle.std.proofs.Common.{◌≡◌, ◌++◌, ◌+◌, ◌*◌, drop, length}
use Rattle.std.specs.Prelude.{◌↔◌}
use Rattle.std.specs.List.{AllByRecursion}
use Rattle.pcp_model.specs.Records.{instance_words}
use Rattle.archive_meta.specs.Ranges.{HasNumber}
use Rattle.archive_meta.proofs.record_writing.put_numbers.Given as goal

abbrev pub invariant-loop-number : goal.invariant-loop-number
invariant-loop-number l = record {
  whole : l.out.items ++ instance_words (drop l.number-index l.pairs) ≡ l.initial.out.items ++ instance_words l.pairs;
  long : length l.out.items ≡ length l.initial.out.items + 4 * l.number-index;
  range : AllByRecursion HasNumber (drop l.number-index l.pairs) ↔ AllByRecursion HasNumber l.pairs;
}
