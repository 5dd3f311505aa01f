-- What is written and what is left make the whole.
use Rattle.std.proofs.Common.{◌≡◌, ◌++◌, ◌+◌, drop, length}
use Rattle.std.specs.Prelude.{◌↔◌}
use Rattle.std.specs.List.{AllByRecursion}
use Rattle.pcp_model.specs.Records.{name_table}
use Rattle.archive_meta.specs.Ranges.{HasText}
use Rattle.archive_meta.proofs.record_writing.put_table.Given as goal

abbrev pub invariant-loop-name : goal.invariant-loop-name
invariant-loop-name l = record {
  whole : l.out.items ++ name_table (drop l.name-index l.pairs) ≡ l.initial.out.items ++ name_table l.pairs;
  long : length l.out.items + length (name_table (drop l.name-index l.pairs)) ≡ length l.initial.out.items + length (name_table l.pairs);
  range : AllByRecursion HasText (drop l.name-index l.pairs) ↔ AllByRecursion HasText l.pairs;
}
