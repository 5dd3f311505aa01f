-- What is written and what is left make the whole, and the names left are short.
use Rattle.std.proofs.Common.{◌≡◌, ◌<◌, ◌+◌, ◌++◌, drop, length}
use Rattle.std.specs.Prelude.{◌↔◌}
use Rattle.std.specs.List.{AllByRecursion}
use Rattle.pcp_model.specs.Records.{counted_names, names_length}
use Rattle.archive_meta.specs.Ranges.{IsShortText}
use Rattle.archive_meta.proofs.record_writing.put_names.Given as goal

abbrev pub invariant-loop-name : goal.invariant-loop-name
invariant-loop-name l = record {
  whole : l.out.items ++ counted_names (drop l.name-index l.names) ≡ l.initial.out.items ++ counted_names l.names;
  long : length l.out.items + names_length (drop l.name-index l.names) ≡ length l.initial.out.items + names_length l.names;
  short : AllByRecursion (λ name. length name < 4294967296) (drop l.name-index l.names);
  range : AllByRecursion IsShortText (drop l.name-index l.names) ↔ AllByRecursion IsShortText l.names;
}
