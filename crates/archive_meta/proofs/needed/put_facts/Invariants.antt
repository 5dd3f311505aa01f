-- What is written and what is left make the whole, and nothing that is written is too long.
use Rattle.std.proofs.Common.{◌≡◌, ◌++◌, map, drop}
use Rattle.std.specs.List.{AllByRecursion}
use Rattle.archive_meta.specs.Missing.{described_by, framed_records, large_length, IsSpelled, at_positions}
use Rattle.archive_meta.proofs.needed.put_facts.Given as goal

abbrev pub invariant-loop-position : goal.invariant-loop-position
invariant-loop-position l = let rest = map described_by (at_positions l.metrics (drop l.position-index l.positions)) in let all = map described_by (at_positions l.metrics l.positions) in record {
  whole : l.out.items ++ framed_records rest ≡ l.initial.out.items ++ framed_records all;
  large : large_length rest ≡ large_length all;
  read : AllByRecursion IsSpelled rest → AllByRecursion IsSpelled all;
}
