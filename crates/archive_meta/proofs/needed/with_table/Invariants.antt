-- What is counted and what is left are the whole.
use Rattle.std.proofs.Common.{◌≡◌, ◌+◌, ◌≤◌, drop, length}
use Rattle.std.specs.Prelude.{min}
use Rattle.pcp_model.specs.Records.{name_table}
use Rattle.archive_meta.proofs.needed.with_table.Given as goal

abbrev pub invariant-loop-name : goal.invariant-loop-name
invariant-loop-name l = record {
  same : min (l.total + length (name_table (drop l.name-index l.pairs))) 18446744073709551615 ≡ min (l.initial.total + length (name_table l.pairs)) 18446744073709551615;
  few : l.total ≤ 18446744073709551615;
}
