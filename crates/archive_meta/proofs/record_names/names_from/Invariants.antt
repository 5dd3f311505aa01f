-- The names read so far and those that are left are all of them.
use Rattle.std.proofs.Common.{◌≡◌, ◌-◌, ◌≤◌, length, drop}
use Rattle.archive_meta.specs.Decoding.{names_from}
use Rattle.archive_meta.proofs.Loops.{with_front}
use Rattle.archive_meta.proofs.record_names.names_from.Given as goal

abbrev pub invariant-loop : goal.invariant-loop
invariant-loop l = record {
  all : with_front l.names (names_from (l.count - l.counter) (drop l.at l.bytes)) ≡ names_from l.count l.bytes;
  within : l.at ≤ length l.bytes;
}
