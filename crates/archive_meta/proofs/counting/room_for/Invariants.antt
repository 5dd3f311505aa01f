-- The next record begins within the bytes, and each record so far has at least 12.
use Rattle.std.proofs.Common.{◌≤◌, ◌*◌, length}
use Rattle.archive_meta.proofs.counting.room_for.Given as goal

abbrev pub invariant-loop : goal.invariant-loop
invariant-loop l = record {
  within : l.at ≤ length l.bytes;
  long : 12 * l.room.records ≤ l.at;
  kept : l.room.kept ≤ l.room.records;
  described : l.room.described ≤ l.room.kept;
}
