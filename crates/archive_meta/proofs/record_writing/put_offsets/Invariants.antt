-- What is written and what is left make the whole, and the table still fits.
use Rattle.std.proofs.Common.{◌≡◌, ◌++◌, ◌+◌, ◌*◌, drop, length}
use Rattle.pcp_model.specs.Records.{word_bytes, name_offsets, name_table}
use Rattle.archive_meta.proofs.record_writing.put_offsets.Given as goal

abbrev pub invariant-loop-name : goal.invariant-loop-name
invariant-loop-name l = record {
  whole : l.out.items ++ word_bytes (name_offsets l.at (drop l.name-index l.pairs)) ≡ l.initial.out.items ++ word_bytes (name_offsets 0 l.pairs);
  long : length l.out.items ≡ length l.initial.out.items + 4 * l.name-index;
  table : l.at + length (name_table (drop l.name-index l.pairs)) ≡ length (name_table l.pairs);
}
