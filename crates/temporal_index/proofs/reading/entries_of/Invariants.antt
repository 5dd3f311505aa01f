-- The entries read so far and those that are left are all of them.
use Rattle.std.proofs.Common.{◌≡◌, ◌-◌, ◌≤◌, length}
use Rattle.temporal_index.specs.Entries.{entries_from, entries_begun_in, index_of}
use Rattle.temporal_index.proofs.Loops.{ahead}
use Rattle.temporal_index.proofs.reading.entries_of.Given as goal

abbrev pub invariant-loop-at : goal.invariant-loop-at
invariant-loop-at l = record {
  within : l.at ≤ length l.bytes;
  all : ahead l.entries (entries_from (entries_begun_in (length l.bytes - l.at)) l.bytes l.at) ≡ index_of l.bytes;
}

abbrev pub decreases-loop-at : goal.decreases-loop-at
decreases-loop-at l = length l.bytes - l.at
