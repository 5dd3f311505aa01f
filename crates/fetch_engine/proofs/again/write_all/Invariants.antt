-- The values so far were written.
use Rattle.std.proofs.Common.{◌≡◌, take, length}
use Rattle.std.specs.List.{zip}
use Rattle.fetch_engine.specs.Tries.{with_values}
use Rattle.fetch_engine.proofs.again.write_all.Given as goal

abbrev pub invariant-loop-at : goal.invariant-loop-at
invariant-loop-at l = record {
  written : l.words.items ≡ with_values l.initial.words.items (take l.at (zip l.indexes l.values));
  wide : length l.words.items ≡ length l.initial.words.items;
}
