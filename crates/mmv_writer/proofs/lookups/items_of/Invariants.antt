-- The map has the first of the metrics that the loop has passed.
use Rattle.std.proofs.Common.{◌≡◌, take}
use Rattle.mmv_writer.specs.Tables.{IsItemIndex}
use Rattle.mmv_writer.proofs.lookups.items_of.Given as goal

abbrev pub invariant-loop-row : goal.invariant-loop-row
invariant-loop-row l = record {
  count : l.at ≡ l.row-index;
  index : IsItemIndex l.items (take l.row-index l.rows);
}
