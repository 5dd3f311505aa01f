-- What is written of an item is this item.
use Rattle.std.proofs.Common.{◌≤◌, arith}
use Rattle.pcp_base.specs.declared.result.Item.{Item}
use Rattle.pcp_base.specs.declared.result.Item.TheVariants.{Sample, Mark}
use Rattle.pcp_model.proofs.Spelled.{length-payload, is_sample, is_mark}
use Rattle.archive_volume.specs.Items.{item_length, ItemInRange}
use Rattle.archive_volume.specs.Laws.{IsWrittenAs}
use Rattle.archive_volume.proofs.Readings.{length-mark}

pub written_as : (item : Item) → ItemInRange item → item_length item ≤ 16777208 → IsWrittenAs item
written_as (Sample r) range few = record {
  frameable = record { least = omega (arith, length-payload r); most = omega (arith, length-payload r) };
  is = is_sample r range.1 (omega arith) range.0;
}
written_as (Mark t) range few = record {
  frameable = record { least = omega (arith, length-mark t); most = omega (arith, length-mark t) };
  is = is_mark t range;
}
