-- What holds between writing and reading, over all values.
use Rattle.std.specs.Prelude.{◌≤◌}
use Rattle.pcp_base.specs.declared.result.Item.{Item}
use Rattle.pcp_model.specs.Frame.{IsFrameable}
use Rattle.pcp_model.specs.Payload.{IsItem}
use Rattle.archive_volume.specs.Items.{item_payload, item_length, ItemInRange}

-- what is written of an item can be framed, and is this item
pub record IsWrittenAs (item : Item) : Type 0 where
  pub frameable : IsFrameable (item_payload item)
  pub is : IsItem (item_payload item) item

abbrev pub WrittenItemIsRead : Type 0
WrittenItemIsRead = (item : Item) → ItemInRange item → item_length item ≤ 16777208 → IsWrittenAs item
