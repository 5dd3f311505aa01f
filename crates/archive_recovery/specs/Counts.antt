-- What was counted, item by item.
use Rattle.std.specs.Prelude.{◌≡◌, ◌+◌, List, ◌++◌, length}
use Rattle.pcp_base.specs.Time.{Moment}
use Rattle.pcp_base.specs.declared.result.Item.{Item}
use Rattle.archive_recovery.specs.declared.stamps.Tally.{Tally}
use Rattle.archive_recovery.specs.Stamps.{item_stamps, IsLatest}

-- these items more
pub record CountsMore (old : Tally) (items : List Item) (new : Tally) : Type 0 where
  pub more : new.items ≡ old.items + length items
  pub on : (moments : List Moment) → IsLatest moments old.last → IsLatest (moments ++ item_stamps items) new.last
