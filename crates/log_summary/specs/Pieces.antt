-- What the items come to whose records stand whole in some bytes, from the first byte on, and where they stop.
use Rattle.std.specs.Prelude.{◌≡◌, ℕ, ◌≤◌, List, length, drop, fold}
use Rattle.pcp_base.specs.Time.{Moment}
use Rattle.pcp_base.specs.declared.result.Item.{Item}
use Rattle.pcp_model.specs.declared.records.MetaRecord.{MetaRecord}
use Rattle.pcp_model.specs.Frame.{IsTorn}
use Rattle.archive_loading.specs.Standing.{ItemStands, NoItemStands}
use Rattle.archive_reader.specs.Searches.{between}
use Rattle.archive_volume.specs.Items.{item_of}
use Rattle.log_summary.specs.declared.walking.Found.{Found}
use Rattle.log_summary.specs.declared.walking.Found.TheVariants.{End, Bad, Whole}
use Rattle.log_summary.specs.declared.walking.Stop.{Stop}
use Rattle.log_summary.specs.declared.walking.Stop.TheVariants.{Torn, Wrong}
use Rattle.log_summary.specs.Tables.{Rows, counted}
use Rattle.log_summary.specs.Values.{values_of}
use Rattle.log_summary.specs.Volumes.{StandUpTo}

-- what stands at an offset: no whole record, bytes that are no item's record, or a result's
abbrev pub IsFound : List ℕ → ℕ → Found → Type 0
IsFound bytes at End = IsTorn (drop at bytes)
IsFound bytes at Bad = NoItemStands bytes at × (IsTorn (drop at bytes) → ⊥)
IsFound bytes at (Whole r next) = ItemStands bytes at next (item_of r)

-- the items up to an offset are counted behind what the old table has
pub record IsWalked (bytes : List ℕ) (records : List MetaRecord) (from to : Moment) (old new : Rows) (at : ℕ) : Type 0 where
  pub items : List Item
  pub stand : StandUpTo bytes 0 items at
  pub within : at ≤ length bytes
  pub is : new ≡ fold counted old (values_of records (between from to items))

-- no whole record follows them, or one that is no item's
abbrev pub StopsAs : List ℕ → List MetaRecord → Moment → Moment → Rows → Rows → Stop → Type 0
StopsAs bytes records from to old new (Torn at) = IsWalked bytes records from to old new at × IsTorn (drop at bytes)
StopsAs bytes records from to old new (Wrong at) = IsWalked bytes records from to old new at × NoItemStands bytes at × (IsTorn (drop at bytes) → ⊥)
