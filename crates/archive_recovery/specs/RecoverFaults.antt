-- Why files aren't recovered. Meta is looked at first, then the index, then volume after volume, each with its records, and
-- last whether the index has an entry beside no volume with its label. Each cause says that what is looked at before is as
-- it should be.
use Rattle.std.specs.Prelude.{◌≡◌, ◌≢◌, ◌⊎◌, ℕ, pos, ◌<◌, List, [], length, take, drop, map, Contains, Option, Some, None}
use Rattle.pcp_base.specs.declared.file.FileId.{FileId}
use Rattle.pcp_base.specs.declared.file.FileId.TheVariants.{Meta, Index, Volume}
use Rattle.pcp_base.specs.declared.result.Item.{Item}
use Rattle.pcp_model.specs.declared.records.MetaRecord.{MetaRecord}
use Rattle.pcp_model.specs.declared.records.Entry.{Entry}
use Rattle.pcp_model.specs.Archive.{LabelledFile, AreVolumes}
use Rattle.pcp_model.specs.Disk.{Files}
use Rattle.pcp_model.specs.Frame.{IsTorn}
use Rattle.pcp_model.specs.LabelFields.{LabelFields}
use Rattle.pcp_model.specs.Payload.{IsItem}
use Rattle.archive_loading.specs.Standing.{NoItemStands}
use Rattle.archive_loading.specs.LoadFaults.{MetaStops, IndexStops, VolumeStops, IsFollowed, MetaIs, HeadIs}
use Rattle.archive_recovery.specs.declared.outcome.RecoverFault.{RecoverFault}
use Rattle.archive_recovery.specs.declared.outcome.RecoverFault.TheVariants.{Compressed, NotArchive, DiskFault, NoMemory}

-- a volume is empty, or its label and whole records
abbrev pub IsWhole : Files → LabelFields → ℕ → Type 0
IsWhole files l n = (files (Volume n) ≡ []) ⊎ ((items : List Item) × LabelledFile IsItem (files (Volume n)) l (pos n) items [])

abbrev pub AreWholeBelow : Files → LabelFields → ℕ → Type 0
AreWholeBelow files l n = (k : ℕ) → k < n → IsWhole files l k

-- Up to an offset a volume is its label and whole records, and there no record stands. One that wasn't written whole stands
-- in the way of a volume above.
pub record StopsInRecords (files : Files) (l : LabelFields) (n offset : ℕ) : Type 0 where
  pub items : List Item
  pub whole : LabelledFile IsItem (take offset (files (Volume n))) l (pos n) items []
  pub goes_on : offset < length (files (Volume n))
  pub none : NoItemStands (files (Volume n)) offset
  pub torn : IsTorn (drop offset (files (Volume n))) → IsFollowed files n

abbrev pub VolumeIsRefused : Files → LabelFields → ℕ → ℕ → Type 0
VolumeIsRefused files l n offset = VolumeStops files l n offset ⊎ StopsInRecords files l n offset

-- the volumes are as they should be, and none has its whole label, while the index has an entry
pub record IsBesideNone (files : Files) (l : LabelFields) (records : List MetaRecord) (entries : List Entry) : Type 0 where
  pub head : HeadIs files l records entries
  pub some : entries ≢ []
  pub volumes : List (ℕ × List Item)
  pub are : AreVolumes files l volumes
  pub others : (n : ℕ) → (Contains (map (λ (v : ℕ × List Item). v.0) volumes) n → ⊥) → files (Volume n) ≡ []
  pub short : (n : ℕ) → length (files (Volume n)) < 132

-- the first offset that doesn't fit
abbrev pub IsRefused : Files → FileId → ℕ → Type 0
IsRefused files Meta offset = MetaStops files offset
IsRefused files Index offset =
    ((l : LabelFields) × (records : List MetaRecord) × MetaIs files l records × IndexStops (files Index) l offset)
    ⊎ ((offset ≡ 132) × (l : LabelFields) × (records : List MetaRecord) × (entries : List Entry) × IsBesideNone files l records entries)
IsRefused files (Volume n) offset =
    (l : LabelFields) × (records : List MetaRecord) × (entries : List Entry) × HeadIs files l records entries × AreWholeBelow files l n × VolumeIsRefused files l n offset

-- why files that stand under their own names aren't recovered
abbrev pub IsFilesRefusal : Files → RecoverFault → Type 0
IsFilesRefusal files (Compressed file) = ⊥
IsFilesRefusal files (NotArchive file offset) = IsRefused files file offset
IsFilesRefusal files DiskFault = Unit {0}
IsFilesRefusal files NoMemory = Unit {0}

-- why `recover` is refused
abbrev pub IsRecoverFault : Option FileId → Files → RecoverFault → Type 0
IsRecoverFault wrapped files (Compressed file) = wrapped ≡ Some file
IsRecoverFault wrapped files (NotArchive file offset) = (wrapped ≡ None) × IsRefused files file offset
IsRecoverFault wrapped files DiskFault = Unit {0}
IsRecoverFault wrapped files NoMemory = Unit {0}
