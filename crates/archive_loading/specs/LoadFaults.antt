-- Why files aren't loaded. Meta is looked at first, then the index, then the label of each volume, and last whether the index
-- has an entry beside no volume with its label. Each cause says that what is looked at before is as it should be.
use Rattle.std.specs.Prelude.{◌≡◌, ◌≢◌, ◌⊎◌, ℕ, ℤ, pos, negsuc, ◌+◌, ◌*◌, ◌-◌, ◌/◌, ◌<◌, ◌≤◌, List, [], length, take, drop, Option, Some, None}
use Rattle.pcp_base.specs.declared.file.FileId.{FileId}
use Rattle.pcp_base.specs.declared.file.FileId.TheVariants.{Meta, Index, Volume}
use Rattle.pcp_model.specs.declared.records.MetaRecord.{MetaRecord}
use Rattle.pcp_model.specs.declared.records.Entry.{Entry}
use Rattle.pcp_model.specs.Archive.{IsMeta, IsIndex}
use Rattle.pcp_model.specs.Disk.{Files}
use Rattle.pcp_model.specs.LabelFields.{LabelFields}
use Rattle.pcp_model.specs.Labels.{IsLabel, BeginsLabel}
use Rattle.archive_frame.specs.Heads.{IsHeadFault, IsMetaLabel, IsMetaHeadFault}
use Rattle.archive_frame.specs.declared.fault.FrameFault.{FrameFault}
use Rattle.archive_frame.specs.declared.fault.FrameFault.TheVariants.{Torn, Size, Lengths, Label as Misfit, NoMemory as Lacking}
use Rattle.archive_meta.specs.declared.fault.MetaFault.TheVariants.{Record}
use Rattle.archive_meta.specs.Records.{IsFrontFault}
use Rattle.temporal_index.specs.Entries.{IsFirstFault}
use Rattle.archive_loading.specs.declared.labels.Head.{Head}
use Rattle.archive_loading.specs.declared.labels.Head.TheVariants.{Whole, Part, Stops}
use Rattle.archive_loading.specs.declared.labels.MetaHead.{MetaHead}
use Rattle.archive_loading.specs.declared.labels.MetaHead.TheVariants.{Whole as MetaWhole, Part as MetaPart, Stops as MetaStopsAt}
use Rattle.archive_loading.specs.Loaded.{contents_with, IsLabelled}

-- The bytes, of at most a label, aren't the label of this number; where the process, the stamp, the host or the zone differs, this
-- is its field's first byte, else the first byte that fits none.
abbrev pub LabelStops : List ℕ → LabelFields → ℤ → ℕ → Type 0
LabelStops bytes l number offset = IsHeadFault l number bytes (Misfit offset)

-- where a label's fault is
abbrev pub label_offset : FrameFault → Option ℕ
label_offset (Misfit at) = Some at
label_offset (Torn at) = None
label_offset (Size at found) = None
label_offset (Lengths at head tail) = None
label_offset Lacking = None

abbrev pub IsHeadOf : List ℕ → LabelFields → ℤ → Head → Type 0
IsHeadOf bytes l number Whole = IsLabel bytes l number
IsHeadOf bytes l number Part = BeginsLabel bytes l number
IsHeadOf bytes l number (Stops offset) = LabelStops bytes l number offset

-- and of Meta, whose label says what all say
abbrev pub MetaLabelStops : List ℕ → ℕ → Type 0
MetaLabelStops bytes offset = IsMetaHeadFault bytes (Misfit offset)

abbrev pub IsMetaPrefix : List ℕ → MetaHead → Type 0
IsMetaPrefix bytes (MetaWhole l) = IsLabel bytes l (negsuc 0)
IsMetaPrefix bytes MetaPart = (l : LabelFields) × BeginsLabel bytes l (negsuc 0)
IsMetaPrefix bytes (MetaStopsAt offset) = MetaLabelStops bytes offset

-- Meta isn't its label and whole records, or it is less than its label beside a file that isn't empty
abbrev pub IsBeside : Files → Type 0
IsBeside files = (file : FileId) × (file ≢ Meta) × (0 < length (files file))

abbrev pub MetaStops : Files → ℕ → Type 0
MetaStops files offset = let meta = files Meta in
    MetaLabelStops (take 132 meta) offset
    ⊎ ((offset ≡ length meta) × ((l : LabelFields) × BeginsLabel meta l (negsuc 0)) × IsBeside files)
    ⊎ (IsMetaLabel (take 132 meta) × (k : ℕ) × (offset ≡ 132 + k) × IsFrontFault [] (drop 132 meta) (Record k))

-- how many bytes of whole entries there are
abbrev pub whole_entries : ℕ → ℕ
whole_entries size = size / 20 * 20

-- the index isn't its label and entries
abbrev pub IndexStops : List ℕ → LabelFields → ℕ → Type 0
IndexStops bytes l offset =
    LabelStops (take 132 bytes) l (negsuc 1) offset
    ⊎ (IsLabel (take 132 bytes) l (negsuc 1) × (k : ℕ) × (offset ≡ 132 + k) × IsFirstFault (take (whole_entries (length bytes - 132)) (drop 132 bytes)) k)

-- some volume above a number isn't empty
abbrev pub IsFollowed : Files → ℕ → Type 0
IsFollowed files n = (k : ℕ) × (n < k) × (files (Volume k) ≢ [])

-- a volume that isn't empty doesn't begin with its label, or ends within it and isn't the last; from 2^31 on a volume has no label
abbrev pub VolumeStops : Files → LabelFields → ℕ → ℕ → Type 0
VolumeStops files l n offset = let bytes = files (Volume n) in (0 < length bytes)
    × (LabelStops (take 132 bytes) l (pos n) offset
    ⊎ ((offset ≡ length bytes) × BeginsLabel bytes l (pos n) × IsFollowed files n)
    ⊎ ((2147483648 ≤ n) × (offset ≡ 0)))

-- the volumes below a number are empty or begin with their labels
abbrev pub AreLabelledBelow : Files → LabelFields → ℕ → Type 0
AreLabelledBelow files l n = (k : ℕ) → k < n → (files (Volume k) ≡ []) ⊎ IsLabelled (files (Volume k)) l k

abbrev pub MetaIs : Files → LabelFields → List MetaRecord → Type 0
MetaIs files l records = IsMeta (files Meta) (contents_with l records [] [])

pub record HeadIs (files : Files) (l : LabelFields) (records : List MetaRecord) (entries : List Entry) : Type 0 where
  pub meta : MetaIs files l records
  pub index : IsIndex (files Index) (contents_with l [] entries [])

-- the first offset that doesn't fit
abbrev pub NotLoaded : Files → FileId → ℕ → Type 0
NotLoaded files Meta offset = MetaStops files offset
NotLoaded files Index offset =
    ((l : LabelFields) × (records : List MetaRecord) × MetaIs files l records × IndexStops (files Index) l offset)
    ⊎ ((offset ≡ 132) × (l : LabelFields) × (records : List MetaRecord) × (entries : List Entry) × HeadIs files l records entries × (entries ≢ [])
    × ((n : ℕ) → length (files (Volume n)) < 132))
NotLoaded files (Volume n) offset =
    (l : LabelFields) × (records : List MetaRecord) × (entries : List Entry) × HeadIs files l records entries × AreLabelledBelow files l n
    × VolumeStops files l n offset
