-- What reading Meta record by record finds.
use Rattle.std.specs.Prelude.{◌≡◌, ◌⊎◌, ℕ, negsuc, ◌+◌, ◌-◌, ◌<◌, ◌≤◌, List, [], ◌∷◌, ◌++◌, length, take, drop, Option}
use Rattle.pcp_model.specs.declared.records.MetaRecord.{MetaRecord}
use Rattle.pcp_base.specs.Time.{Moment}
use Rattle.pcp_model.specs.Archive.{IsMeta}
use Rattle.pcp_model.specs.Frame.{IsTorn}
use Rattle.pcp_model.specs.LabelFields.{LabelFields}
use Rattle.pcp_model.specs.Labels.{IsLabel, BeginsLabel}
use Rattle.pcp_model.specs.Records.{AreConsistent}
use Rattle.archive_frame.specs.Heads.{IsMetaLabel}
use Rattle.archive_meta.specs.declared.fault.MetaFault.TheVariants.{Record as BadRecord}
use Rattle.archive_meta.specs.Framed.{RecordStands}
use Rattle.archive_meta.specs.Records.{AreRecords, Adds, HasFront, IsFrontFault}
use Rattle.archive_loading.specs.LoadFaults.{MetaLabelStops}
use Rattle.archive_loading.specs.declared.metadata.Added.{Added}
use Rattle.archive_loading.specs.declared.metadata.Added.TheVariants.{End, Stops, Record}
use Rattle.archive_loading.specs.declared.metadata.RecordsRead.{RecordsRead}
use Rattle.archive_loading.specs.declared.metadata.RecordsRead.TheVariants.{Whole, Stops as RecordsStop}
use Rattle.archive_loading.specs.declared.metadata.MetaEnd.{MetaEnd}
use Rattle.archive_loading.specs.declared.metadata.MetaPart.{MetaPart}
use Rattle.archive_loading.specs.declared.metadata.MetaPart.TheVariants.{Begun, Whole as WholeMeta, Stops as MetaStopsAt}
use Rattle.archive_loading.specs.Loaded.{contents_with}
use Rattle.archive_loading.specs.Stamps.{domain_stamps, IsLatest, IsLatestOn}

-- a frame's record was added, and its stamp looked at
pub record FrameIsAdded (frame : List ℕ) (old new : List MetaRecord) (before after : Option Moment) : Type 0 where
  pub adds : Adds old frame new
  pub records : List MetaRecord
  pub are : AreRecords frame records
  pub is : new ≡ old ++ records
  pub latest : IsLatestOn before (domain_stamps records) after

-- or it is none, or a description differs
pub record FrameIsBad (frame : List ℕ) (old new : List MetaRecord) : Type 0 where
  pub same : new ≡ old
  pub bad : (records : List MetaRecord) → AreRecords frame records → AreConsistent (old ++ records) → ⊥

-- no record that may follow stands there
abbrev pub NoRecordFits : List ℕ → ℕ → List MetaRecord → Type 0
NoRecordFits bytes at old = (next : ℕ) (r : MetaRecord) → RecordStands bytes at next r → AreConsistent (old ++ r ∷ []) → ⊥

-- what stands behind Meta's label at a byte: no whole record, none that may follow, or one that was added
abbrev pub IsAdded : List ℕ → ℕ → List MetaRecord → List MetaRecord → Option Moment → Option Moment → Added → Type 0
IsAdded bytes k old new before after End = (new ≡ old) × (after ≡ before) × IsTorn (drop k bytes)
IsAdded bytes k old new before after Stops = NoRecordFits bytes k old × (IsTorn (drop k bytes) → ⊥)
IsAdded bytes k old new before after (Record next) =
    (r : MetaRecord) × RecordStands bytes k (next - 132) r × (new ≡ old ++ r ∷ []) × AreConsistent new × IsLatestOn before (domain_stamps (r ∷ [])) after

abbrev pub FitsAdded : ℕ → ℕ → Added → Type 0
FitsAdded end at End = Unit {0}
FitsAdded end at Stops = Unit {0}
FitsAdded end at (Record next) = (at < next) × (next ≤ end)

-- the records behind Meta's label up to a byte, and the latest stamp of them
pub record MetaSoFar (bytes : List ℕ) (at : ℕ) (records : List MetaRecord) (last : Option Moment) : Type 0 where
  pub added : Adds [] (take (at - 132) (drop 132 bytes)) records
  pub latest : IsLatest (domain_stamps records) last

-- the whole records and where they end, or where one stands that mustn't
pub record AreAllRecords (bytes : List ℕ) (records : List MetaRecord) (end : ℕ) (last : Option Moment) : Type 0 where
  pub low : 132 ≤ end
  pub front : HasFront (drop 132 bytes) records (end - 132)
  pub latest : IsLatest (domain_stamps records) last

abbrev pub IsRecordsRead : List ℕ → RecordsRead → Type 0
IsRecordsRead bytes (Whole records end last) = AreAllRecords bytes records end last
IsRecordsRead bytes (RecordsStop offset) = (k : ℕ) × (offset ≡ 132 + k) × IsFrontFault [] (drop 132 bytes) (BadRecord k)

-- Meta is less than its label, or its label and records, or something else from a byte on
abbrev pub IsMetaPart : List ℕ → MetaPart → Type 0
IsMetaPart bytes (Begun size) = (size ≡ length bytes) × (l : LabelFields) × BeginsLabel bytes l (negsuc 0)
IsMetaPart bytes (WholeMeta l records end) = IsMeta bytes (contents_with l records [] [])
IsMetaPart bytes (MetaStopsAt offset) =
    MetaLabelStops (take 132 bytes) offset ⊎ (IsMetaLabel (take 132 bytes) × (k : ℕ) × (offset ≡ 132 + k) × IsFrontFault [] (drop 132 bytes) (BadRecord k))

-- where its records end
pub record HasEnd (bytes : List ℕ) (l : LabelFields) (records : List MetaRecord) (e : MetaEnd) : Type 0 where
  pub has_label : IsLabel (take 132 bytes) l (negsuc 0)
  pub all : AreAllRecords bytes records e.end e.last
  pub size : e.length ≡ length bytes

abbrev pub IsReadTo : List ℕ → MetaPart → Type 0
IsReadTo bytes (Begun size) = Unit {0}
IsReadTo bytes (WholeMeta l records end) = HasEnd bytes l records end
IsReadTo bytes (MetaStopsAt offset) = Unit {0}
