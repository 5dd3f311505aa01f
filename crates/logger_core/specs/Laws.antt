-- What holds of what a logger keeps.
use Rattle.std.specs.Prelude.{◌≡◌, ℕ, pos, ◌<◌, ◌≤◌, List, [], ◌∷◌, ◌++◌, length, take, negsuc}
use Rattle.std.specs.List.{AllByRecursion}
use Rattle.pcp_base.specs.Time.{Moment, microseconds}
use Rattle.pcp_model.specs.declared.records.MetaRecord.TheVariants.{Description, Domain, Other}
use Rattle.pcp_base.specs.declared.file.FileId.{FileId}
use Rattle.pcp_base.specs.declared.file.FileId.TheVariants.{Meta, Index, Volume}
use Rattle.pcp_base.specs.declared.result.Item.{Item}
use Rattle.pcp_model.specs.declared.records.Entry.{Entry}
use Rattle.pcp_model.specs.declared.records.MetaRecord.{MetaRecord}
use Rattle.pcp_model.specs.Archive.{ArchiveContents, ArchiveReading, AreRead, IsArchive, items_of, HasEntries, LabelledFile}
use Rattle.pcp_model.specs.Described.{Described}
use Rattle.pcp_model.specs.Disk.{Files, Held, Holdings, CrashImage}
use Rattle.pcp_model.specs.Frame.{IsFrameable, frame, frames}
use Rattle.pcp_model.specs.Labels.{IsLabel}
use Rattle.pcp_model.specs.Laws.{IsLonger, EndsWhole}
use Rattle.pcp_model.specs.Payload.{IsItem, stamp_of}
use Rattle.pcp_model.specs.Records.{IsRecord, AreConsistent, FitsEntry, entry}
use Rattle.pcp_model.specs.Recovered.{IsRecovered, recovered_contents}
use Rattle.pcp_model.specs.Sound.{IsSound, NoDomainAfter, NoItemAfter}
use Rattle.pcp_model.specs.Written.{with_added}
use Rattle.pcp_outside.specs.Devices.{Becomes}
use Rattle.archive_recovery.specs.Laws.{AreLabelled}
use Rattle.logger_core.specs.Keeps.{Start, WasSound, WasDescribed, IsPart, is_sure, Keeps}

-- Files with the first of these items, at least so many, each with its metadata, and sound
pub record Survives (s : Start) (all : List Item) (acknowledged : ℕ) (image : Files) : Type 0 where
  pub new : ArchiveContents
  pub is : IsArchive image new
  pub q : ℕ
  pub items : items_of new.volumes ≡ take q all
  pub enough : acknowledged ≤ length (items_of new.volumes)
  pub described : AllByRecursion (λ x. WasDescribed s x → Described new.records x) (items_of new.volumes)
  pub sound : WasSound s → IsSound image (ArchiveReading.archive new)
  -- so recovery keeps it sound
  pub labelled : WasSound s → AreLabelled image new.entries

-- Whatever a crash leaves of what a logger keeps has the first of its items, all acknowledged ones among them, with their metadata.
abbrev pub KeptFilesSurvive : Type 0
KeptFilesSurvive = (s : Start) (files : Files) (c : ArchiveContents) (number known acknowledged : ℕ) (held : Holdings) (image : Files) → Keeps s files c number known acknowledged held → CrashImage held image
    → Survives s (items_of c.volumes) acknowledged image

-- the files that a logger writes now
abbrev pub IsWritten : ℕ → FileId → Type 0
IsWritten number Meta = Unit {0}
IsWritten number Index = Unit {0}
IsWritten number (Volume n) = n ≡ number

-- A file got more of the bytes that it is meant to have, or more of them are sure; none is sure no longer.
pub record IsNearer (old new : Held) (whole : List ℕ) : Type 0 where
  pub part : IsPart new whole
  pub sure : length old.sure ≤ length new.sure

-- So an append, all of it or a front, and a sync leave all that is kept.
abbrev pub NearerIsKept : Type 0
NearerIsKept = (s : Start) (files : Files) (c : ArchiveContents) (number known acknowledged : ℕ) (old new : Holdings) (file : FileId) (h : Held) → Keeps s files c number known acknowledged old → IsWritten number file
    → Becomes file h old new → IsNearer (old file) h (files file) → Keeps s files c number known acknowledged new

-- Once the volume that is written is wholly sure, every item is acknowledged.
abbrev pub SureIsAcknowledged : Type 0
SureIsAcknowledged = (s : Start) (files : Files) (c : ArchiveContents) (number known acknowledged : ℕ) (held : Holdings) → Keeps s files c number known acknowledged held → held (Volume number) ≡ is_sure (files (Volume number))
    → Keeps s files c number known (length (items_of c.volumes)) held

-- Once Meta is wholly sure, all its records are.
abbrev pub SureIsKnown : Type 0
SureIsKnown = (s : Start) (files : Files) (c : ArchiveContents) (number known acknowledged : ℕ) (held : Holdings) → Keeps s files c number known acknowledged held → held Meta ≡ is_sure (files Meta)
    → Keeps s files c number (length c.records) acknowledged held

-- the logger means longer files now, and keeps them: the disk holds what it held
pub record Announces (s : Start) (files : Files) (c : ArchiveContents) (number known acknowledged : ℕ) (held : Holdings) (records : List MetaRecord) (entries : List Entry) (items : List Item) : Type 0 where
  pub new : ArchiveContents
  pub longer : IsLonger c new records entries items
  pub keeps : Keeps s files new number known acknowledged held

-- An item may be meant once so many records of Meta are sure that they describe it, and so do all with more behind them; its
-- stamp is not before those that stand.
pub record IsItemToCome (s : Start) (c : ArchiveContents) (known : ℕ) (payload : List ℕ) (x : Item) : Type 0 where
  pub fits : IsFrameable payload
  pub read : IsItem payload x
  pub described : (k : ℕ) → known ≤ k → WasDescribed s x → Described (take k c.records) x
  pub by : WasSound s → NoItemAfter (stamp_of x) (items_of c.volumes)

abbrev pub ItemIsAnnounced : Type 0
ItemIsAnnounced = (s : Start) (files : Files) (c : ArchiveContents) (number known acknowledged : ℕ) (held : Holdings) (payload : List ℕ) (x : Item) → Keeps s files c number known acknowledged held → IsItemToCome s c known payload x
    → Announces s (with_added (Volume number) (frame payload) files) c number known acknowledged held [] [] (x ∷ [])

-- Records of Meta may be meant that no other contradicts, and with which each item that was described stays so.
pub record AreRecordsToCome (s : Start) (c : ArchiveContents) (payloads : List (List ℕ)) (records : List MetaRecord) : Type 0 where
  pub read : AreRead IsRecord payloads records
  pub agree : AreConsistent (c.records ++ records)
  pub described : (k : ℕ) → k ≤ length records → AllByRecursion (λ x. Described c.records x → Described (c.records ++ take k records) x) (items_of c.volumes)

-- a record of Meta isn't an instance domain stamped up to t
abbrev pub IsRecordAfter : Moment → MetaRecord → Type 0
IsRecordAfter t (Description d names) = Unit {0}
IsRecordAfter t (Domain s indom pairs) = microseconds t < microseconds s
IsRecordAfter t Other = Unit {0}

-- Instance domains that are stamped after an item leave it described, and so do descriptions.
abbrev pub LaterRecordsDescribe : Type 0
LaterRecordsDescribe = (records more : List MetaRecord) (x : Item) → AllByRecursion (IsRecordAfter (stamp_of x)) more → Described records x → Described (records ++ more) x

abbrev pub RecordsAreAnnounced : Type 0
RecordsAreAnnounced = (s : Start) (files : Files) (c : ArchiveContents) (number acknowledged : ℕ) (held : Holdings) (payloads : List (List ℕ)) (records : List MetaRecord) → Keeps s files c number (length c.records) acknowledged held
    → AreRecordsToCome s c payloads records → Announces s (with_added Meta (frames payloads) files) c number (length c.records) acknowledged held records [] []

-- An entry may be meant once Meta and the volume that is written are wholly sure: it points to their ends, and nothing that
-- stands before them is stamped after it.
pub record IsEntryToCome (s : Start) (files : Files) (c : ArchiveContents) (number : ℕ) (held : Holdings) (e : Entry) : Type 0 where
  pub fits : FitsEntry e
  pub volume : e.volume ≡ number
  pub at_meta : e.meta ≡ length (files Meta)
  pub at_volume : e.offset ≡ length (files (Volume number))
  pub meta_sure : held Meta ≡ is_sure (files Meta)
  pub volume_sure : held (Volume number) ≡ is_sure (files (Volume number))
  pub domains : WasSound s → NoDomainAfter e.stamp c.records
  pub items : WasSound s → NoItemAfter e.stamp (items_of c.volumes)

abbrev pub EntryIsAnnounced : Type 0
EntryIsAnnounced = (s : Start) (files : Files) (c : ArchiveContents) (number known acknowledged : ℕ) (held : Holdings) (e : Entry) → Keeps s files c number known acknowledged held → IsEntryToCome s files c number held e
    → Announces s (with_added Index (entry e) files) c number known acknowledged held [] (e ∷ []) []

-- The next volume's label may be meant once the volume that was written is wholly sure, all its items are acknowledged, and nothing is
-- of a volume above it.
pub record IsVolumeToCome (files : Files) (c : ArchiveContents) (number next acknowledged : ℕ) (held : Holdings) (head : List ℕ) : Type 0 where
  pub above : number < next
  pub label : IsLabel head c.label (pos next)
  pub volume_sure : held (Volume number) ≡ is_sure (files (Volume number))
  pub all : length (items_of c.volumes) ≤ acknowledged

abbrev pub VolumeIsAnnounced : Type 0
VolumeIsAnnounced = (s : Start) (files : Files) (c : ArchiveContents) (number next known acknowledged : ℕ) (held : Holdings) (head : List ℕ) → Keeps s files c number known acknowledged held
    → IsVolumeToCome files c number next acknowledged held head → Announces s (with_added (Volume next) head files) c next known acknowledged held [] [] []

-- A whole archive of which every byte is sure, as recovery and a creation leave it, is kept: all its items are acknowledged.
pub record IsWhole (files : Files) (c : ArchiveContents) (number : ℕ) (held : Holdings) : Type 0 where
  pub is : IsArchive files c
  pub last : EndsWhole files c number
  pub indexed : (has : HasEntries (files Index) c) × (has.rest ≡ [])
  pub meta : LabelledFile IsRecord (files Meta) c.label (negsuc 0) c.records []
  pub sure : (file : FileId) → held file ≡ is_sure (files file)

abbrev pub WholeIsKept : Type 0
WholeIsKept = (files : Files) (c : ArchiveContents) (number : ℕ) (held : Holdings) → IsWhole files c number held
    → Keeps (record { files = files; reading = ArchiveReading.archive c }) files c number (length c.records) (length (items_of c.volumes)) held

-- What recovery leaves, once every byte of it is sure, is such an archive.
abbrev pub RecoveredIsWhole : Type 0
RecoveredIsWhole = (files left : Files) (c : ArchiveContents) (held : Holdings) → IsArchive files c → IsRecovered files c left → ((file : FileId) → held file ≡ is_sure (left file))
    → (number : ℕ) × IsWhole left (recovered_contents files c) number held
