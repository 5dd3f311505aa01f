-- What the searches find in readable archives and in sound ones.
use Rattle.std.specs.Prelude.{◌≡◌, ℕ, ◌<◌, List, length, Option}
use Rattle.pcp_base.specs.Time.{Moment}
use Rattle.pcp_base.specs.declared.file.FileId.{FileId}
use Rattle.pcp_base.specs.declared.file.FileId.TheVariants.{Volume}
use Rattle.pcp_base.specs.declared.result.Item.{Item}
use Rattle.pcp_base.specs.declared.result.ValueSet.{ValueSet}
use Rattle.pcp_model.specs.Archive.{ArchiveReading, Reads, Readable, scan, records_in}
use Rattle.pcp_model.specs.Disk.{Files}
use Rattle.pcp_model.specs.Sound.{IsSound}
use Rattle.archive_reader.specs.declared.beginning.Begin.{Begin}
use Rattle.archive_reader.specs.declared.beginning.Begin.TheVariants.{At, Outside}
use Rattle.archive_reader.specs.declared.fault.ReaderFault.TheVariants.{NotArchive}
use Rattle.archive_reader.specs.Asked.{IsAtFrom, IsAtFault, IsRangeFrom, IsRangeFault, at_begin, range_begin}
use Rattle.archive_loading.specs.LoadFaults.{NotLoaded}
use Rattle.archive_loading.specs.Loaded.{Loaded, IsOver}
use Rattle.archive_reader.specs.Searches.{at, between}
use Rattle.archive_reader.specs.Values.{IsValueAt, IsValueFault, value_at}
use Rattle.archive_reader.specs.Walks.{Leads, IsBad, AllFrom}

-- a readable archive stops at no place
abbrev pub LoadsReadable : Type 0
LoadsReadable = (files : Files) (file : FileId) (offset : ℕ) → Readable files → NotLoaded files file offset → ⊥

-- From the first place on the items of the scan stand, to the end; at no place that they lead to do bytes stand that are no item's
-- record.
pub record StandsAs (files : Files) (reading : ArchiveReading) (r : Loaded) : Type 0 where
  pub all : AllFrom files r.volumes 132 (scan reading)
  pub records_are : r.records ≡ records_in reading
  pub good : (items : List Item) (ws : List (ℕ × ℕ)) (to : ℕ) (file : FileId) (offset : ℕ) → Leads files r.volumes 132 items ws to → IsBad files ws to file offset → ⊥

abbrev pub ReadableStands : Type 0
ReadableStands = (files : Files) (reading : ArchiveReading) (r : Loaded) → Reads files reading → IsOver files r → StandsAs files reading r

-- a search begins in a volume that holds a part of its label alone
abbrev pub BeginsInCutLabel : Files → Begin → Type 0
BeginsInCutLabel files (At n offset) = ⊥
BeginsInCutLabel files (Outside n offset) = (0 < length (files (Volume n))) × (length (files (Volume n)) < 132)

-- Over a sound archive the last item not after a moment is that of the scan; no bytes are refused, but where the entry is of a
-- volume that holds a part of its label alone.
pub record FindsLast (files : Files) (reading : ArchiveReading) (r : Loaded) (t : Moment) : Type 0 where
  pub found : (x : Option Item) → IsAtFrom files r.volumes t (at_begin r t) x → x ≡ at t (scan reading)
  pub refused : (file : FileId) (offset : ℕ) → IsAtFault files r.volumes t (at_begin r t) (NotArchive file offset) → BeginsInCutLabel files (at_begin r t)

abbrev pub SoundFindsLast : Type 0
SoundFindsLast = (files : Files) (reading : ArchiveReading) (r : Loaded) (t : Moment) → Reads files reading → IsSound files reading → IsOver files r → FindsLast files reading r t

-- and the items of a range are those of the scan
pub record FindsRange (files : Files) (reading : ArchiveReading) (r : Loaded) (from to : Moment) : Type 0 where
  pub found : (items : List Item) → IsRangeFrom files r.volumes from to (range_begin r from) items → items ≡ between from to (scan reading)
  pub refused : (file : FileId) (offset : ℕ) → IsRangeFault files r.volumes to (range_begin r from) (NotArchive file offset) → BeginsInCutLabel files (range_begin r from)

abbrev pub SoundFindsRange : Type 0
SoundFindsRange = (files : Files) (reading : ArchiveReading) (r : Loaded) (from to : Moment) → Reads files reading → IsSound files reading → IsOver files r → FindsRange files reading r from to

-- Over a readable archive a metric's last values are those of the scan, and no bytes are refused.
pub record FindsValue (files : Files) (reading : ArchiveReading) (r : Loaded) (pmid : ℕ) (t : Moment) : Type 0 where
  pub found : (x : Option (Moment × ValueSet)) → IsValueAt files r.volumes pmid t x → x ≡ value_at pmid t (scan reading)
  pub refused : (file : FileId) (offset : ℕ) → IsValueFault files r.volumes pmid t (NotArchive file offset) → ⊥

abbrev pub ReadableFindsValue : Type 0
ReadableFindsValue = (files : Files) (reading : ArchiveReading) (r : Loaded) (pmid : ℕ) (t : Moment) → Reads files reading → IsOver files r → FindsValue files reading r pmid t
