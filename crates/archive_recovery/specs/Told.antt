-- What recovery tells of the files that it leaves.
use Rattle.std.specs.Prelude.{◌≡◌, ℕ, ◌<◌, [], length, Some, None}
use Rattle.pcp_base.specs.declared.file.FileId.TheVariants.{Meta, Volume}
use Rattle.pcp_model.specs.Archive.{ArchiveContents, ArchiveReading, Reads, items_of}
use Rattle.pcp_model.specs.Disk.{Files}
use Rattle.pcp_model.specs.Recovered.{Recovers, recovered_reading}
use Rattle.archive_recovery.specs.declared.outcome.Archive.{Archive}
use Rattle.archive_recovery.specs.Stamps.{IsLatest, stamps_in}

-- a creation that was stopped
pub record IsToldEmpty (a : Archive) : Type 0 where
  pub no_label : a.label ≡ None
  pub no_records : a.meta ≡ []
  pub no_bytes : a.meta_length ≡ 0
  pub no_entries : a.index ≡ []
  pub first : a.volume ≡ 0
  pub first_empty : a.length ≡ 0
  pub no_items : a.items ≡ 0
  pub no_stamp : a.last ≡ None

-- Label, metadata, index; the last volume that isn't empty; how many items the scan has; and the latest stamp of any of them: of an
-- instance domain, of an entry of the index, or of an item.
pub record IsTold (left : Files) (c : ArchiveContents) (a : Archive) : Type 0 where
  pub says : a.label ≡ Some c.label
  pub records : a.meta ≡ c.records
  pub meta_ends : a.meta_length ≡ length (left Meta)
  pub entries : a.index ≡ c.entries
  pub filled : 0 < length (left (Volume a.volume))
  pub above : (n : ℕ) → a.volume < n → left (Volume n) ≡ []
  pub volume_ends : a.length ≡ length (left (Volume a.volume))
  pub counted : a.items ≡ length (items_of c.volumes)
  pub latest : IsLatest (stamps_in c) a.last

abbrev pub IsToldOf : Files → ArchiveReading → Archive → Type 0
IsToldOf left ArchiveReading.nothing a = IsToldEmpty a
IsToldOf left (ArchiveReading.archive c) a = IsTold left c a

-- the files were read, recovery left what it leaves of them, and this is told of that
pub record WasRecovered (files left : Files) (a : Archive) : Type 0 where
  pub reading : ArchiveReading
  pub was : Reads files reading
  pub recovered : Recovers files reading left
  pub told : IsToldOf left (recovered_reading files reading) a
