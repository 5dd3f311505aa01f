-- What holds of files on which recovery is on its way.
use Rattle.std.specs.Prelude.{◌≡◌, ℕ, List, [], take, ◌≤◌, length}
use Rattle.pcp_base.specs.declared.file.FileId.TheVariants.{Meta, Volume}
use Rattle.std.specs.List.{AllByRecursion}
use Rattle.pcp_model.specs.declared.records.Entry.{Entry}
use Rattle.pcp_model.specs.Archive.{ArchiveReading, Reads, scan, records_in, ArchiveContents, IsArchive}
use Rattle.pcp_model.specs.Disk.{Files, Holdings, CrashImage, IsSettled, contents_of}
use Rattle.pcp_model.specs.Recovered.{Recovers, recovered_reading}
use Rattle.pcp_model.specs.Sound.{IsSound}
use Rattle.archive_recovery.specs.Halfway.{HalfwayFrom}

abbrev pub entries_in : ArchiveReading → List Entry
entries_in ArchiveReading.nothing = []
entries_in (ArchiveReading.archive c) = c.entries

-- read with the same items and records, and the first entries
pub record IsReadOn (image : Files) (r : ArchiveReading) : Type 0 where
  pub new : ArchiveReading
  pub is : Reads image new
  pub items : scan new ≡ scan r
  pub records : records_in new ≡ records_in r
  pub k : ℕ
  pub entries : entries_in new ≡ take k (entries_in r)

-- Wherever recovery is on its way, the files are read with the same items and the same records of Meta.
abbrev pub HalfwayIsRead : Type 0
HalfwayIsRead = (files image : Files) (r : ArchiveReading) → Reads files r → HalfwayFrom files r image → IsReadOn image r

-- What recovery leaves of one is what it leaves of the other, but for entries of the index: their stamps the latest one may then lack.
pub record SameArchive (left again : Files) : Type 0 where
  pub meta : again Meta ≡ left Meta
  pub volumes : (n : ℕ) → again (Volume n) ≡ left (Volume n)

-- Recovery that is stopped and run again leaves the same of Meta and of the volumes.
abbrev pub HalfwayRecoversTheSame : Type 0
HalfwayRecoversTheSame = (files image left again : Files) (r new : ArchiveReading) → Reads files r → HalfwayFrom files r image → Reads image new
    → Recovers files r left → Recovers image new again → SameArchive left again

-- Where what recovery leaves is sound, what it leaves when it is run again is.
abbrev pub HalfwayRecoversSound : Type 0
HalfwayRecoversSound = (files image left again : Files) (r new : ArchiveReading) → Reads files r → HalfwayFrom files r image → Reads image new
    → Recovers files r left → Recovers image new again → IsSound left (recovered_reading files r) → IsSound again (recovered_reading image new)

-- A crash of a settled disk leaves files on which recovery is at its start.
abbrev pub SettledIsHalfway : Type 0
SettledIsHalfway = (held : Holdings) (r : ArchiveReading) (image : Files) → IsSettled held → Reads (contents_of held) r → CrashImage held image
    → HalfwayFrom (contents_of held) r image

-- each entry is of a volume at or below one with its whole label
abbrev pub AreLabelled : Files → List Entry → Type 0
AreLabelled files es = AllByRecursion (λ (e : Entry). (n : ℕ) × (132 ≤ length (files (Volume n))) × (e.volume ≤ n)) es

-- Recovery keeps an archive sound whose entries are of volumes at or below one with its whole label.
abbrev pub RecoveryKeepsSound : Type 0
RecoveryKeepsSound = (files left : Files) (c : ArchiveContents) → IsArchive files c → IsSound files (ArchiveReading.archive c) → AreLabelled files c.entries → Recovers files (ArchiveReading.archive c) left
    → IsSound left (recovered_reading files (ArchiveReading.archive c))
