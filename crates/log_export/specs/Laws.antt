-- What holds of exports.
use Rattle.std.specs.Prelude.{◌≡◌, ℕ, ◌<◌, List, ◌∷◌, length, Some}
use Rattle.std.specs.List.{AllByRecursion}
use Rattle.pcp_base.specs.declared.file.FileId.{FileId}
use Rattle.pcp_base.specs.declared.file.FileId.TheVariants.{Volume}
use Rattle.pcp_model.specs.declared.records.Entry.{Entry}
use Rattle.pcp_model.specs.Archive.{ArchiveContents, ArchiveReading, IsArchive, Reads, records_in, scan}
use Rattle.pcp_model.specs.Disk.{Files}
use Rattle.pcp_model.specs.LabelFields.{LabelFields}
use Rattle.pcp_model.specs.Recovered.{Recovers, recovered_reading}
use Rattle.pcp_model.specs.Sound.{IsSound}
use Rattle.log_export.specs.Exported.{ExportsAs, IsExported, exported_contents, exported_entries, exported_reading, start_entry}
use Rattle.log_export.specs.Standing.{IsLowest}

-- an export is read with the source's scan and its records of Meta, and so with the same descriptions
abbrev pub ExportIsRead : Type 0
ExportIsRead = (files out : Files) (r : ArchiveReading) → Reads files r → ExportsAs files r out
    → Reads out (exported_reading files r) × (scan (exported_reading files r) ≡ scan r) × (records_in (exported_reading files r) ≡ records_in r)

-- its index begins with an entry of the label's stamp, which says where the records of Meta and of the lowest volume begin
pub record BeginsAtStart (l : LabelFields) (out : Files) (es : List Entry) : Type 0 where
  pub volume : ℕ
  pub lowest : IsLowest out (Some volume)
  pub more : List Entry
  pub is : es ≡ start_entry l volume ∷ more

-- and each entry is of a volume that stands
pub record IndexIsGood (files out : Files) (c : ArchiveContents) : Type 0 where
  pub begins : BeginsAtStart c.label out (exported_entries files c)
  pub stand : AllByRecursion (λ (e : Entry). 0 < length (out (Volume e.volume))) (exported_entries files c)

abbrev pub ExportBegins : Type 0
ExportBegins = (files out : Files) (c : ArchiveContents) → IsArchive files c → IsExported files c out → IndexIsGood files out c

-- it is sound where what recovery leaves of the source is, and where the source is
pub record KeepsSound (files out : Files) (c : ArchiveContents) : Type 0 where
  pub of_left : (left : Files) → Recovers files (ArchiveReading.archive c) left → IsSound left (recovered_reading files (ArchiveReading.archive c)) → IsSound out (ArchiveReading.archive (exported_contents files c))
  pub of_source : IsSound files (ArchiveReading.archive c) → IsSound out (ArchiveReading.archive (exported_contents files c))

abbrev pub ExportKeepsSound : Type 0
ExportKeepsSound = (files out : Files) (c : ArchiveContents) → IsArchive files c → IsExported files c out → KeepsSound files out c

-- it is one thing
abbrev pub ExportIsOne : Type 0
ExportIsOne = (files a b : Files) (r : ArchiveReading) → ExportsAs files r a → ExportsAs files r b → (file : FileId) → a file ≡ b file

-- exported again it stays as it is
abbrev pub ExportStays : Type 0
ExportStays = (files out : Files) (r : ArchiveReading) → Reads files r → ExportsAs files r out → ExportsAs out (exported_reading files r) out
