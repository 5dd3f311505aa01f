-- When an archive is sound: its items rise by stamp, and the index points where it says (LOGARCHIVE(5)).
use Rattle.std.specs.Prelude.{◌≡◌, ℕ, ◌+◌, ◌<◌, ◌≤◌, List, [], ◌∷◌, ◌++◌, length, take, drop}
use Rattle.std.specs.List.{AllByRecursion}
use Rattle.pcp_base.specs.Time.{Moment, microseconds}
use Rattle.pcp_base.specs.declared.file.FileId.TheVariants.{Meta, Volume}
use Rattle.pcp_base.specs.declared.result.Item.{Item}
use Rattle.pcp_model.specs.declared.records.MetaRecord.{MetaRecord}
use Rattle.pcp_model.specs.declared.records.MetaRecord.TheVariants.{Description, Domain, Other}
use Rattle.pcp_model.specs.declared.records.Entry.{Entry}
use Rattle.pcp_model.specs.Archive.{ArchiveContents, ArchiveReading, Reads, items_of}
use Rattle.pcp_model.specs.Disk.{Files}
use Rattle.pcp_model.specs.Frame.{IsFrameable, frames}
use Rattle.pcp_model.specs.Payload.{stamp_of}

-- no item's stamp is before the one before it
abbrev pub NeverFalls : List Item → Type 0
NeverFalls [] = Unit {0}
NeverFalls (x ∷ []) = Unit {0}
NeverFalls (x ∷ y ∷ items) = (microseconds (stamp_of x) ≤ microseconds (stamp_of y)) × NeverFalls (y ∷ items)

-- an item isn't stamped after t
abbrev pub IsItemBy : Moment → Item → Type 0
IsItemBy t x = microseconds (stamp_of x) ≤ microseconds t

abbrev pub NoItemAfter : Moment → List Item → Type 0
NoItemAfter t items = AllByRecursion (IsItemBy t) items

-- a record of Meta isn't an instance domain stamped after t
abbrev pub IsRecordBy : Moment → MetaRecord → Type 0
IsRecordBy t (Description d names) = Unit {0}
IsRecordBy t (Domain stamp indom pairs) = microseconds stamp ≤ microseconds t
IsRecordBy t Other = Unit {0}

abbrev pub NoDomainAfter : Moment → List MetaRecord → Type 0
NoDomainAfter t records = AllByRecursion (IsRecordBy t) records

-- An offset of a file is a record boundary: the label and so many whole records stand before it. Where the label ends is
-- one, also in a file that ends within its label.
pub record IsBoundary (bytes : List ℕ) (offset count : ℕ) : Type 0 where
  pub payloads : List (List ℕ)
  pub many : length payloads ≡ count
  pub fit : AllByRecursion IsFrameable payloads
  pub behind : List ℕ
  pub stand : drop 132 bytes ≡ frames payloads ++ behind
  pub is : offset ≡ 132 + length (frames payloads)

-- Both offsets of an entry are record boundaries. No domain before its meta offset is stamped after it, nor an item before
-- its volume offset or in an earlier volume.
pub record PointsWell (files : Files) (c : ArchiveContents) (e : Entry) : Type 0 where
  pub records : ℕ
  pub meta : IsBoundary (files Meta) e.meta records
  pub domains : NoDomainAfter e.stamp (take records c.records)
  pub items : ℕ
  pub volume : IsBoundary (files (Volume e.volume)) e.offset items
  pub before : AllByRecursion (λ v. v.0 ≡ e.volume → NoItemAfter e.stamp (take items v.1)) c.volumes
  pub earlier : AllByRecursion (λ v. v.0 < e.volume → NoItemAfter e.stamp v.1) c.volumes

-- An entry isn't of a volume above the last that is not empty. Where its volume is not empty, it points well.
pub record IsSoundEntry (files : Files) (c : ArchiveContents) (e : Entry) : Type 0 where
  pub not_above : (n : ℕ) × (0 < length (files (Volume n))) × (e.volume ≤ n)
  pub points : 0 < length (files (Volume e.volume)) → PointsWell files c e

-- what files are read as is sound
abbrev pub IsSound : Files → ArchiveReading → Type 0
IsSound files ArchiveReading.nothing = Unit {0}
IsSound files (ArchiveReading.archive c) = NeverFalls (items_of c.volumes) × AllByRecursion (IsSoundEntry files c) c.entries

-- the files are readable and sound
abbrev pub Sound : Files → Type 0
Sound files = (r : ArchiveReading) × Reads files r × IsSound files r
