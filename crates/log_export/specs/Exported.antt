-- What an export leaves: what recovery would leave of the source's files, but for the index. That begins with the entry with which each index of
-- pmlogger(1) does, and at which readers of stock tools begin; and an entry of a volume that isn't left is gone.
use Rattle.std.specs.Prelude.{◌≡◌, ℕ, Bool, true, false, ◌==◌, ◌&&◌, if◌then◌else◌, List, [], ◌∷◌, ◌++◌, map, take}
use Rattle.pcp_base.specs.declared.file.FileId.{FileId}
use Rattle.pcp_base.specs.declared.file.FileId.TheVariants.{Meta, Index, Volume}
use Rattle.pcp_base.specs.declared.result.Item.{Item}
use Rattle.pcp_model.specs.declared.records.Entry.{Entry}
use Rattle.pcp_model.specs.Archive.{ArchiveContents, ArchiveReading}
use Rattle.pcp_model.specs.Disk.{Files}
use Rattle.pcp_model.specs.LabelFields.{LabelFields}
use Rattle.pcp_model.specs.Records.{entries}
use Rattle.pcp_model.specs.Recovered.{IsRecovered, labelled_volumes, recovered_contents}

abbrev pub same_entry : Entry → Entry → Bool
same_entry a b = (a.stamp.sec == b.stamp.sec) && (a.stamp.usec == b.stamp.usec) && (a.volume == b.volume) && (a.meta == b.meta) && (a.offset == b.offset)

-- at the label's stamp the records of Meta and of this volume begin
abbrev pub start_entry : LabelFields → ℕ → Entry
start_entry l first = record { stamp = l.start; volume = first; meta = 132; offset = 132 }

-- a number is one of these
abbrev pub is_one_of : List ℕ → ℕ → Bool
is_one_of [] n = false
is_one_of (m ∷ ms) n = if m == n then true else is_one_of ms n

-- the entries of these volumes
abbrev pub kept_entries : List ℕ → List Entry → List Entry
kept_entries numbers [] = []
kept_entries numbers (e ∷ es) = if is_one_of numbers e.volume then e ∷ kept_entries numbers es else kept_entries numbers es

-- in front of the others, unless it stands there
abbrev pub with_first : Entry → List Entry → List Entry
with_first first [] = first ∷ []
with_first first (e ∷ es) = if same_entry first e then e ∷ es else first ∷ e ∷ es

-- the number of the first volume with its label; where there is none, volume 0 gets it
abbrev pub first_number : List (ℕ × List Item) → ℕ
first_number [] = 0
first_number (v ∷ vs) = v.0

abbrev pub exported_entries : Files → ArchiveContents → List Entry
exported_entries files c =
    with_first (start_entry c.label (first_number (labelled_volumes files c.volumes))) (kept_entries (map (λ (v : ℕ × List Item). v.0) (labelled_volumes files c.volumes)) c.entries)

-- the files of an export of an archive
pub record IsExported (files : Files) (c : ArchiveContents) (out : Files) : Type 0 where
  pub left : Files
  pub recovered : IsRecovered files c left
  pub meta : out Meta ≡ left Meta
  pub index : out Index ≡ take 132 (left Index) ++ entries (exported_entries files c)
  pub volumes : (n : ℕ) → out (Volume n) ≡ left (Volume n)

-- and what they are read as
abbrev pub exported_contents : Files → ArchiveContents → ArchiveContents
exported_contents files c = record { label = c.label; records = c.records; entries = exported_entries files c; volumes = (recovered_contents files c).volumes }

-- a creation that was stopped leaves nothing
abbrev pub ExportsAs : Files → ArchiveReading → Files → Type 0
ExportsAs files ArchiveReading.nothing out = (file : FileId) → out file ≡ []
ExportsAs files (ArchiveReading.archive c) out = IsExported files c out

abbrev pub exported_reading : Files → ArchiveReading → ArchiveReading
exported_reading files ArchiveReading.nothing = ArchiveReading.nothing
exported_reading files (ArchiveReading.archive c) = ArchiveReading.archive (exported_contents files c)
