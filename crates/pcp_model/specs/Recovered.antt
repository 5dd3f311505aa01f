-- What recovery leaves of readable files: what is torn is cut away, and labels that are missing stand again.
use Rattle.std.specs.Prelude.{◌≡◌, ◌⊎◌, ℕ, ℤ, ◌<◌, pos, negsuc, List, [], ◌∷◌, ◌++◌, length, map, nat_lt, if◌then◌else◌, Contains}
use Rattle.std.specs.List.{AllByRecursion}
use Rattle.pcp_base.specs.declared.file.FileId.{FileId}
use Rattle.pcp_base.specs.declared.file.FileId.TheVariants.{Meta, Index, Volume}
use Rattle.pcp_base.specs.declared.result.Item.{Item}
use Rattle.pcp_model.specs.Archive.{ArchiveContents, ArchiveReading, LabelledFile, HasEntries}
use Rattle.pcp_model.specs.Disk.{Files}
use Rattle.pcp_model.specs.Frame.{IsTorn}
use Rattle.pcp_model.specs.LabelFields.{LabelFields}
use Rattle.pcp_model.specs.Labels.{label}
use Rattle.pcp_model.specs.Payload.{IsItem}
use Rattle.pcp_model.specs.Records.{IsRecord, entries}

-- a file up to the end of its last whole record
pub record IsMended {X : Type 0} (R : List ℕ → X → Type 0) (bytes : List ℕ) (l : LabelFields) (number : ℤ) (values : List X) (left : List ℕ) : Type 0 where
  pub torn : List ℕ
  pub is_torn : IsTorn torn
  pub is : bytes ≡ left ++ torn
  pub whole : LabelledFile R left l number values []

-- the index up to its last whole entry; where its label isn't whole, the writer's label
abbrev pub IsMendedIndex : List ℕ → ArchiveContents → List ℕ → Type 0
IsMendedIndex bytes c left = ((length bytes < 132) × (left ≡ label c.label (negsuc 1))) ⊎ ((has : HasEntries bytes c) × (left ≡ has.head ++ entries c.entries))

-- the volumes whose label is whole: all, or all but the last
abbrev pub labelled_volumes : Files → List (ℕ × List Item) → List (ℕ × List Item)
labelled_volumes files [] = []
labelled_volumes files (v ∷ []) = if nat_lt (length (files (Volume v.0))) 132 then [] else v ∷ []
labelled_volumes files (v ∷ w ∷ vs) = v ∷ labelled_volumes files (w ∷ vs)

-- where none is left, there is a first volume without an item
abbrev pub or_first_volume : List (ℕ × List Item) → List (ℕ × List Item)
or_first_volume [] = (0, []) ∷ []
or_first_volume (v ∷ vs) = v ∷ vs

-- what is left of an archive's contents: all but the places of volumes without a label
abbrev pub recovered_contents : Files → ArchiveContents → ArchiveContents
recovered_contents files c = record { label = c.label; records = c.records; entries = c.entries; volumes = or_first_volume (labelled_volumes files c.volumes) }

abbrev pub recovered_reading : Files → ArchiveReading → ArchiveReading
recovered_reading files ArchiveReading.nothing = ArchiveReading.nothing
recovered_reading files (ArchiveReading.archive c) = ArchiveReading.archive (recovered_contents files c)

-- these volumes, mended; where there are none, the first one's label
abbrev pub AreMended : Files → LabelFields → Files → List (ℕ × List Item) → Type 0
AreMended files l left [] = left (Volume 0) ≡ label l (pos 0)
AreMended files l left (v ∷ vs) = AllByRecursion (λ w. IsMended IsItem (files (Volume w.0)) l (pos w.0) w.1 (left (Volume w.0))) (v ∷ vs)

-- Meta, the index and the volumes without what is torn, and no other volume
pub record IsRecovered (files : Files) (c : ArchiveContents) (left : Files) : Type 0 where
  pub meta : IsMended IsRecord (files Meta) c.label (negsuc 0) c.records (left Meta)
  pub index : IsMendedIndex (files Index) c (left Index)
  pub volumes : AreMended files c.label left (labelled_volumes files c.volumes)
  pub others : (n : ℕ) → (Contains (map (λ v. v.0) (or_first_volume (labelled_volumes files c.volumes))) n → ⊥) → left (Volume n) ≡ []

-- recovery of files that are read so leaves these
abbrev pub Recovers : Files → ArchiveReading → Files → Type 0
Recovers files ArchiveReading.nothing left = (file : FileId) → left file ≡ []
Recovers files (ArchiveReading.archive c) left = IsRecovered files c left
