-- What a reader keeps of an archive: what Meta and the index say, and which volumes there are. Of a volume it has seen its
-- label alone.
use Rattle.std.specs.Prelude.{◌≡◌, ◌⊎◌, ℕ, pos, ◌<◌, ◌≤◌, List, [], ◌∷◌, length, take, map, Contains, Option, Some, None}
use Rattle.std.specs.List.{AllByRecursion}
use Rattle.pcp_base.specs.declared.file.FileId.TheVariants.{Meta, Index, Volume}
use Rattle.pcp_base.specs.declared.result.Item.{Item}
use Rattle.pcp_model.specs.declared.records.MetaRecord.{MetaRecord}
use Rattle.pcp_model.specs.declared.records.Entry.{Entry}
use Rattle.pcp_model.specs.Archive.{ArchiveContents, IsMeta, IsIndex, IsStoppedCreation}
use Rattle.pcp_model.specs.Disk.{Files}
use Rattle.pcp_model.specs.LabelFields.{LabelFields}
use Rattle.pcp_model.specs.Labels.{IsLabel, BeginsLabel}

-- the label, which a stopped creation lacks; Meta's records; the index's entries; and each volume that isn't empty, its number
-- and its length, by ascending number
pub record Loaded : Type 0 where
  pub label : Option LabelFields
  pub records : List MetaRecord
  pub entries : List Entry
  pub volumes : List (ℕ × ℕ)

-- an archive with this metadata, whatever its volumes hold
abbrev pub contents_with : LabelFields → List MetaRecord → List Entry → List (ℕ × List Item) → ArchiveContents
contents_with l records entries volumes = record { label = l; records = records; entries = entries; volumes = volumes }

-- a volume that begins with its label
abbrev pub IsLabelled : List ℕ → LabelFields → ℕ → Type 0
IsLabelled bytes l n = IsLabel (take 132 bytes) l (pos n)

-- nothing stands in a volume above
abbrev pub IsTop : Files → ℕ → Type 0
IsTop files n = (k : ℕ) → n < k → files (Volume k) ≡ []

-- a volume that isn't empty, with its length; it begins with its label, or it is the last one and ends within it
abbrev pub IsHeaded : Files → LabelFields → ℕ × ℕ → Type 0
IsHeaded files l v = (v.1 ≡ length (files (Volume v.0))) × (0 < v.1)
    × (IsLabelled (files (Volume v.0)) l v.0 ⊎ (BeginsLabel (files (Volume v.0)) l (pos v.0) × IsTop files v.0))

-- each number is above those before it
abbrev pub Rises : List (ℕ × ℕ) → Type 0
Rises [] = Unit {0}
Rises (v ∷ vs) = AllByRecursion (λ (w : ℕ × ℕ). v.0 < w.0) vs × Rises vs

abbrev pub AreLabelled : Files → LabelFields → List (ℕ × ℕ) → Type 0
AreLabelled files l volumes = AllByRecursion (IsHeaded files l) volumes × Rises volumes

-- each has this length
abbrev pub IsMeasured : Files → ℕ × ℕ → Type 0
IsMeasured files v = v.1 ≡ length (files (Volume v.0))

-- some volume has as many bytes as a label, or each has fewer
abbrev pub HasLong : List (ℕ × ℕ) → Type 0
HasLong volumes = (v : ℕ × ℕ) × Contains volumes v × (132 ≤ v.1)

abbrev pub AllShort : List (ℕ × ℕ) → Type 0
AllShort volumes = AllByRecursion (λ (v : ℕ × ℕ). v.1 < 132) volumes

-- numbers that a volume may have
abbrev pub IsReachable : List (ℕ × ℕ) → Type 0
IsReachable volumes = AllByRecursion (λ (v : ℕ × ℕ). v.0 < 4294967295) volumes

abbrev pub numbers : List (ℕ × ℕ) → List ℕ
numbers volumes = map (λ (v : ℕ × ℕ). v.0) volumes

-- the files are such an archive, apart from the records of its volumes
pub record IsLabelledArchive (files : Files) (l : LabelFields) (records : List MetaRecord) (entries : List Entry) (volumes : List (ℕ × ℕ)) : Type 0 where
  pub meta : IsMeta (files Meta) (contents_with l records [] [])
  pub index : IsIndex (files Index) (contents_with l [] entries [])
  pub labelled : AreLabelled files l volumes
  pub others : (n : ℕ) → (Contains (numbers volumes) n → ⊥) → files (Volume n) ≡ []
  pub beside : (entries ≡ []) ⊎ ((n : ℕ) × (132 ≤ length (files (Volume n))))

-- what was kept is what these files say
abbrev pub IsKeptOf : Files → Option LabelFields → List MetaRecord → List Entry → List (ℕ × ℕ) → Type 0
IsKeptOf files None records entries volumes = IsStoppedCreation files × (records ≡ []) × (entries ≡ []) × (volumes ≡ [])
IsKeptOf files (Some l) records entries volumes = IsLabelledArchive files l records entries volumes

abbrev pub IsOver : Files → Loaded → Type 0
IsOver files r = IsKeptOf files r.label r.records r.entries r.volumes
