-- Which files are readable as an archive, and what their scan is (LOGARCHIVE(5)).
use Rattle.std.specs.Prelude.{◌≡◌, ◌⊎◌, ℕ, ℤ, pos, negsuc, ◌<◌, ◌≤◌, List, [], ◌∷◌, ◌++◌, length, map, Contains}
use Rattle.std.specs.List.{AllByRecursion}
use Rattle.pcp_base.specs.declared.file.FileId.TheVariants.{Meta, Index, Volume}
use Rattle.pcp_base.specs.declared.result.Item.{Item}
use Rattle.pcp_model.specs.declared.records.MetaRecord.{MetaRecord}
use Rattle.pcp_model.specs.declared.records.Entry.{Entry}
use Rattle.pcp_model.specs.Disk.{Files}
use Rattle.pcp_model.specs.Frame.{IsFrameable, IsTorn, frames}
use Rattle.pcp_model.specs.LabelFields.{LabelFields}
use Rattle.pcp_model.specs.Labels.{IsLabel, BeginsLabel}
use Rattle.pcp_model.specs.Payload.{IsItem}
use Rattle.pcp_model.specs.Records.{IsRecord, AreConsistent, FitsEntry, entries}

-- What a whole archive holds: the label, Meta's records, the index's entries, and for each volume that isn't
-- empty, by ascending number, its items.
pub record ArchiveContents : Type 0 where
  pub label : LabelFields
  pub records : List MetaRecord
  pub entries : List Entry
  pub volumes : List (ℕ × List Item)

-- each payload can be framed, and is read as the value beside it
abbrev pub AreRead : {X : Type 0} → (List ℕ → X → Type 0) → List (List ℕ) → List X → Type 0
AreRead R [] [] = Unit {0}
AreRead R (payload ∷ payloads) (x ∷ xs) = IsFrameable payload × R payload x × AreRead R payloads xs
AreRead R payloads xs = Unit {0} → ⊥

-- a file is its label, the whole framed records of these values, and then an end
pub record LabelledFile {X : Type 0} (R : List ℕ → X → Type 0) (bytes : List ℕ) (l : LabelFields) (number : ℤ) (values : List X) (rest : List ℕ) : Type 0 where
  pub head : List ℕ
  pub label : IsLabel head l number
  pub payloads : List (List ℕ)
  pub read : AreRead R payloads values
  pub is : bytes ≡ head ++ (frames payloads ++ rest)

-- Meta: its records, of which no two describe one metric in two ways, and at most one torn frame
pub record IsMeta (bytes : List ℕ) (c : ArchiveContents) : Type 0 where
  pub torn : List ℕ
  pub is_torn : IsTorn torn
  pub holds : LabelledFile IsRecord bytes c.label (negsuc 0) c.records torn
  pub consistent : AreConsistent c.records

-- the index: its label, whole entries, and fewer bytes than one more
pub record HasEntries (bytes : List ℕ) (c : ArchiveContents) : Type 0 where
  pub head : List ℕ
  pub label : IsLabel head c.label (negsuc 1)
  pub fit : AllByRecursion FitsEntry c.entries
  pub rest : List ℕ
  pub short : length rest < 20
  pub is : bytes ≡ head ++ (entries c.entries ++ rest)

-- or less than its label, and no entry
abbrev pub IsIndex : List ℕ → ArchiveContents → Type 0
IsIndex bytes c = ((c.entries ≡ []) × BeginsLabel bytes c.label (negsuc 1)) ⊎ HasEntries bytes c

-- the last volume may end in one torn frame, or be less than its label
abbrev pub IsLastVolume : List ℕ → LabelFields → ℕ → List Item → Type 0
IsLastVolume bytes l n items =
    ((0 < length bytes) × (items ≡ []) × BeginsLabel bytes l (pos n)) ⊎ ((torn : List ℕ) × IsTorn torn × LabelledFile IsItem bytes l (pos n) items torn)

-- the volumes that aren't empty, by ascending number; each but the last is whole
abbrev pub AreVolumes : Files → LabelFields → List (ℕ × List Item) → Type 0
AreVolumes files l [] = Unit {0}
AreVolumes files l (v ∷ []) = IsLastVolume (files (Volume v.0)) l v.0 v.1
AreVolumes files l (v ∷ w ∷ vs) = LabelledFile IsItem (files (Volume v.0)) l (pos v.0) v.1 [] × (v.0 < w.0) × AreVolumes files l (w ∷ vs)

-- The files are a whole archive. All labels agree, and an entry stands only beside a volume with its label.
pub record IsArchive (files : Files) (c : ArchiveContents) : Type 0 where
  pub meta : IsMeta (files Meta) c
  pub index : IsIndex (files Index) c
  pub volumes : AreVolumes files c.label c.volumes
  pub others : (n : ℕ) → (Contains (map (λ v. v.0) c.volumes) n → ⊥) → files (Volume n) ≡ []
  pub labelled : (c.entries ≡ []) ⊎ ((n : ℕ) × (132 ≤ length (files (Volume n))))

-- a creation that was stopped: less than Meta's label, and no other byte
pub record IsStoppedCreation (files : Files) : Type 0 where
  pub meta : (files Meta ≡ []) ⊎ ((l : LabelFields) × BeginsLabel (files Meta) l (negsuc 0))
  pub index : files Index ≡ []
  pub volumes : (n : ℕ) → files (Volume n) ≡ []

-- what files are read as
pub data ArchiveReading : Type 0 where
  nothing : ArchiveReading
  archive : ArchiveContents → ArchiveReading

abbrev pub Reads : Files → ArchiveReading → Type 0
Reads files ArchiveReading.nothing = IsStoppedCreation files
Reads files (ArchiveReading.archive c) = IsArchive files c

abbrev pub Readable : Files → Type 0
Readable files = (r : ArchiveReading) × Reads files r

-- the items of volumes, one volume behind another
abbrev pub items_of : List (ℕ × List Item) → List Item
items_of [] = []
items_of (v ∷ vs) = v.1 ++ items_of vs

-- the items of the whole records, by ascending volume
abbrev pub scan : ArchiveReading → List Item
scan ArchiveReading.nothing = []
scan (ArchiveReading.archive c) = items_of c.volumes

abbrev pub records_in : ArchiveReading → List MetaRecord
records_in ArchiveReading.nothing = []
records_in (ArchiveReading.archive c) = c.records
