-- Files on which recovery is on its way, or what a crash left of it: nothing that was whole is missing, but entries of
-- the index.
use Rattle.std.specs.Prelude.{◌≡◌, ◌≢◌, ◌⊎◌, ℕ, ℤ, ◌<◌, pos, negsuc, List, [], ◌++◌, length, take}
use Rattle.pcp_base.specs.declared.file.FileId.TheVariants.{Meta, Index, Volume}
use Rattle.pcp_model.specs.Archive.{ArchiveContents, ArchiveReading, Reads}
use Rattle.pcp_model.specs.Disk.{Files, Holdings, IsSettled, contents_of}
use Rattle.pcp_model.specs.LabelFields.{LabelFields}
use Rattle.pcp_model.specs.Labels.{label}
use Rattle.pcp_model.specs.Laws.{HasLast}
use Rattle.pcp_model.specs.Payload.{IsItem}
use Rattle.pcp_model.specs.Records.{IsRecord}
use Rattle.pcp_model.specs.Recovered.{IsMended, labelled_volumes}

-- a file is cut somewhere behind its last whole record
pub record IsCutBehind {X : Type 0} (R : List ℕ → X → Type 0) (bytes : List ℕ) (l : LabelFields) (number : ℤ) (values : List X) (image : List ℕ) : Type 0 where
  pub left : List ℕ
  pub mended : IsMended R bytes l number values left
  pub n : ℕ
  pub is : image ≡ left ++ take n mended.torn

-- The index is cut anywhere. Where its label wasn't whole, the writer's label stands in its place, cut anywhere too.
abbrev pub IsHalfIndex : List ℕ → LabelFields → List ℕ → Type 0
IsHalfIndex bytes l image =
    ((n : ℕ) × (image ≡ take n bytes)) ⊎ ((length bytes < 132) × (n : ℕ) × (image ≡ take n (label l (negsuc 1))))

-- the last volume is cut behind its last whole record; one within its label is cut anywhere
abbrev pub IsHalfLast : List ℕ → (c : ArchiveContents) → HasLast c → List ℕ → Type 0
IsHalfLast bytes c last image =
    IsCutBehind IsItem bytes c.label (pos last.number) last.items image ⊎ ((length bytes < 132) × (n : ℕ) × (image ≡ take n bytes))

-- the other volumes stand
pub record LastIsCut (files image : Files) (c : ArchiveContents) : Type 0 where
  pub last : HasLast c
  pub cut : IsHalfLast (files (Volume last.number)) c last (image (Volume last.number))
  pub others : (n : ℕ) → n ≢ last.number → image (Volume n) ≡ files (Volume n)

-- no volume had its label, and the first one's is begun
pub record FirstIsBegun (files image : Files) (c : ArchiveContents) : Type 0 where
  pub none : labelled_volumes files c.volumes ≡ []
  pub n : ℕ
  pub first : image (Volume 0) ≡ take n (label c.label (pos 0))
  pub others : (k : ℕ) → k ≢ 0 → image (Volume k) ≡ []

pub record IsHalfway (files : Files) (c : ArchiveContents) (image : Files) : Type 0 where
  pub meta : IsCutBehind IsRecord (files Meta) c.label (negsuc 0) c.records (image Meta)
  pub index : IsHalfIndex (files Index) c.label (image Index)
  pub volumes : LastIsCut files image c ⊎ FirstIsBegun files image c

-- a creation that was stopped holds bytes in Meta alone, and any of them may be missing
pub record IsLess (files image : Files) : Type 0 where
  pub n : ℕ
  pub meta : image Meta ≡ take n (files Meta)
  pub index : image Index ≡ []
  pub volumes : (k : ℕ) → image (Volume k) ≡ []

abbrev pub HalfwayFrom : Files → ArchiveReading → Files → Type 0
HalfwayFrom files ArchiveReading.nothing image = IsLess files image
HalfwayFrom files (ArchiveReading.archive c) image = IsHalfway files c image

-- over a settled disk whose files are read so
abbrev pub MayBeHalfway : Holdings → Files → Type 0
MayBeHalfway held image = IsSettled held → (r : ArchiveReading) → Reads (contents_of held) r → HalfwayFrom (contents_of held) r image
