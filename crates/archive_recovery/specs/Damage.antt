-- What reading found of an archive: where its whole records end, and which labels are missing.
use Rattle.std.specs.Prelude.{◌≡◌, ℕ, ◌<◌, pos, negsuc, Bool, true, false, List, [], ◌∷◌, ◌++◌, length, Option, Some, None, IfSome}
use Rattle.pcp_base.specs.declared.file.FileId.TheVariants.{Meta, Index, Volume}
use Rattle.pcp_base.specs.declared.result.Item.{Item}
use Rattle.pcp_model.specs.Archive.{ArchiveContents, HasEntries, IsArchive}
use Rattle.pcp_model.specs.Disk.{Files, Holdings, IsSettled, contents_of}
use Rattle.pcp_model.specs.LabelFields.{LabelFields}
use Rattle.pcp_model.specs.Labels.{label}
use Rattle.pcp_model.specs.Payload.{IsItem}
use Rattle.pcp_model.specs.Records.{IsRecord, entries}
use Rattle.pcp_model.specs.Recovered.{IsMended, labelled_volumes}
use Rattle.pcp_outside.specs.Devices.{length_of}
use Rattle.archive_recovery.specs.declared.mending.Last.{Last}
use Rattle.archive_recovery.specs.declared.whole.Damage.{Damage}
use Rattle.archive_recovery.specs.Halfway.{IsHalfway}

-- where whole entries end
abbrev pub IsIndexEnd : List ℕ → ArchiveContents → Option ℕ → Type 0
IsIndexEnd bytes c None = length bytes < 132
IsIndexEnd bytes c (Some end) = (has : HasEntries bytes c) × (end ≡ length (has.head ++ entries c.entries))

-- where a volume's whole records end
abbrev pub IsVolumeEnd : List ℕ → LabelFields → ℕ → List Item → Option ℕ → Type 0
IsVolumeEnd bytes l n items None = length bytes < 132
IsVolumeEnd bytes l n items (Some end) = (left : List ℕ) × IsMended IsItem bytes l (pos n) items left × (end ≡ length left)

pub record HasEnd (files : Files) (c : ArchiveContents) (l : Last) : Type 0 where
  pub before : List (ℕ × List Item)
  pub items : List Item
  pub are : c.volumes ≡ before ++ (l.number, items) ∷ []
  pub is : IsVolumeEnd (files (Volume l.number)) c.label l.number items l.end

abbrev pub IsLastEnd : Files → ArchiveContents → Option Last → Type 0
IsLastEnd files c None = c.volumes ≡ []
IsLastEnd files c (Some l) = HasEnd files c l

-- whether no volume has its label
abbrev pub IsBare : Files → ArchiveContents → Bool → Type 0
IsBare files c true = labelled_volumes files c.volumes ≡ []
IsBare files c false = labelled_volumes files c.volumes ≡ [] → ⊥

-- the files are this archive, and reading found what there is to mend
pub record Found (files : Files) (c : ArchiveContents) (d : Damage) (index_label volume_label : List ℕ) : Type 0 where
  pub is : IsArchive files c
  pub left : List ℕ
  pub meta : IsMended IsRecord (files Meta) c.label (negsuc 0) c.records left
  pub meta_end : d.meta.end ≡ length left
  pub index : IsIndexEnd (files Index) c d.index
  pub last : IsLastEnd files c d.last
  pub bare : IsBare files c d.bare
  pub labels_index : index_label ≡ label c.label (negsuc 1)
  pub labels_volume : volume_label ≡ label c.label (pos 0)

-- how long the files are
pub record AreLengths (held : Holdings) (d : Damage) : Type 0 where
  pub meta : d.meta.length ≡ length_of (held Meta)
  pub index : d.index_length ≡ length_of (held Index)
  pub last : IfSome d.last (λ l. l.length ≡ length_of (held (Volume l.number)))

-- over a settled disk recovery is on its way, where reading found what there is to mend
abbrev pub MayBeMended : Damage → List ℕ → List ℕ → Holdings → Files → Type 0
MayBeMended d index_label volume_label held image =
    IsSettled held → (c : ArchiveContents) → Found (contents_of held) c d index_label volume_label → IsHalfway (contents_of held) c image
