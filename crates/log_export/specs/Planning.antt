-- What is to be written of an archive, as it is planned: of each file some bytes, and behind them those of the source's file up to where it is whole.
use Rattle.std.specs.Prelude.{◌≡◌, ℕ, negsuc, ◌<◌, ◌≤◌, Bool, true, false, ◌==◌, if◌then◌else◌, nat_lt, List, [], ◌∷◌, ◌++◌, length, take, Option, Some, None, IfSome, unwrap_or}
use Rattle.pcp_base.specs.declared.file.FileId.TheVariants.{Meta, Index, Volume}
use Rattle.pcp_model.specs.declared.records.Entry.{Entry}
use Rattle.pcp_model.specs.declared.records.MetaRecord.{MetaRecord}
use Rattle.pcp_model.specs.Archive.{ArchiveContents, IsMeta, IsArchive, IsStoppedCreation, items_of}
use Rattle.pcp_model.specs.Disk.{Files}
use Rattle.pcp_model.specs.LabelFields.{LabelFields}
use Rattle.pcp_model.specs.Labels.{label}
use Rattle.pcp_model.specs.Records.{entries}
use Rattle.archive_loading.specs.declared.metadata.MetaEnd.{MetaEnd}
use Rattle.archive_loading.specs.Loaded.{contents_with, numbers}
use Rattle.archive_loading.specs.Metadata.{HasEnd}
use Rattle.archive_recovery.specs.declared.mending.Last.{Last}
use Rattle.log_export.specs.declared.planning.Plan.{Plan}
use Rattle.log_export.specs.Exported.{IsExported, kept_entries, same_entry, start_entry, with_first}

-- ---- Meta

-- of an archive
abbrev pub HasArchive : Files → Type 0
HasArchive files = (c : ArchiveContents) × IsArchive files c

-- its label, and up to where its records are whole
abbrev pub IsMetaEnd : List ℕ → LabelFields × ℕ → Type 0
IsMetaEnd bytes found = (records : List MetaRecord) × (e : MetaEnd) × IsMeta bytes (contents_with found.0 records [] []) × HasEnd bytes found.0 records e × (found.1 ≡ e.end)

-- ---- the index

-- its own label, or where that isn't whole the writer's
abbrev pub index_label : List ℕ → LabelFields → List ℕ
index_label bytes l = if nat_lt (length bytes) 132 then label l (negsuc 1) else take 132 bytes

abbrev pub begins_with : Entry → List Entry → Bool
begins_with first [] = false
begins_with first (e ∷ es) = same_entry first e

-- ---- the volumes

-- whether none of these, which aren't empty, has its label; each but the last has it
abbrev pub is_bare : List (ℕ × ℕ) → Bool
is_bare [] = true
is_bare (v ∷ []) = nat_lt v.1 132
is_bare (v ∷ w ∷ vs) = false

abbrev pub first_of : Bool → List (ℕ × ℕ) → ℕ
first_of true vs = 0
first_of false [] = 0
first_of false (v ∷ vs) = v.0

-- those with their label
abbrev pub left_of : List (ℕ × ℕ) → List (ℕ × ℕ)
left_of [] = []
left_of (v ∷ []) = if nat_lt v.1 132 then [] else v ∷ []
left_of (v ∷ w ∷ vs) = v ∷ left_of (w ∷ vs)

-- the last one, whose whole records end there, if its label is whole
abbrev pub last_of : ℕ → List (ℕ × ℕ) → Option Last
last_of end [] = None
last_of end (v ∷ []) = Some record { number = v.0; end = if nat_lt v.1 132 then None else Some end; length = v.1 }
last_of end (v ∷ w ∷ vs) = last_of end (w ∷ vs)

-- the first volume's label, where none has its own; else the volumes up to the last one, and of that what is whole
abbrev pub up_to_last : Files → Option Last → ℕ → List ℕ
up_to_last files None n = []
up_to_last files (Some l) n = if nat_lt n l.number then files (Volume n) else if n == l.number then take (unwrap_or l.end 0) (files (Volume n)) else []

abbrev pub planned_volume : Files → Option (List ℕ) → Option Last → ℕ → List ℕ
planned_volume files None last n = up_to_last files last n
planned_volume files (Some given) last n = if n == 0 then given else []

-- ---- the index of an export

-- its label, and the entries of an export of these volumes
abbrev pub index_text : List ℕ → List Entry → LabelFields → List (ℕ × ℕ) → List ℕ
index_text bytes es l vs = index_label bytes l ++ entries (with_first (start_entry l (first_of (is_bare vs) vs)) (kept_entries (numbers (left_of vs)) es))

-- ---- all

abbrev pub planned : Files → Plan → Files
planned files p Meta = take p.meta (files Meta)
planned files p Index = p.index
planned files p (Volume n) = planned_volume files p.given p.last n

-- each volume has fewer than 2^64 - 1 bytes
abbrev pub AreCountable : Files → Type 0
AreCountable files = (n : ℕ) → length (files (Volume n)) < 18446744073709551615

-- the source's files are as long as the plan says
pub record FitsPlan (files : Files) (p : Plan) : Type 0 where
  pub meta : p.meta ≤ length (files Meta)
  pub last : IfSome p.last (λ (l : Last). IfSome l.end (λ end. end ≤ length (files (Volume l.number))))
  pub countable : AreCountable files

-- a number that a volume may have
abbrev pub IsLowPlan : Plan → Type 0
IsLowPlan p = IfSome p.last (λ (l : Last). l.number < 4294967295)

-- the files are an archive of so many items, and what is planned is its export
pub record IsPlanOf (files : Files) (p : Plan) : Type 0 where
  pub contents : ArchiveContents
  pub is : IsArchive files contents
  pub exported : IsExported files contents (planned files p)
  pub counted : p.items ≡ length (items_of contents.volumes)
  pub fits : FitsPlan files p

-- of a creation that was stopped nothing is planned
abbrev pub IsPlanned : Files → Option Plan → Type 0
IsPlanned files None = IsStoppedCreation files
IsPlanned files (Some p) = IsPlanOf files p
