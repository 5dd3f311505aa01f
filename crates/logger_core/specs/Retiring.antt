-- Old volumes are let go (pmlogger(1)): the volumes below a number are emptied, the lowest first. Metadata and index entries stay.
use Rattle.std.specs.Prelude.{◌≡◌, ◌⊎◌, ℕ, ◌+◌, ◌-◌, ◌<◌, ◌≤◌, true, false, nat_lt, if◌then◌else◌, List, [], ◌∷◌, ◌++◌, length}
use Rattle.pcp_base.specs.declared.file.FileId.{FileId}
use Rattle.pcp_base.specs.declared.file.FileId.TheVariants.{Meta, Index, Volume}
use Rattle.pcp_base.specs.declared.result.Item.{Item}
use Rattle.pcp_model.specs.Archive.{ArchiveContents, ArchiveReading, IsArchive, items_of}
use Rattle.pcp_model.specs.Disk.{CrashImage, Files, Holdings, nothing_held}
use Rattle.pcp_model.specs.Recovered.{IsRecovered, recovered_contents}
use Rattle.pcp_model.specs.Sound.{IsSound}
use Rattle.pcp_outside.specs.Causes.{Rose}
use Rattle.pcp_outside.specs.Devices.{with_file}
use Rattle.logger_core.specs.declared.fault.LogFault.{LogFault}
use Rattle.logger_core.specs.declared.fault.LogFault.TheVariants.{Closed, Live, Large, NotLater, Changed, Full, NoMemory, DiskFault}
use Rattle.logger_core.specs.Meant.{Meant, Kept, SurvivesOf}
use Rattle.logger_core.specs.Refusals.{closed_copy}

-- these files with the volumes below a number empty
abbrev pub without : Files → ℕ → Files
without files below Meta = files Meta
without files below Index = files Index
without files below (Volume n) = if nat_lt n below then [] else files (Volume n)

-- a disk that holds nothing of the volumes below a number, and of every other file what it held
abbrev pub held_without : Holdings → ℕ → Holdings
held_without held below Meta = held Meta
held_without held below Index = held Index
held_without held below (Volume n) = if nat_lt n below then nothing_held else held (Volume n)

-- a volume was emptied, or not yet
abbrev pub MayBeEmptied : ℕ → Holdings → Files → Type 0
MayBeEmptied n held image = CrashImage held image ⊎ CrashImage (with_file (Volume n) nothing_held held) image

-- a crash of a disk that holds nothing of some of the lowest of the volumes below a number
abbrev pub LeavesSome : ℕ → Holdings → Files → Type 0
LeavesSome below held image = (from : ℕ) × (from ≤ below) × CrashImage (held_without held from) image

-- the volumes below a number, and the others
abbrev pub volumes_below : ℕ → List (ℕ × List Item) → List (ℕ × List Item)
volumes_below below [] = []
volumes_below below (v ∷ vs) = if nat_lt v.0 below then v ∷ volumes_below below vs else volumes_below below vs

abbrev pub volumes_from : ℕ → List (ℕ × List Item) → List (ℕ × List Item)
volumes_from below [] = []
volumes_from below (v ∷ vs) = if nat_lt v.0 below then volumes_from below vs else v ∷ volumes_from below vs

-- what such files are read as
abbrev pub contents_without : ArchiveContents → ℕ → ArchiveContents
contents_without c below = record { label = c.label; records = c.records; entries = c.entries; volumes = volumes_from below c.volumes }

-- how many items the volumes below a number have
abbrev pub count_below : ℕ → ArchiveContents → ℕ
count_below below c = length (items_of (volumes_below below c.volumes))

-- What is meant once the volumes below a number are retired: their items are gone, all of which were acknowledged; the greatest stamp
-- stays.
abbrev pub retired : Meant → ℕ → Meant
retired m below = record {
  start = m.start;
  files = without m.files below;
  contents = contents_without m.contents below;
  acknowledged = m.acknowledged - count_below below m.contents;
  gone = m.gone + count_below below m.contents;
  greatest = m.greatest;
}

-- What a crash leaves meanwhile: some of the lowest of those volumes are empty and no other, and every file else is as a crash would have
-- left it at the start. Of the items that are left it has the first ones, all acknowledged ones among them, each described, and is sound.
pub record IsRetiring (m : Meant) (below : ℕ) (held : Holdings) (image : Files) : Type 0 where
  pub from : ℕ
  pub most : from ≤ below
  pub before : Files
  pub crash : CrashImage held before
  pub is : (file : FileId) → image file ≡ without before from file
  pub survives : SurvivesOf (retired m from) image

-- Where the disk failed some of the lowest of those volumes are empty, and every other file is as it was.
pub record HasRetiredSome (below : ℕ) (old new : Holdings) : Type 0 where
  pub from : ℕ
  pub most : from ≤ below
  pub is : (file : FileId) → new file ≡ held_without old from file

-- Which refusal `retire` answers, and what it leaves of the logger: it is closed; the number is above the current volume, which is told;
-- or the disk failed, which closes it.
abbrev pub RetireMayAnswer : Kept → Kept → ℕ → ℕ → ℕ → LogFault → Type 0
RetireMayAnswer old new below before after Closed = (old.closed ≡ true) × (new ≡ old)
RetireMayAnswer old new below before after (Live volume) = (old.closed ≡ false) × (old.ends.volume < below) × (volume ≡ old.ends.volume) × (new ≡ old)
RetireMayAnswer old new below before after (Large bytes) = ⊥
RetireMayAnswer old new below before after (NotLater last) = ⊥
RetireMayAnswer old new below before after (Changed pmid) = ⊥
RetireMayAnswer old new below before after (Full file bytes) = ⊥
RetireMayAnswer old new below before after NoMemory = ⊥
RetireMayAnswer old new below before after DiskFault = (old.closed ≡ false) × (old.ends.volume < below → ⊥) × (new ≡ closed_copy old) × Rose before after

-- ---- laws

-- Where a volume that isn't retired has its label, what is left is an archive of the other volumes, and sound where it was: entries of
-- retired volumes aren't looked at.
abbrev pub RetiredIsRead : Type 0
RetiredIsRead = (files : Files) (c : ArchiveContents) (below n : ℕ) → IsArchive files c → below ≤ n → 132 ≤ length (files (Volume n))
    → IsArchive (without files below) (contents_without c below) × (IsSound files (ArchiveReading.archive c) → IsSound (without files below) (ArchiveReading.archive (contents_without c below)))

-- Recovery of it leaves what recovery leaves of the whole, with the same volumes retired.
abbrev pub RetiredIsRecovered : Type 0
RetiredIsRecovered = (files left : Files) (c : ArchiveContents) (below n : ℕ) → IsArchive files c → below ≤ n → 132 ≤ length (files (Volume n)) → IsRecovered files c left
    → IsRecovered (without files below) (contents_without c below) (without left below) × (recovered_contents (without files below) (contents_without c below) ≡ contents_without (recovered_contents files c) below)

-- Its items are those of the whole behind the items of the retired volumes.
abbrev pub RetiredItemsAreFirst : Type 0
RetiredItemsAreFirst = (files : Files) (c : ArchiveContents) (below : ℕ) → IsArchive files c → items_of c.volumes ≡ items_of (volumes_below below c.volumes) ++ items_of (contents_without c below).volumes

-- A retirement that was stopped and is made again leaves what one that wasn't stopped leaves.
abbrev pub RetiringGoesOn : Type 0
RetiringGoesOn = (files : Files) (from below : ℕ) → from ≤ below → (file : FileId) → without (without files from) below file ≡ without files below file
