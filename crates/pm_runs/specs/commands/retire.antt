-- `retire N` lets old volumes of an archive go: it recovers the archive and empties the volumes below a number, the lowest first. Metadata
-- and the entries of the index stay. It writes the number. One above the current volume is refused, and so is an archive without a label.
use Rattle.std.specs.Prelude.{◌≡◌, ◌≢◌, ◌⊎◌, ℕ, ◌<◌, ◌≤◌, true, false, List, [], length, codes, Some, None, Result, Ok, Err}
use Rattle.text_lines.specs.Spelling.{one_number}
use Rattle.pcp_base.specs.declared.file.FileId.{FileId}
use Rattle.pcp_base.specs.declared.file.FileId.TheVariants.{Volume}
use Rattle.pcp_base.specs.declared.result.Item.{Item}
use Rattle.pcp_model.specs.Archive.{ArchiveContents, ArchiveReading, IsArchive, Reads, items_of, records_in, scan}
use Rattle.pcp_model.specs.Disk.{Files, Holdings, IsSettled, contents_of}
use Rattle.pcp_model.specs.Recovered.{IsRecovered, Recovers, recovered_reading}
use Rattle.pcp_model.specs.Sound.{IsSound}
use Rattle.pcp_outside.specs.Causes.{Rose}
use Rattle.pcp_outside.specs.Devices.{LeavesOnly}
use Rattle.pcp_outside.specs.declared.disk.Disk.{Ghosts as DiskGhosts}
use Rattle.archive_recovery.specs.declared.outcome.Archive.{Archive}
use Rattle.archive_recovery.specs.Halfway.{HalfwayFrom, MayBeHalfway}
use Rattle.archive_recovery.specs.RecoverFaults.{IsRefused}
use Rattle.logger_core.specs.declared.fault.LogFault.{LogFault}
use Rattle.logger_core.specs.declared.fault.LogFault.TheVariants as faults
use Rattle.logger_core.specs.Retiring.{volumes_from, without}
use Rattle.pm_words.specs.declared.refusal.Refusal.{Refusal}
use Rattle.pm_words.specs.declared.refusal.Refusal.TheVariants.{Compressed, NotArchive, Live, DiskFault, NoMemory}
use Rattle.pm_words.specs.Meaning.{Meaning}
use Rattle.pm_words.specs.Sides.{DiskSide, Found}
use Rattle.pm_words.specs.Sound.{RecoversSound}
use Rattle.pm_runs.specs.commands.recover.{IsMendedSide}

-- the current volume: it isn't empty, and all above it are
pub record IsCurrent (files : Files) (volume : ℕ) : Type 0 where
  pub filled : 0 < length (files (Volume volume))
  pub above : (n : ℕ) → volume < n → files (Volume n) ≡ []

-- Files that are read so are live: there is no label, which is told as volume 0; or the current volume that recovery leaves is below the
-- number.
abbrev pub IsLiveAs : ℕ → Files → ArchiveReading → ℕ → Type 0
IsLiveAs below files ArchiveReading.nothing volume = volume ≡ 0
IsLiveAs below files (ArchiveReading.archive c) volume = (left : Files) × IsRecovered files c left × IsCurrent left volume × (volume < below)

abbrev pub IsLive : ℕ → Files → ℕ → Type 0
IsLive below files volume = (r : ArchiveReading) × Reads files r × IsLiveAs below files r volume

-- no file stands wrapped, and the archive that is found is live
abbrev pub IsLiveFound : ℕ → Found → ℕ → Type 0
IsLiveFound below found volume = (found.wrapped ≡ None) × IsLive below found.files volume

-- a file stands wrapped, this is the first offset that fits no archive, or the archive is live
abbrev pub IsTurnedAway : ℕ → Found → Refusal → Type 0
IsTurnedAway below found (Compressed file) = found.wrapped ≡ Some file
IsTurnedAway below found (NotArchive file at) = (found.wrapped ≡ None) × IsRefused found.files file at
IsTurnedAway below found (Live volume) = IsLiveFound below found volume
IsTurnedAway below found _ = ⊥

-- The files were an archive whose current volume isn't below the number, and what is left is what recovery leaves of it with the volumes
-- below that number empty; all of it is sure.
pub record IsRetiredSide (below : ℕ) (d : DiskSide) : Type 0 where
  pub contents : ArchiveContents
  pub was : IsArchive (contents_of d.held) contents
  pub left : Files
  pub recovered : IsRecovered (contents_of d.held) contents left
  pub current : ℕ
  pub is_current : IsCurrent left current
  pub not_above : below ≤ current
  pub emptied : (file : FileId) → contents_of d.after file ≡ without left below file
  pub sure : (file : FileId) → (d.after file).rest ≡ []

abbrev pub retired_line : ℕ → List ℕ
retired_line below = one_number (codes "retired") below

-- Once it is done each crash leaves what recovery leaves of the files at the start, with these volumes empty.
abbrev pub KeepsRetired : ℕ → Files → Files → Type 0
KeepsRetired below files image = (c : ArchiveContents) → IsArchive files c → (left : Files) → IsRecovered files c left → (file : FileId) → image file ≡ without left below file

-- where it is live recovery has mended the files, and no volume was emptied
abbrev pub StandsAt : DiskSide → Refusal → Type 0
StandsAt d (Live volume) = d.tells → IsMendedSide d
StandsAt d e = Unit {0}

-- After a disk fault it may be on its way. Where it is live, or wants memory once recovery has answered, the files are mended, and no volume
-- was emptied.
abbrev pub IsUnderWay : ℕ → DiskSide → Type 0
IsUnderWay status d = (status ≡ 5) ⊎ (((status ≡ 9) ⊎ (status ≡ 14)) × (d.tells → IsMendedSide d))

-- ---- what a crash leaves

-- the items of an archive but those of the volumes below a number
abbrev pub scan_from : ℕ → ArchiveReading → List Item
scan_from from ArchiveReading.nothing = []
scan_from from (ArchiveReading.archive c) = items_of (volumes_from from c.volumes)

-- There is no volume below a number, or one that isn't below it has its label: the current volume isn't below it.
abbrev pub Standing : Files → ℕ → Type 0
Standing files from = (from ≡ 0) ⊎ ((n : ℕ) × (from ≤ n) × (132 ≤ length (files (Volume n))))

-- Of files that are read so, and of which recovery leaves these, it leaves files on which recovery is on its way, with the volumes below a
-- number empty that is at most the one asked for, none of them the current one. They are read with the items of the start but those of these volumes, and with all records
-- of Meta; and recovery leaves them sound where it leaves those of the start so.
pub record IsPartlyRetired (below : ℕ) (files : Files) (r : ArchiveReading) (left image : Files) : Type 0 where
  pub from : ℕ
  pub most : from ≤ below
  pub standing : Standing left from
  pub before : Files
  pub halfway : HalfwayFrom files r before
  pub is : (file : FileId) → image file ≡ without before from file
  pub new : ArchiveReading
  pub reads : Reads image new
  pub items : scan new ≡ scan_from from r
  pub records : records_in new ≡ records_in r
  pub sound : IsSound left (recovered_reading files r) → RecoversSound image

-- over a settled disk
abbrev pub MayBeRetiring : ℕ → Holdings → Files → Type 0
MayBeRetiring below held image =
    IsSettled held → (r : ArchiveReading) → Reads (contents_of held) r → (left : Files) → Recovers (contents_of held) r left → IsPartlyRetired below (contents_of held) r left image

-- ---- over any disk

-- the lowest volumes are empty, no more than so many, and a volume behind them isn't
pub record IsWithoutSome (most : ℕ) (files image : Files) : Type 0 where
  pub from : ℕ
  pub few : from ≤ most
  pub standing : Standing files from
  pub is : (file : FileId) → image file ≡ without files from file

module _ {D : Type 0} (d : DiskGhosts D) (old new : D) where
  -- Recovery answered: no file stood wrapped, and at that moment the files were what it leaves of those at the start, each byte sure. A crash
  -- from then on leaves these with some of the lowest volumes empty.
  pub record HasGoneOn (most : ℕ) : Type 0 where
    pub reading : ArchiveReading
    pub was : Reads (contents_of (d.held old)) reading
    pub unwrapped : d.wrapped_file old ≡ None
    pub middle : D
    pub later : d.moment old ≤ d.moment middle
    pub recovered : Recovers (contents_of (d.held old)) reading (contents_of (d.held middle))
    pub sure : (file : FileId) → (d.held middle file).rest ≡ []
    pub since : LeavesOnly d.moment d.left_since middle new (IsWithoutSome most (contents_of (d.held middle)))

  -- Or it didn't: the disk failed on its way, memory was refused before or in it, or the files were turned away.
  abbrev pub HasNotGoneOn : Refusal → Type 0
  HasNotGoneOn DiskFault = LeavesOnly d.moment d.left_since old new (MayBeHalfway (d.held old))
  HasNotGoneOn e = d.held new ≡ d.held old

  -- which of them, by the answer; where it is live or wants memory no volume was emptied
  abbrev pub Went : ℕ → Result (List ℕ) Refusal → Type 0
  Went below (Ok text) = HasGoneOn below
  Went below (Err (Live volume)) = HasGoneOn 0
  Went below (Err DiskFault) = HasNotGoneOn DiskFault ⊎ HasGoneOn below
  Went below (Err NoMemory) = HasNotGoneOn NoMemory ⊎ HasGoneOn 0
  Went below (Err e) = HasNotGoneOn e

-- ---- what is done to an archive that recovery left

-- it has no label, or its volume is below the number
abbrev pub IsToldLive : ℕ → Archive → ℕ → Type 0
IsToldLive below archive volume = ((archive.label ≡ None) × (volume ≡ 0)) ⊎ ((archive.label ≢ None) × (volume ≡ archive.volume) × (volume < below))

-- of a logger that was just opened no other fault comes
abbrev pub fault_refusal : LogFault → Refusal
fault_refusal (faults.Live volume) = Live volume
fault_refusal _ = DiskFault

-- why no volume, or not each of them, was emptied; where the disk didn't fail it is the same
abbrev pub EmptyingStops : ℕ → Archive → ℕ → ℕ → Type 0 → Refusal → Type 0
EmptyingStops below archive before after Same (Live volume) = IsToldLive below archive volume × Same
EmptyingStops below archive before after Same DiskFault = Rose before after
EmptyingStops below archive before after Same NoMemory = Same
EmptyingStops below archive before after Same e = ⊥

abbrev pub retire : ℕ → Meaning
retire below = record {
  reads = None;
  uses_disk = true;
  writes_archive = true;
  runs_script = false;
  turns_away = λ input found e. IsTurnedAway below found e;
  done = λ input d. d.tells → IsRetiredSide below d;
  says = λ input d text. text ≡ retired_line below;
  begins = λ input d e front. (front ≡ []) × StandsAt d e;
  keeps = λ input held crash. KeepsRetired below (contents_of held) crash;
  begun = λ status input d. IsUnderWay status d;
  may_leave = λ input held crash. MayBeRetiring below held crash;
  takes = λ files before after. Unit {0};
  since = λ g input old new. HasGoneOn g old new below;
  ran = λ g input old new opened front answer. (opened ≡ None) × (g.tells → Went g old new below answer);
}
