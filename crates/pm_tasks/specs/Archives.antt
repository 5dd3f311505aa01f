-- Commands that only read an archive: what they find of the files, why they turn files away, and that they leave the disk as
-- it was.
use Rattle.std.specs.Prelude.{◌≡◌, ◌⊎◌, ℕ, true, false, List, [], Option, Some, None}
use Rattle.pcp_base.specs.declared.result.Item.{Item}
use Rattle.pcp_model.specs.Archive.{ArchiveReading, Reads, scan}
use Rattle.pcp_model.specs.Disk.{Files}
use Rattle.pcp_model.specs.Sound.{IsSound}
use Rattle.pcp_outside.specs.Causes.{Rose}
use Rattle.archive_loading.specs.Loaded.{Loaded, IsOver}
use Rattle.archive_loading.specs.LoadFaults.{NotLoaded}
use Rattle.pm_words.specs.declared.refusal.Refusal.{Refusal}
use Rattle.pm_words.specs.declared.refusal.Refusal.TheVariants.{Compressed, NotArchive}
use Rattle.pm_words.specs.Meaning.{Meaning}
use Rattle.pm_words.specs.Refusals.{Stage, AtFiles, AtDisk, AtMemory, stage_of}
use Rattle.pm_words.specs.Sides.{DiskSide, Found, files_found, Untouched}

-- no file stands wrapped, and apart from the records of its volumes this is the archive
pub record IsLoaded (found : Found) (r : Loaded) : Type 0 where
  pub unwrapped : found.wrapped ≡ None
  pub over : IsOver found.files r

-- a file stands wrapped, or apart from the records of volumes this offset fits no archive
abbrev pub IsNotLoaded : Found → Refusal → Type 0
IsNotLoaded found (Compressed file) = found.wrapped ≡ Some file
IsNotLoaded found (NotArchive file at) = (found.wrapped ≡ None) × NotLoaded found.files file at
IsNotLoaded found _ = ⊥

-- files are turned away where they aren't loaded, or for what is found in an archive that was
abbrev pub TurnedAfter : (Loaded → Found → Refusal → Type 0) → Found → Refusal → Type 0
TurnedAfter why found e = IsNotLoaded found e ⊎ ((r : Loaded) × IsLoaded found r × why r found e)

-- what is so of the scan where the files are a readable archive, or a sound one
abbrev pub OverReadable : Found → (List Item → Type 0) → Type 0
OverReadable found P = (reading : ArchiveReading) → Reads found.files reading → P (scan reading)

abbrev pub OverSound : Found → (List Item → Type 0) → Type 0
OverSound found P = (reading : ArchiveReading) → Reads found.files reading → IsSound found.files reading → P (scan reading)

-- why such a command ends without a text: it turned the files away, the disk failed, or memory ran out
abbrev pub TurnedAt : Stage → (Found → Refusal → Type 0) → DiskSide → Refusal → Type 0
TurnedAt AtFiles turned d e = d.tells → turned (files_found d) e
TurnedAt AtDisk turned d e = Rose d.faults d.faults_after
TurnedAt AtMemory turned d e = Unit {0}
TurnedAt _ turned d e = ⊥

abbrev pub TurnedAway : (Found → Refusal → Type 0) → DiskSide → Refusal → Type 0
TurnedAway turned d e = TurnedAt (stage_of e) turned d e

-- one that writes nothing before it is done
abbrev pub nothing_before : DiskSide → List ℕ → Type 0
nothing_before d front = front ≡ []

-- one that may take all bytes of the volumes
abbrev pub takes_any : Files → ℕ → ℕ → Type 0
takes_any files before after = Unit {0}

-- A command that reads an archive and writes a text of it, of which it may have written a front where it is stopped; `taken` says how
-- many volume bytes it takes.
abbrev pub looks : (Found → Refusal → Type 0) → (Found → List ℕ → Type 0) → (DiskSide → List ℕ → Type 0) → (Files → ℕ → ℕ → Type 0) → Meaning
looks turned said first taken = record {
  reads = None;
  uses_disk = true;
  writes_archive = false;
  runs_script = false;
  turns_away = λ input files e. turned files e;
  done = λ input d. Untouched d;
  says = λ input d text. d.tells → said (files_found d) text;
  begins = λ input d e front. first d front;
  keeps = λ input held crash. Unit {0};
  begun = λ status input d. ⊥;
  may_leave = λ input held crash. ⊥;
  takes = taken;
  since = λ g input old new. Unit {0};
  ran = λ g input old new opened front answer. opened ≡ None;
}

-- one that reads an input first, by which it looks
abbrev pub looks_by : (List ℕ → Option Refusal) → (Found → Refusal → Type 0) → (List ℕ → Found → List ℕ → Type 0) → (List ℕ → DiskSide → List ℕ → Type 0) → (Files → ℕ → ℕ → Type 0) → Meaning
looks_by refuses turned said first taken = record {
  reads = Some refuses;
  uses_disk = true;
  writes_archive = false;
  runs_script = false;
  turns_away = λ input files e. turned files e;
  done = λ input d. Untouched d;
  says = λ input d text. d.tells → said input (files_found d) text;
  begins = λ input d e front. first input d front;
  keeps = λ input held crash. Unit {0};
  begun = λ status input d. ⊥;
  may_leave = λ input held crash. ⊥;
  takes = taken;
  since = λ g input old new. Unit {0};
  ran = λ g input old new opened front answer. opened ≡ None;
}
