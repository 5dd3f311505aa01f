-- `recover` mends an archive that was stopped anywhere, and writes how many items it has.
use Rattle.std.specs.Prelude.{◌≡◌, ◌⊎◌, ℕ, true, false, List, [], length, codes, Some, None}
use Rattle.text_lines.specs.Spelling.{one_number}
use Rattle.pcp_base.specs.declared.file.FileId.{FileId}
use Rattle.pcp_model.specs.Archive.{ArchiveReading, Reads, scan}
use Rattle.pcp_model.specs.Disk.{Files, contents_of}
use Rattle.pcp_model.specs.Recovered.{Recovers}
use Rattle.archive_recovery.specs.Halfway.{MayBeHalfway}
use Rattle.archive_recovery.specs.RecoverFaults.{IsRefused}
use Rattle.pm_words.specs.declared.refusal.Refusal.{Refusal}
use Rattle.pm_words.specs.declared.refusal.Refusal.TheVariants.{Compressed, NotArchive}
use Rattle.pm_words.specs.Meaning.{Meaning}
use Rattle.pm_words.specs.Sides.{DiskSide, Found}

-- a file stands wrapped, or this is the first offset that fits no archive
abbrev pub IsTurnedAway : Found → Refusal → Type 0
IsTurnedAway found (Compressed file) = found.wrapped ≡ Some file
IsTurnedAway found (NotArchive file at) = (found.wrapped ≡ None) × IsRefused found.files file at
IsTurnedAway found _ = ⊥

-- the files were read, and what is left is what recovery leaves, all of it sure
pub record IsMendedSide (d : DiskSide) : Type 0 where
  pub reading : ArchiveReading
  pub was : Reads (contents_of d.held) reading
  pub recovered : Recovers (contents_of d.held) reading (contents_of d.after)
  pub sure : (file : FileId) → (d.after file).rest ≡ []

abbrev pub items_line : ℕ → List ℕ
items_line n = one_number (codes "items") n

-- how many items the scan has
abbrev pub IsOutput : Files → List ℕ → Type 0
IsOutput files text = (r : ArchiveReading) × Reads files r × (text ≡ items_line (length (scan r)))

-- After a disk fault recovery may be on its way; where memory is wanting for the line, it is done.
abbrev pub IsUnderWay : ℕ → DiskSide → Type 0
IsUnderWay status d = (status ≡ 5) ⊎ ((status ≡ 9) × (d.tells → IsMendedSide d))

abbrev pub recover : Meaning
recover = record {
  reads = None;
  uses_disk = true;
  writes_archive = true;
  runs_script = false;
  turns_away = λ input files e. IsTurnedAway files e;
  done = λ input d. d.tells → IsMendedSide d;
  says = λ input d text. d.tells → IsOutput (contents_of d.held) text;
  begins = λ input d e front. front ≡ [];
  keeps = λ input held crash. Unit {0};
  begun = λ status input d. IsUnderWay status d;
  may_leave = λ input held crash. MayBeHalfway held crash;
  takes = λ files before after. Unit {0};
  since = λ g input old new. Unit {0};
  ran = λ g input old new opened front answer. opened ≡ None;
}
