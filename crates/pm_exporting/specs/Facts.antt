-- What the status of a call that exports an archive tells, fact by fact. "Always" yields to want of memory (9) and to a disk that fails (5), which no
-- clause can foresee.
use Rattle.std.specs.Prelude.{◌≡◌, ◌⊎◌, ℕ, ◌++◌, take, Some, None, Ok}
use Rattle.pcp_base.specs.declared.file.FileId.{FileId}
use Rattle.pcp_model.specs.Archive.{ArchiveReading, Readable, Reads, records_in, scan}
use Rattle.pcp_model.specs.Disk.{Files, CrashImage}
use Rattle.pcp_model.specs.Recovered.{Recovers, recovered_reading}
use Rattle.pcp_model.specs.Sound.{IsSound}
use Rattle.pcp_outside.specs.Causes.{Rose}
use Rattle.pcp_outside.specs.Sides.{SinkSide}
use Rattle.archive_loading.specs.Looks.{Looks}
use Rattle.log_export.specs.Exporting.{ExportSide, HasExported, IsQuiet, LeavesQuiet, MayLeave, WasFree, files_are, files_were, source_files}
use Rattle.log_export.specs.Reading.{FitsNone}
use Rattle.log_export.specs.Standing.{IsStanding}
use Rattle.pm_words.specs.declared.refusal.Refusal.{Refusal}
use Rattle.pm_words.specs.declared.refusal.Refusal.TheVariants.{Compressed, NotArchive, Stands}
use Rattle.pm_words.specs.declared.words.Call.TheVariants as calls
use Rattle.pm_words.specs.Asking.{UsageIsExact}
use Rattle.pm_words.specs.Refusals.{Wrote, line_of}
use Rattle.pm_exporting.specs.Ends.{CallSide, Ends, HasRun, IsUnrun, Orders, exported_line}

-- the refusal's line is written, or a front of it where the sink failed
abbrev pub IsTold : SinkSide → Refusal → Type 0
IsTold k e = k.tells → Wrote k.faults k.faults_after k.written k.after (line_of e)

-- It was done, and said so: nothing had stood there, what stands now is the source's export, and the line says how many items it has. No call of a disk
-- or of the sink failed.
pub record EndsDone {A D : Type 0} (c : CallSide A D) (k : SinkSide) : Type 0 where
  pub orders : Orders c.words
  pub count : ℕ
  pub free : c.export.disk.tells → WasFree c.export
  pub exported : c.export.source.tells → c.export.disk.tells → HasExported c.export count
  pub wrote : k.tells → k.after ≡ k.written ++ exported_line count
  pub quiet : IsQuiet c.export
  pub sink_quiet : k.faults_after ≡ k.faults

-- what stands then is read with the source's scan and its records of Meta, and so with the same descriptions; it is sound where what recovery leaves of
-- the source is; and from now on a crash leaves it whole
pub record StandsWell {A D : Type 0} (p : ExportSide A D) : Type 0 where
  pub of_source : ArchiveReading
  pub source_reads : Reads (source_files p) of_source
  pub reading : ArchiveReading
  pub reads : Reads (files_are p) reading
  pub same_scan : scan reading ≡ scan of_source
  pub same_records : records_in reading ≡ records_in of_source
  pub sound : (left : Files) → Recovers (source_files p) of_source left → IsSound left (recovered_reading (source_files p) of_source) → IsSound (files_are p) reading
  pub stays : (crash : Files) → CrashImage (p.disk.held p.disk_is) crash → (file : FileId) → crash file ≡ files_are p file

-- ---- causes

-- it was done, but a front of the line alone is written, since the sink failed
pub record WriteFaultCause {A D : Type 0} (c : CallSide A D) (k : SinkSide) : Type 0 where
  pub count : ℕ
  pub ran : HasRun c (Ok count)
  pub rose : Rose k.faults k.faults_after
  pub front : k.tells → (n : ℕ) × (k.after ≡ k.written ++ take n (exported_line count))

-- the source is turned away, and the line names why: a file stands wrapped, the first one so; or none does, and an offset fits no archive
abbrev pub FilesCause : {A D : Type 0} → CallSide A D → SinkSide → Type 0
FilesCause c k = ((file : FileId) × IsTold k (Compressed file) × (c.export.source.tells → c.export.source.wrapped_file c.export.source_was ≡ Some file))
    ⊎ ((file : FileId) × (at : ℕ) × IsTold k (NotArchive file at) × (c.export.source.tells → (c.export.source.wrapped_file c.export.source_was ≡ None) × FitsNone (source_files c.export) file at))

-- a file stands where the archive is to come to stand, the first one, and the line names it
abbrev pub StandsCause : {A D : Type 0} → CallSide A D → SinkSide → Type 0
StandsCause c k = (file : FileId) × IsTold k (Stands file) × (c.export.disk.tells → IsStanding (files_were c.export) (c.export.disk.wrapped_file c.export.disk_was) file)

-- 6 only where the words are good, nothing stands there, and the source is turned away; always where a file of it stands wrapped or it can't be read
pub record ArchiveFaultIsExact {A D : Type 0} (c : CallSide A D) (k : SinkSide) (status : ℕ) : Type 0 where
  pub only : status ≡ 6 → Orders c.words × (c.export.disk.tells → WasFree c.export) × FilesCause c k
  pub wrapped : Orders c.words → c.export.source.tells → c.export.disk.tells → WasFree c.export → (file : FileId) → c.export.source.wrapped_file c.export.source_was ≡ Some file → (status ≡ 6) ⊎ ((status ≡ 9) ⊎ (status ≡ 5))
  pub unreadable : Orders c.words → c.export.source.tells → c.export.disk.tells → WasFree c.export → (Readable (source_files c.export) → ⊥) → (status ≡ 6) ⊎ ((status ≡ 9) ⊎ (status ≡ 5))

-- 23 only where the words are good and a file stands there; always where one does
pub record StandingIsExact {A D : Type 0} (c : CallSide A D) (k : SinkSide) (status : ℕ) : Type 0 where
  pub only : status ≡ 23 → Orders c.words × StandsCause c k
  pub always : Orders c.words → c.export.disk.tells → (WasFree c.export → ⊥) → (status ≡ 23) ⊎ ((status ≡ 9) ⊎ (status ≡ 5))

-- the words ask for an export, nothing stands there, the source can be read and none of its files stands wrapped, and no count rose
pub record IsGoodExport {A D : Type 0} (c : CallSide A D) (k : SinkSide) : Type 0 where
  pub orders : Orders c.words
  pub source_tells : c.export.source.tells
  pub disk_tells : c.export.disk.tells
  pub free : WasFree c.export
  pub unwrapped : c.export.source.wrapped_file c.export.source_was ≡ None
  pub readable : Readable (source_files c.export)
  pub source_kept : Rose (c.export.source.faults c.export.source_was) (c.export.source.faults c.export.source_is) → ⊥
  pub disk_kept : Rose (c.export.disk.faults c.export.disk_was) (c.export.disk.faults c.export.disk_is) → ⊥
  pub sink_kept : Rose k.faults k.faults_after → ⊥

-- All facts of a call that has ended with a status.
pub record Facts {A D : Type 0} (c : CallSide A D) (k : SinkSide) (status : ℕ) : Type 0 where
  -- How it ends, whole: done, done but not told, or refused, with each refusal's cause, and which line was written.
  pub ends : Ends c k status
  -- Done: what stands is the source's export, and the line says how many items it has.
  pub done : status ≡ 0 → EndsDone c k
  -- Done: no call of a disk or of the sink failed, not even one that was tried again.
  pub quiet : status ≡ 0 → IsQuiet c.export × (k.faults_after ≡ k.faults)
  -- Done: what stands says what the source says, and stays.
  pub well : status ≡ 0 → c.export.source.tells → c.export.disk.tells → StandsWell c.export
  -- Each other status comes for its cause alone.
  pub usage : UsageIsExact calls.Export c.words status
  pub write_fault : status ≡ 4 → WriteFaultCause c k
  pub disk_fault : status ≡ 5 → Rose (c.export.source.faults c.export.source_was) (c.export.source.faults c.export.source_is) ⊎ Rose (c.export.disk.faults c.export.disk_was) (c.export.disk.faults c.export.disk_is)
  pub archive_fault : ArchiveFaultIsExact c k status
  pub standing : StandingIsExact c k status
  -- Refused words touch nothing.
  pub unrun : status ≡ 1 → IsUnrun c.export
  -- A place that isn't free leaves the source alone, and so it stays; a source that is turned away leaves the place as it was.
  pub left_standing : status ≡ 23 → (c.export.source_is ≡ c.export.source_was) × LeavesQuiet c.export
  pub left_free : status ≡ 6 → LeavesQuiet c.export
  -- Whatever the status, the source holds what it held, at every moment of the call.
  pub aside : Looks c.export.source c.export.source_was c.export.source_is
  -- A crash at any moment leaves what one at the start might have left; or over nothing a beginning of each file of the export, and no byte of Meta
  -- before the others are whole.
  pub any_moment : MayLeave c.export
  -- Good words, a free place and a source that can be read succeed, unless a count rises or memory is refused.
  pub completes : IsGoodExport c k → (status ≡ 0) ⊎ (status ≡ 9)
