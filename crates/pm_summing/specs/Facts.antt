-- What the status of a call that sums an archive up tells, fact by fact. "Always" yields to want of memory (9) and to a disk that fails (5), which
-- no clause can foresee.
use Rattle.std.specs.Prelude.{◌≡◌, ◌⊎◌, ℕ, List, ◌++◌, take, Some, None, Ok}
use Rattle.pcp_base.specs.declared.file.FileId.{FileId}
use Rattle.pcp_model.specs.Archive.{Readable}
use Rattle.pcp_outside.specs.Causes.{Rose}
use Rattle.pcp_outside.specs.Sides.{SinkSide}
use Rattle.archive_loading.specs.Looks.{Looks}
use Rattle.pm_words.specs.declared.refusal.Refusal.{Refusal}
use Rattle.pm_words.specs.declared.refusal.Refusal.TheVariants.{Compressed, NotArchive}
use Rattle.pm_words.specs.declared.words.Call.TheVariants as calls
use Rattle.pm_words.specs.declared.words.SummaryWords.{SummaryWords}
use Rattle.pm_words.specs.Asking.{UsageIsExact}
use Rattle.pm_words.specs.Refusals.{Wrote, line_of}
use Rattle.pm_summing.specs.Ends.{CallSide, Ends, EndsDone, HasRun, Orders, files_of}
use Rattle.pm_summing.specs.Sums.{FitsNone}

-- the refusal's line is written, or a front of it where the sink failed
abbrev pub IsTold : SinkSide → Refusal → Type 0
IsTold k e = k.tells → Wrote k.faults k.faults_after k.written k.after (line_of e)

-- ---- causes

-- the files were summed up, but a front of the text alone is written, since the sink failed
pub record WriteFaultCause {D : Type 0} (c : CallSide D) (k : SinkSide) : Type 0 where
  pub text : List ℕ
  pub ran : HasRun c (Ok text)
  pub rose : Rose k.faults k.faults_after
  pub front : k.tells → (n : ℕ) × (k.after ≡ k.written ++ take n text)

-- the files are turned away, and the line names why: a file stands wrapped, the first one so; or none does, and an offset fits no archive
abbrev pub FilesCause : {D : Type 0} → CallSide D → SinkSide → Type 0
FilesCause c k = ((file : FileId) × IsTold k (Compressed file) × (c.disk.tells → c.disk.wrapped_file c.disk_was ≡ Some file))
    ⊎ ((file : FileId) × (at : ℕ) × IsTold k (NotArchive file at) × (c.disk.tells → (c.disk.wrapped_file c.disk_was ≡ None) × FitsNone (files_of c) file at))

-- 6 only where the words are good and the files are turned away; always where a file stands wrapped or the files can't be read, unless the disk
-- fails before
pub record ArchiveFaultIsExact {D : Type 0} (c : CallSide D) (k : SinkSide) (status : ℕ) : Type 0 where
  pub only : status ≡ 6 → ((asked : SummaryWords) × Orders c.words asked) × FilesCause c k
  pub wrapped : (asked : SummaryWords) → Orders c.words asked → c.disk.tells → (file : FileId) → c.disk.wrapped_file c.disk_was ≡ Some file → (status ≡ 6) ⊎ ((status ≡ 9) ⊎ (status ≡ 5))
  pub unreadable : (asked : SummaryWords) → Orders c.words asked → c.disk.tells → (Readable (files_of c) → ⊥) → (status ≡ 6) ⊎ ((status ≡ 9) ⊎ (status ≡ 5))

-- the words ask for a summary, the files can be read and none stands wrapped, and no count rose
pub record IsGoodSummary {D : Type 0} (c : CallSide D) (k : SinkSide) : Type 0 where
  pub asked : SummaryWords
  pub orders : Orders c.words asked
  pub tells : c.disk.tells
  pub unwrapped : c.disk.wrapped_file c.disk_was ≡ None
  pub readable : Readable (files_of c)
  pub disk_kept : Rose (c.disk.faults c.disk_was) (c.disk.faults c.disk_is) → ⊥
  pub sink_kept : Rose k.faults k.faults_after → ⊥

-- All facts of a call that has ended with a status.
pub record Facts {D : Type 0} (c : CallSide D) (k : SinkSide) (status : ℕ) : Type 0 where
  -- How it ends, whole: done, done but not told, or refused, with each refusal's cause, and which line was written.
  pub ends : Ends c k status
  -- Done: the output is the summary of all that the archive holds between the two stamps, whatever the number of workers.
  pub done : status ≡ 0 → EndsDone c k
  -- Done: no call of the sink or of the disk failed, not even one that was tried again.
  pub quiet : status ≡ 0 → (k.faults_after ≡ k.faults) × (c.disk.faults c.disk_is ≡ c.disk.faults c.disk_was)
  -- Each other status comes for its cause alone.
  pub usage : UsageIsExact calls.Summary c.words status
  pub write_fault : status ≡ 4 → WriteFaultCause c k
  pub disk_fault : status ≡ 5 → Rose (c.disk.faults c.disk_was) (c.disk.faults c.disk_is)
  pub archive_fault : ArchiveFaultIsExact c k status
  -- Refused words touch nothing.
  pub unrun : status ≡ 1 → c.disk_is ≡ c.disk_was
  -- Whatever the status, the disk holds what it held, at every moment of the call.
  pub aside : Looks c.disk c.disk_was c.disk_is
  -- Good words over files that can be read succeed, unless a count rises or memory is refused.
  pub completes : IsGoodSummary c k → (status ≡ 0) ⊎ (status ≡ 9)
