-- How a call that sums an archive up ends. What is looked at first comes first: the words, whether a file stands wrapped, then the files; want of
-- memory may come at any place.
use Rattle.std.specs.Prelude.{◌≡◌, ◌⊎◌, ℕ, List, [], ◌++◌, Option, Some, None, Result, Ok, Err}
use Rattle.pcp_base.specs.Time.{Moment}
use Rattle.pcp_model.specs.Disk.{Files, contents_of}
use Rattle.pcp_outside.specs.Causes.{Rose}
use Rattle.pcp_outside.specs.Sides.{SinkSide}
use Rattle.pcp_outside.specs.declared.disk.Disk.{Ghosts as DiskGhosts}
use Rattle.archive_reader.specs.declared.fault.ReaderFault.{ReaderFault}
use Rattle.archive_reader.specs.declared.fault.ReaderFault.TheVariants as faults
use Rattle.pm_words.specs.declared.refusal.Refusal.{Refusal}
use Rattle.pm_words.specs.declared.refusal.Refusal.TheVariants.{Usage, NoMemory}
use Rattle.pm_words.specs.declared.words.Call.TheVariants as calls
use Rattle.pm_words.specs.declared.words.Command.TheVariants.{Summary}
use Rattle.pm_words.specs.declared.words.SummaryWords.{SummaryWords}
use Rattle.pm_words.specs.CommandLine.{asked_by}
use Rattle.pm_words.specs.Refusals.{reader_refusal}
use Rattle.pm_words.specs.Telling.{TellsAll}
use Rattle.pm_summing.specs.Sums.{FitsNone, SumsUp}

-- all that a call has to do with, but for the sink of its output
pub record CallSide (D : Type 0) : Type 1 where
  pub words : List (List ℕ)
  pub disk : DiskGhosts D
  pub disk_was : D
  pub disk_is : D

abbrev pub call_side : {D : Type 0} → List (List ℕ) → DiskGhosts D → D → D → CallSide D
call_side words disk was is = record { words = words; disk = disk; disk_was = was; disk_is = is }

-- the files that it found
abbrev pub files_of : {D : Type 0} → CallSide D → Files
files_of c = contents_of (c.disk.held c.disk_was)

-- the words ask for this
abbrev pub Orders : List (List ℕ) → SummaryWords → Type 0
Orders words asked = asked_by calls.Summary words ≡ Ok (Summary asked)

-- ---- before the files are looked at

-- why a call is refused then
abbrev pub Cause : List (List ℕ) → Refusal → Type 0
Cause words (Usage at) = asked_by calls.Summary words ≡ Err at
Cause words NoMemory = Unit {0}
Cause words e = ⊥

pub record IsRefused {D : Type 0} (c : CallSide D) (e : Refusal) : Type 0 where
  pub cause : Cause c.words e
  pub unrun : c.disk_is ≡ c.disk_was

-- ---- the files

-- The files were summed up, and no call of the disk failed; or why not: a file stands wrapped, none does and an offset fits no archive, the disk
-- failed, or memory ran out.
abbrev pub CameTo : {D : Type 0} → DiskGhosts D → D → D → Moment → Moment → Result (List ℕ) ReaderFault → Type 0
CameTo g was is from to (Ok text) = (g.faults is ≡ g.faults was) × (g.tells → (g.wrapped_file was ≡ None) × SumsUp (contents_of (g.held was)) from to text)
CameTo g was is from to (Err (faults.Compressed file)) = g.tells → g.wrapped_file was ≡ Some file
CameTo g was is from to (Err (faults.NotArchive file at)) = g.tells → (g.wrapped_file was ≡ None) × FitsNone (contents_of (g.held was)) file at
CameTo g was is from to (Err faults.DiskFault) = Rose (g.faults was) (g.faults is)
CameTo g was is from to (Err faults.NoMemory) = Unit {0}

-- what the words ask for came to this
pub record HasRun {D : Type 0} (c : CallSide D) (result : Result (List ℕ) ReaderFault) : Type 0 where
  pub asked : SummaryWords
  pub orders : Orders c.words asked
  pub came : CameTo c.disk c.disk_was c.disk_is asked.from asked.to result

-- ---- the end

-- what is told of that: the text, or the refusal
abbrev pub told_of : Result (List ℕ) ReaderFault → Result (List ℕ) Refusal
told_of (Ok text) = Ok text
told_of (Err fault) = Err (reader_refusal fault)

pub record EndsRefused {D : Type 0} (c : CallSide D) (k : SinkSide) (status : ℕ) : Type 0 where
  pub refusal : Refusal
  pub refused : IsRefused c refusal
  pub told : TellsAll k [] (Err refusal) status

pub record EndsRun {D : Type 0} (c : CallSide D) (k : SinkSide) (status : ℕ) : Type 0 where
  pub result : Result (List ℕ) ReaderFault
  pub ran : HasRun c result
  pub told : TellsAll k [] (told_of result) status

-- what a call came to was told
abbrev pub Ends : {D : Type 0} → CallSide D → SinkSide → ℕ → Type 0
Ends c k status = EndsRefused c k status ⊎ EndsRun c k status

-- It was done, and said so: no file stands wrapped, the files are read as an archive, and all that was written is the summary of the whole scan
-- between the two stamps. No call of the sink or of the disk failed.
pub record EndsDone {D : Type 0} (c : CallSide D) (k : SinkSide) : Type 0 where
  pub asked : SummaryWords
  pub orders : Orders c.words asked
  pub text : List ℕ
  pub sums : c.disk.tells → (c.disk.wrapped_file c.disk_was ≡ None) × SumsUp (files_of c) asked.from asked.to text
  pub wrote : k.tells → k.after ≡ k.written ++ text
  pub sink_quiet : k.faults_after ≡ k.faults
  pub disk_quiet : c.disk.faults c.disk_is ≡ c.disk.faults c.disk_was
