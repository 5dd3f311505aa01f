-- What a recording needs to be done: a script that may be recorded, files that can be read, a clock whose moments, as far as samples are
-- asked for, come one after another and after every stamp there, samples that are taken, and no count that rose.
use Rattle.std.specs.Prelude.{◌≡◌, ℕ, ◌<◌, ◌≤◌, List, [], ◌∷◌, length, take, Contains, None, Ok}
use Rattle.pcp_base.specs.Time.{Moment, microseconds}
use Rattle.pcp_model.specs.Archive.{ArchiveContents, IsArchive, Readable}
use Rattle.pcp_model.specs.Disk.{Files, contents_of}
use Rattle.pcp_outside.specs.Causes.{Rose}
use Rattle.logger_core.specs.Steps.{IsStampIn}
use Rattle.run_script.specs.declared.script.Script.{Script}
use Rattle.script_runs.specs.Archives.{IsRecovered, IsTurnedAway}
use Rattle.script_runs.specs.declared.ending.Ending.{Ending}
use Rattle.script_runs.specs.declared.ending.Ending.TheVariants as ends
use Rattle.script_runs.specs.declared.ending.LimitKind.{LimitKind}
use Rattle.run_archive.specs.Shown.{events_of}
use Rattle.record_run.specs.Stopping.{AsksTooMany, ShowsLast, shown_last}
use Rattle.pm_words.specs.Inputs.{input_limit}
use Rattle.pcp_outside.specs.Sides.{SourceSide, SinkSide}
use Rattle.pm_words.specs.declared.words.RecordWords.{RecordWords}
use Rattle.pm_recording.specs.Ends.{IsAsked, Orders, Ran}
use Rattle.pm_recording.specs.Recording.{CallSide, RunSide}
use Rattle.pm_recording.specs.Scripts.{script_recorded}

-- the words ask for a recording, and the source gives an input within the limit
pub record Meets (words : List (List ℕ)) (s : SourceSide) : Type 0 where
  pub asked : IsAsked words
  pub tells : s.tells
  pub within : length s.left ≤ input_limit

-- Files

-- no file stands wrapped, and they are those of an archive or of a creation that was stopped
pub record IsGoodDisk {C D : Type 0} (o : RunSide C D) : Type 0 where
  pub tells : o.disk.tells
  pub unwrapped : o.disk.wrapped_file o.disk_was ≡ None
  pub readable : Readable (contents_of (o.disk.held o.disk_was))
  pub kept : Rose (o.disk.faults o.disk_was) (o.disk.faults o.disk_is) → ⊥

-- Moments

-- each is after the one before
abbrev pub AreRising : List Moment → Type 0
AreRising [] = Unit {0}
AreRising (t ∷ []) = Unit {0}
AreRising (t ∷ u ∷ moments) = (microseconds t < microseconds u) × AreRising (u ∷ moments)

-- and after every stamp of what recovery leaves of the files
abbrev pub AreLater : Files → List Moment → Type 0
AreLater start moments = (left : Files) (c : ArchiveContents) → IsRecovered start left → IsArchive left c → (t now : Moment) → IsStampIn c t → Contains moments now → microseconds t < microseconds now

-- the clock tells moments that come so, of those that so many samples are taken at, whether they are enough or not
pub record IsGoodClock {C D : Type 0} (o : RunSide C D) (samples : ℕ) : Type 0 where
  pub tells : o.clock.tells
  pub rising : AreRising (take samples (o.clock.left o.clock_was))
  pub later : AreLater (contents_of (o.disk.held o.disk_was)) (take samples (o.clock.left o.clock_was))
  pub kept : Rose (o.clock.faults o.clock_was) (o.clock.faults o.clock_is) → ⊥

-- What is shown

-- What the last sample shows is turned away by the archive of the results before it, logged one behind another over what recovery left.
pub record IsLastTurnedAway {C D : Type 0} {c : CallSide C D} {ending : Ending} (ran : Ran c ending) (reason : Ending) : Type 0 where
  pub left : Files
  pub recovered : IsRecovered (contents_of (c.run.disk.held c.run.disk_was)) left
  pub last : ShowsLast ran.has.was.recording.beside.sampled
  pub away : IsTurnedAway ran.asks.asked.volume left (events_of ran.has.was.recording.results) (shown_last ran.has.was.recording.beside.sampled last) reason

-- No sample asks for too many metrics, none shows one that the archive describes otherwise, and what each shows has its place there.
pub record IsWelcome {C D : Type 0} {c : CallSide C D} {ending : Ending} (ran : Ran c ending) : Type 0 where
  pub few : (number : ℕ) → AsksTooMany ran.has.was.recording.beside.sampled number → ⊥
  pub small : (what : LimitKind) (number : ℕ) → IsLastTurnedAway ran (ends.Limit what number) → ⊥
  pub same : (pmid : ℕ) → IsLastTurnedAway ran (ends.Changed pmid) → ⊥

pub record IsGoodRun {C D : Type 0} (c : CallSide C D) (k : SinkSide) : Type 0 where
  pub meets : Meets c.words c.source
  pub script : Script
  pub good : script_recorded c.source.left ≡ Ok script
  pub disk : IsGoodDisk c.run
  pub asked : RecordWords
  pub is_asked : Orders c.words asked
  pub clock : IsGoodClock c.run asked.samples
  pub welcome : (ending : Ending) (ran : Ran c ending) → IsWelcome ran
  pub source_kept : Rose c.source.faults c.source.faults_after → ⊥
  pub sink_kept : Rose k.faults k.faults_after → ⊥
