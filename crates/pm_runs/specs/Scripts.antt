-- What commands mean that run a script over any files: what its run makes of the files, what is written of it, and what stands where
-- it ends before its end.
use Rattle.std.specs.Prelude.{◌≡◌, ◌⊎◌, ℕ, true, List, [], ◌++◌, length, Some, None}
use Rattle.pcp_base.specs.declared.result.Item.{Item}
use Rattle.pcp_model.specs.Disk.{Files, IsSettled, contents_of}
use Rattle.pcp_outside.specs.declared.disk.Disk.{Ghosts as DiskGhosts}
use Rattle.archive_recovery.specs.RecoverFaults.{IsRefused}
use Rattle.logging_session.specs.ComingBack.{MayBeAfter}
use Rattle.logging_session.specs.Crashes.{IsAllAfter}
use Rattle.logging_session.specs.Events.{Event, items_by}
use Rattle.run_script.specs.declared.script.Script.{Script}
use Rattle.script_runs.specs.declared.ending.Ending.{Ending}
use Rattle.script_runs.specs.declared.ending.Ending.TheVariants as ends
use Rattle.script_runs.specs.Archives.{IsRecovered}
use Rattle.script_runs.specs.Regions.{ScriptRegion}
use Rattle.script_runs.specs.Runs.{RanTo, RunDoes, RunsTo}
use Rattle.run_archive.specs.Outcomes.{WentOn, left_of}
use Rattle.pm_words.specs.declared.refusal.Refusal.{Refusal}
use Rattle.pm_words.specs.declared.refusal.Refusal.TheVariants.{Compressed, NotArchive, DiskFault}
use Rattle.pm_words.specs.Meaning.{Meaning}
use Rattle.pm_words.specs.Refusals.{Stage, AtFiles, AtDisk, AtMemory, IsOfRun, ending_refusal, stage_of, status_of}
use Rattle.pm_words.specs.Sides.{DiskSide, Found}
use Rattle.pm_words.specs.Sound.{LeavesSound}
use Rattle.pm_runs.specs.Regions.{RanRegions}
use Rattle.pm_runs.specs.Runners.{Runner, OfScript}

-- the endings that a run comes to by itself: of its lines, or of the archive that turns a result away
abbrev pub IsOwn : Ending → Type 0
IsOwn ends.Done = Unit {0}
IsOwn (ends.Condition line) = Unit {0}
IsOwn (ends.Limit what number) = Unit {0}
IsOwn (ends.NotLater last) = Unit {0}
IsOwn (ends.Changed pmid) = Unit {0}
IsOwn ending = ⊥

-- a run that comes to this ending by itself is refused so
abbrev pub EndsBy : Ending → Refusal → Type 0
EndsBy ending e = IsOwn ending × (ending_refusal ending ≡ Some e)

-- A run over files, which are recovered first: it went to this ending, with these lines written, this done to the archive, these items on
-- their way when the disk failed, and the regions closed so.
pub record RunsSo (script : Script) (limit : ℕ) (start : Files) (ending : Ending) (output : List ℕ) (events : List Event) (more : List Item) (regions : List ScriptRegion) : Type 0 where
  pub left : Files
  pub recovered : IsRecovered start left
  pub ran : RanTo script ending output regions
  pub does : RunDoes limit left ran events more

-- a script runs over files to an ending, with these lines written, this done to the archive, and these files
pub record Leads (script : Script) (limit : ℕ) (start : Files) (ending : Ending) (output : List ℕ) (events : List Event) (final : Files) : Type 0 where
  pub regions : List ScriptRegion
  pub runs : RunsTo script limit start ending output events regions final

-- two runs that end so are one
pub record IsOne (a b : Ending) (o p : List ℕ) (d e : List Event) (r s : List ScriptRegion) (f g : Files) : Type 0 where
  pub ending : a ≡ b
  pub output : o ≡ p
  pub events : d ≡ e
  pub regions : r ≡ s
  pub files : f ≡ g

-- the run over these files is refused so
abbrev pub IsRunRefused : ℕ → Found → Script → Refusal → Type 0
IsRunRefused limit found script e =
    (found.wrapped ≡ None) × (ending : Ending) × EndsBy ending e × (output : List ℕ) × (events : List Event) × (final : Files) × Leads script limit found.files ending output events final

-- a file stands wrapped, this is the first offset that fits no archive, or the run over these files is refused so
abbrev pub IsTurnedAway : ℕ → Found → Script → Refusal → Type 0
IsTurnedAway limit found script (Compressed file) = found.wrapped ≡ Some file
IsTurnedAway limit found script (NotArchive file at) = (found.wrapped ≡ None) × IsRefused found.files file at
IsTurnedAway limit found script e = IsRunRefused limit found script e

-- the run came to its end: the files are its files, all is settled, and this is to be written
pub record HasRunTo (c : Runner) (script : Script) (d : DiskSide) (text : List ℕ) : Type 0 where
  pub output : List ℕ
  pub events : List Event
  pub leads : Leads script c.limit (contents_of d.held) ends.Done output events (contents_of d.after)
  pub says : c.says script (length (items_by events)) output (contents_of d.after) text

-- The lines that a run has written before a refusal's line, and the files, which are those of the run. Where memory ran out, that ended
-- it, or its last line wants memory.
abbrev pub EndsWith : Script → ℕ → DiskSide → Ending → List ℕ → Type 0
EndsWith script limit d ending output = (events : List Event) × Leads script limit (contents_of d.held) ending output events (contents_of d.after)

abbrev pub WantsWith : Script → ℕ → DiskSide → List ℕ → Type 0
WantsWith script limit d output = (ending : Ending) × EndsWith script limit d ending output

abbrev pub RefusedWith : Script → ℕ → DiskSide → Refusal → List ℕ → Type 0
RefusedWith script limit d e output = (ending : Ending) × EndsBy ending e × EndsWith script limit d ending output

-- Where the disk failed, nothing was written, or exactly the lines of the run up to where that ended it: those before the tick of the first
-- result that was lost.
abbrev pub StoppedAt : Script → ℕ → DiskSide → Refusal → List ℕ → Type 0
StoppedAt script limit d (Compressed file) output = output ≡ []
StoppedAt script limit d (NotArchive file at) output = output ≡ []
StoppedAt script limit d DiskFault output =
    (output ≡ []) ⊎ ((events : List Event) × (more : List Item) × (regions : List ScriptRegion) × RunsSo script limit (contents_of d.held) ends.DiskFault output events more regions)
StoppedAt script limit d e output = RefusedWith script limit d e output

-- what such a command has written before the line of a refusal
abbrev pub HasLines : Runner → List ℕ → DiskSide → Refusal → List ℕ → Type 0
HasLines c input d e front = (output : List ℕ) × (front ≡ c.front output) × (d.tells → OfScript c input (λ script. StoppedAt script c.limit d e output))

abbrev pub WrittenAt : Stage → Runner → List ℕ → DiskSide → Refusal → List ℕ → Type 0
WrittenAt AtFiles c input d e front = HasLines c input d e front
WrittenAt AtDisk c input d e front = HasLines c input d e front
WrittenAt AtMemory c input d e front = (front ≡ []) ⊎ ((output : List ℕ) × (front ≡ c.front output) × (d.tells → (output ≡ []) ⊎ OfScript c input (λ script. WantsWith script c.limit d output)))
WrittenAt _ c input d e front = front ≡ []

abbrev pub HasWritten : Runner → List ℕ → DiskSide → Refusal → List ℕ → Type 0
HasWritten c input d e front = WrittenAt (stage_of e) c input d e front

-- What stands where it is stopped after the first write. After a disk fault the run is on its way.
abbrev pub IsRunUnderWay : ℕ → ℕ → Script → DiskSide → Type 0
IsRunUnderWay limit status script d =
    (status ≡ 5) ⊎ (((status ≡ 9) × (d.tells → (d.after ≡ d.held) ⊎ ((output : List ℕ) × WantsWith script limit d output)))
    ⊎ ((e : Refusal) × IsOfRun e × (status ≡ status_of e) × (d.tells → (output : List ℕ) × RefusedWith script limit d e output)))

-- the items that a run logged, and those on their way when the disk failed; or none
abbrev pub LogsFirst : Script → ℕ → Files → List Item → Type 0
LogsFirst script limit start items =
    (items ≡ [])
    ⊎ ((ending : Ending) × (output : List ℕ) × (events : List Event) × (more : List Item) × (regions : List ScriptRegion) × RunsSo script limit start ending output events more regions
    × (items ≡ items_by events ++ more))

-- what a crash leaves once the run has come to its end
abbrev pub KeepsAll : Script → ℕ → Files → Files → Type 0
KeepsAll script limit start crash =
    (output : List ℕ) × (events : List Event) × (final : Files) × Leads script limit start ends.Done output events final × IsAllAfter (items_by events) start crash

-- what stands where it is done: no file stood wrapped, and the files are settled, whole, and sound where they were
pub record StandsDone (d : DiskSide) : Type 0 where
  pub unwrapped : d.wrapped ≡ None
  pub settled : IsSettled d.after
  pub sound : LeavesSound (contents_of d.held) (contents_of d.after)

-- From recovery's answer on the disk went by the events of the script's run, as far as the opening and flushes tell, each acknowledged from its
-- flush on.
abbrev pub ScriptSince : {D : Type 0} → DiskGhosts D → Runner → List ℕ → D → D → Type 0
ScriptSince g c input old new =
    OfScript c input (λ script.
    (ending : Ending) × (output : List ℕ) × (regions : List ScriptRegion) × (ran : RanTo script ending output regions) × (events : List Event) × (more : List Item) × (w : WentOn g c.limit events more old new ending)
    × RunDoes c.limit (left_of g c.limit events more old new w) ran events more)

abbrev pub runs_script : Runner → Meaning
runs_script c = record {
  reads = c.reads;
  uses_disk = true;
  writes_archive = true;
  runs_script = true;
  turns_away = λ input found e. OfScript c input (λ script. IsTurnedAway c.limit found script e);
  done = λ input d. d.tells → StandsDone d;
  says = λ input d text. d.tells → OfScript c input (λ script. HasRunTo c script d text);
  begins = λ input d e front. HasWritten c input d e front;
  keeps = λ input held crash. OfScript c input (λ script. KeepsAll script c.limit (contents_of held) crash);
  begun = λ status input d. OfScript c input (λ script. IsRunUnderWay c.limit status script d);
  may_leave = λ input held crash. OfScript c input (λ script. (items : List Item) × LogsFirst script c.limit (contents_of held) items × MayBeAfter items 0 held crash);
  takes = λ files before after. Unit {0};
  since = λ g input old new. ScriptSince g c input old new;
  ran = λ g input old new opened front answer. RanRegions g c input old new opened front answer;
}
