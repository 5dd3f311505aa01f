-- The run of a script over any files, by the calls of its regions: what it makes of a disk and of regions, and why it ends.
use Rattle.std.specs.Prelude.{◌≡◌, ◌⊎◌, ℕ, true, false, List, [], length, None}
use Rattle.pcp_base.specs.declared.file.FileId.{FileId}
use Rattle.pcp_base.specs.declared.result.Item.{Item}
use Rattle.pcp_model.specs.Disk.{Files, contents_of}
use Rattle.pcp_outside.specs.declared.disk.Disk.{Ghosts as DiskGhosts}
use Rattle.region_rule.specs.Seats.{Token}
use Rattle.archive_recovery.specs.declared.outcome.Archive.{Archive}
use Rattle.archive_recovery.specs.Told.{WasRecovered}
use Rattle.fetch_engine.specs.declared.server.Mounted.{Mounted}
use Rattle.logging_session.specs.Events.{Event, items_by}
use Rattle.logging_session.specs.Keeping.{Carried}
use Rattle.run_script.specs.declared.script.Script.{Script}
use Rattle.run_passes.specs.Seen.{HaveSeen}
use Rattle.script_runs.specs.declared.ending.Ending.{Ending}
use Rattle.script_runs.specs.declared.ending.Ending.TheVariants as ends
use Rattle.script_runs.specs.Regions.{ScriptRegion}
use Rattle.script_runs.specs.Runs.{RanTo, RunDoes, are_idle, line_behind}
use Rattle.run_archive.specs.declared.replayed.Replayed.{Replayed}
use Rattle.run_archive.specs.Kept.{KeepsRun}
use Rattle.run_archive.specs.Outcomes.{HasFinished, RunsOnFiles}

-- what the lines end with; memory may be refused
abbrev pub EndsIdle : Script → List ScriptRegion → Ending → Type 0
EndsIdle script regions ending =
    ((are_idle regions ≡ true) × (ending ≡ ends.Done)) ⊎ (((are_idle regions ≡ false) × (ending ≡ ends.Condition (line_behind script.steps))) ⊎ (ending ≡ ends.NoMemory))

-- Over any disk the lines of the fold were run, as far as it tells, and the journals of the regions are those of the fold, and whole.
pub record HasReplayed (script : Script) (server : List Mounted) (seat : List Token) (r : Replayed) : Type 0 where
  pub regions : List ScriptRegion
  pub ran : RanTo script r.ending r.output regions
  pub counted : r.logged ≡ length (items_by ran.last.events)
  pub seen : HaveSeen script regions server seat

-- A session began over what recovery left of the files, each byte sure, and no file stood wrapped.
pub record IsBegun {D : Type 0} (d : DiskGhosts D) (old new : D) (s : Carried) : Type 0 where
  pub archive : Archive
  pub unwrapped : d.wrapped_file old ≡ None
  pub was : WasRecovered (contents_of (d.held old)) (contents_of (d.held new)) archive
  pub sure : (file : FileId) → (d.held new file).rest ≡ []
  pub keeps : KeepsRun d (contents_of (d.held new)) [] new s new

-- From that moment on these events were done to its archive, those of the lines, and so it ended.
pub record EndsFrom {D : Type 0} (d : DiskGhosts D) (limit : ℕ) (left : Files) (start new : D) {script : Script} {ending : Ending} {output : List ℕ} {regions : List ScriptRegion} (ran : RanTo script ending output regions) : Type 0 where
  pub events : List Event
  pub more : List Item
  pub did : RunDoes limit left ran events more
  pub finished : HasFinished d limit left events more start new ending

pub record ReplaysOver {D : Type 0} (d : DiskGhosts D) (script : Script) (server : List Mounted) (seat : List Token) (s : Carried) (start new : D) (r : Replayed) : Type 0 where
  pub run : HasReplayed script server seat r
  pub told : d.tells → (left : Files) → KeepsRun d left [] start s start → EndsFrom d s.limit left start new run.ran

-- Over a disk that tells, these events were done to its archive, those of the lines.
pub record ReplaysFiles {D : Type 0} (d : DiskGhosts D) (limit : ℕ) (old new : D) {script : Script} {ending : Ending} {output : List ℕ} {regions : List ScriptRegion} (ran : RanTo script ending output regions) : Type 0 where
  pub events : List Event
  pub more : List Item
  pub on : RunsOnFiles d limit events more old new ending (ran.further.lines ≡ 0) (λ left. RunDoes limit left ran events more)

pub record IsReplay {D : Type 0} (d : DiskGhosts D) (script : Script) (limit : ℕ) (server : List Mounted) (seat : List Token) (old new : D) (r : Replayed) : Type 0 where
  pub run : HasReplayed script server seat r
  pub told : d.tells → ReplaysFiles d limit old new run.ran
