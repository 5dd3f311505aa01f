-- The recording of a script over any files: what it makes of a disk, of a clock and of regions, and why it ends.
use Rattle.std.specs.Prelude.{◌≡◌, ℕ, ◌+◌, ◌<◌, ◌≤◌, List, [], ◌++◌, codes, length}
use Rattle.pcp_base.specs.Time.{Moment}
use Rattle.pcp_base.specs.declared.result.Item.{Item}
use Rattle.pcp_outside.specs.Causes.{Rose}
use Rattle.pcp_outside.specs.declared.clocks.Clock.{Ghosts as ClockGhosts}
use Rattle.pcp_outside.specs.declared.disk.Disk.{Ghosts as DiskGhosts}
use Rattle.region_rule.specs.Seats.{Token}
use Rattle.fetch_answers.specs.declared.fetch.Fetched.{Fetched}
use Rattle.fetch_engine.specs.declared.server.Mounted.{Mounted}
use Rattle.logging_session.specs.Crashes.{LosesAtMostOne}
use Rattle.logging_session.specs.Events.{Event}
use Rattle.run_script.specs.declared.script.Script.{Script}
use Rattle.script_runs.specs.declared.ending.Ending.{Ending}
use Rattle.script_runs.specs.declared.ending.Ending.TheVariants as ends
use Rattle.text_lines.specs.Spelling.{one_number}
use Rattle.run_archive.specs.declared.replayed.Replayed.{Replayed}
use Rattle.run_archive.specs.Outcomes.{RunsOnFiles, ended}
use Rattle.run_archive.specs.Sampling.{HasEnded}
use Rattle.record_run.specs.Beside.{Beside, IsSampled}
use Rattle.record_run.specs.Stopping.{LoggingDid, WhyStopped}

-- Where the clock gave no further moment, the others were taken; at the end all were, and it is told how many results were logged. However it
-- ends, no more moments are taken than were asked for.
abbrev pub Counts : ℕ → List Moment → List Fetched → Replayed → Ending → Type 0
Counts samples moments results r ends.Done = (length moments ≡ samples) × (r.output ≡ one_number (codes "logged") (length results))
Counts samples moments results r (ends.ClockEnd left) = (length moments + left ≡ samples) × (0 < left) × (r.output ≡ [])
Counts samples moments results r (ends.ClockFault left) = (length moments + left ≡ samples) × (0 < left) × (r.output ≡ [])
Counts samples moments results r ending = (length moments ≤ samples) × (r.output ≡ [])

-- The last of so many moments was taken behind the writers: all others were sampled beside them.
pub record LastIsBehind {script : Script} {server : List Mounted} {first final : List Token} {ending : Ending} {moments : List Moment} {results : List Fetched} (samples : ℕ) (sampled : IsSampled script server first final ending moments results) : Type 0 where
  pub others : length sampled.beside + 1 ≡ samples
  pub still : sampled.waiting ≡ sampled.middle

-- Over a disk that tells, these events were done to its archive: the results were logged, one behind another, and each was made sure. Of
-- those that were logged by any moment a crash loses at most the one that was logged last. Where recovery didn't answer no moment was taken.
pub record RecordsFiles {D : Type 0} (d : DiskGhosts D) (limit : ℕ) (old new : D) {script : Script} {server : List Mounted} {first final : List Token} {ending : Ending} {moments : List Moment} {results : List Fetched} (sampled : IsSampled script server first final ending moments results) : Type 0 where
  pub events : List Event
  pub more : List Item
  pub on : RunsOnFiles d limit events more old new ending ((moments ≡ []) × (results ≡ [])) (λ left. LoggingDid sampled limit left ending events more)
  pub loses_one : LosesAtMostOne (ended ending events)

module _ {C D : Type 0} (c : ClockGhosts C) (d : DiskGhosts D) (clock_was clock_is : C) (old new : D) where
  -- which ending any disk and any clock may have
  abbrev pub MayEndRecording : Ending → Type 0
  MayEndRecording ends.DiskFault = Rose (d.faults old) (d.faults new)
  MayEndRecording (ends.ClockEnd left) = HasEnded c clock_is
  MayEndRecording (ends.ClockFault left) = Rose (c.faults clock_was) (c.faults clock_is)
  MayEndRecording (ends.Condition line) = ⊥
  MayEndRecording _ = Unit {0}

  -- What a recording makes: of regions, whatever their writers do beside it, and of a disk and a clock that tell.
  pub record IsRecording (script : Script) (limit samples : ℕ) (server : List Mounted) (first final : List Token) (r : Replayed) : Type 0 where
    pub moments : List Moment
    pub results : List Fetched
    pub beside : Beside script server first final r.ending moments results
    pub counted : r.logged ≡ length results
    pub counts : Counts samples moments results r r.ending
    pub at_last : length moments ≡ samples → LastIsBehind samples beside.sampled
    pub clock : c.tells → c.left clock_was ≡ moments ++ c.left clock_is
    pub why : WhyStopped beside.sampled r.ending
    pub told : d.tells → RecordsFiles d limit old new beside.sampled
