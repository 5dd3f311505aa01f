-- How the samples of a recording end, before what was logged is flushed; and how it stands once that is done.
use Rattle.std.specs.Prelude.{◌≡◌, ◌≢◌, ◌⊎◌, ℕ, ◌+◌, ◌<◌, ◌≤◌, List, [], ◌++◌, length}
use Rattle.pcp_base.specs.Time.{Moment}
use Rattle.pcp_base.specs.declared.result.Item.{Item}
use Rattle.pcp_model.specs.Disk.{Files, contents_of}
use Rattle.pcp_outside.specs.declared.clocks.Clock.{Ghosts as ClockGhosts}
use Rattle.pcp_outside.specs.declared.disk.Disk.{Ghosts as DiskGhosts}
use Rattle.region_rule.specs.Seats.{Token}
use Rattle.archive_recovery.specs.declared.outcome.Archive.{Archive}
use Rattle.fetch_answers.specs.declared.fetch.Fetched.{Fetched}
use Rattle.fetch_engine.specs.declared.server.Mounted.{Mounted}
use Rattle.logger_core.specs.Reopening.{IsLeft}
use Rattle.logging_session.specs.Events.{Event}
use Rattle.logging_session.specs.Keeping.{Carried}
use Rattle.run_script.specs.declared.script.Script.{Script}
use Rattle.script_runs.specs.declared.ending.Ending.{Ending}
use Rattle.script_runs.specs.declared.ending.Ending.TheVariants as ends
use Rattle.run_archive.specs.declared.replayed.Replayed.{Replayed}
use Rattle.run_archive.specs.Kept.{HasDone, KeepsRun}
use Rattle.run_archive.specs.Outcomes.{HasFinished}
use Rattle.record_run.specs.Beside.{Beside}
use Rattle.record_run.specs.Recordings.{Counts, LastIsBehind}
use Rattle.record_run.specs.Stopping.{LoggingDid, WhyStopped}

-- how many moments were taken: never more than were asked for
abbrev pub Took : ℕ → ℕ → Ending → Type 0
Took samples count ends.Done = count ≡ samples
Took samples count (ends.ClockEnd left) = (count + left ≡ samples) × (0 < left)
Took samples count (ends.ClockFault left) = (count + left ≡ samples) × (0 < left)
Took samples count ending = count ≤ samples

-- what samples may end by
abbrev pub EndsSamples : Ending → Type 0
EndsSamples (ends.Condition line) = ⊥
EndsSamples (ends.NotArchive file at) = ⊥
EndsSamples (ends.Compressed file) = ⊥
EndsSamples ending = Unit {0}

-- the writers were refused memory: a disk that failed stands before it
abbrev pub RefusedBy : Ending → Ending → Type 0
RefusedBy ending last = ((ending ≡ ends.DiskFault) × (last ≡ ending)) ⊎ ((ending ≢ ends.DiskFault) × (last ≡ ends.NoMemory))

module _ {C D : Type 0} (c : ClockGhosts C) (d : DiskGhosts D) (clock_was clock_is : C) (was is : Carried) (old new : D) where
  pub record Halts (script : Script) (samples : ℕ) (server : List Mounted) (first final : List Token) (ending : Ending) : Type 0 where
    pub moments : List Moment
    pub results : List Fetched
    pub beside : Beside script server first final ending moments results
    pub took : Took samples (length moments) ending
    pub at_last : length moments ≡ samples → LastIsBehind samples beside.sampled
    pub so_ends : EndsSamples ending
    pub clock : c.tells → c.left clock_was ≡ moments ++ c.left clock_is
    pub counted : is.logged ≡ length results
    pub why : WhyStopped beside.sampled ending
    pub told : d.tells → (left : Files) (start : D) → KeepsRun d left [] start was old → HasDone d left start is new ending (LoggingDid beside.sampled was.limit left ending)

-- The end of a recording

-- over what recovery left this was done to its archive, and so it ended
pub record HasLeft {D : Type 0} (d : DiskGhosts D) (limit : ℕ) (left : Files) (start new : D) (ending : Ending) (Did : List Event → List Item → Type 0) : Type 0 where
  pub events : List Event
  pub more : List Item
  pub did : Did events more
  pub finished : HasFinished d limit left events more start new ending

-- what was recorded over the archive that recovery told
module _ {C D : Type 0} (c : ClockGhosts C) (d : DiskGhosts D) (clock_was clock_is : C) (archive : Archive) (old new : D) where
  pub record IsRecorded (script : Script) (limit samples : ℕ) (server : List Mounted) (first final : List Token) (r : Replayed) (ending : Ending) : Type 0 where
    pub moments : List Moment
    pub results : List Fetched
    pub beside : Beside script server first final ending moments results
    pub counted : r.logged ≡ length results
    pub counts : Counts samples moments results r ending
    pub at_last : length moments ≡ samples → LastIsBehind samples beside.sampled
    pub clock : c.tells → c.left clock_was ≡ moments ++ c.left clock_is
    pub why : WhyStopped beside.sampled ending
    pub told : d.tells → IsLeft archive (d.held old) → HasLeft d limit (contents_of (d.held old)) old new ending (LoggingDid beside.sampled limit (contents_of (d.held old)) ending)
