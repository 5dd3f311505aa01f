-- What one sample shows of the metrics that it asks for, and how it is logged.
use Rattle.std.specs.Prelude.{◌≡◌, ◌⊎◌, ℕ, ◌+◌, ◌<◌, ◌≤◌, List, [], length}
use Rattle.pcp_base.specs.Time.{Moment}
use Rattle.pcp_outside.specs.declared.disk.Disk.{Ghosts as DiskGhosts}
use Rattle.region_rule.specs.Seats.{Token}
use Rattle.fetch_answers.specs.declared.fetch.Fetched.{Fetched}
use Rattle.fetch_engine.specs.declared.server.Mounted.{Mounted}
use Rattle.fetch_answers.specs.Readings.{RegionReading}
use Rattle.fetch_engine.specs.Visits.{AreRead}
use Rattle.script_runs.specs.declared.ending.Ending.{Ending}
use Rattle.script_runs.specs.declared.ending.Ending.TheVariants as ends
use Rattle.script_runs.specs.declared.ending.LimitKind.TheVariants as kinds
use Rattle.script_runs.specs.Steps.{fetched_from}
use Rattle.logging_session.specs.Keeping.{Carried}
use Rattle.run_archive.specs.Endings.{EndsUnlogged}
use Rattle.run_archive.specs.Kept.{KeepsRun, LeavesUnlogged, OverAny}
use Rattle.run_archive.specs.Shown.{result_for, with_result, with_results}

module _ (server : List Mounted) (before : List Token) (pmids : List ℕ) (now : Moment) (after : List Token) where
  -- each region was read once, and what was read answers so
  pub record Shows (fetched : Fetched) : Type 0 where
    pub few : length pmids ≤ 1024
    pub values : List RegionReading
    pub read : AreRead server before values after
    pub is : fetched ≡ fetched_from values pmids now

-- too many metrics are asked for, or memory was refused
abbrev pub Hides : List Token → List ℕ → Ending → List Token → Type 0
Hides before pmids ending after = ((1024 < length pmids) × (after ≡ before) × (ending ≡ ends.Limit kinds.Sets (length pmids))) ⊎ (ending ≡ ends.NoMemory)

module _ {D : Type 0} (d : DiskGhosts D) (server : List Mounted) (before : List Token) (pmids : List ℕ) (now : Moment) (was : Carried) (old : D) (is : Carried) (new : D) (after : List Token) where
  -- what was read is logged, where a metric is asked for
  pub record LogsOne : Type 0 where
    pub few : length pmids ≤ 1024
    pub values : List RegionReading
    pub read : AreRead server before values after
    pub logs : OverAny d was old (λ left events start. KeepsRun d left (with_results events (with_result (result_for pmids (fetched_from values pmids now)) [])) start is new)
    pub counted : is.logged ≡ was.logged + length (with_result (result_for pmids (fetched_from values pmids now)) [])

  -- nothing was shown, and nothing was done to the archive
  pub record HidesOne (ending : Ending) : Type 0 where
    pub hides : Hides before pmids ending after
    pub archive : is ≡ was
    pub disk : new ≡ old

  -- it was shown, and not logged
  pub record RefusesOne (ending : Ending) : Type 0 where
    pub some : 0 < length pmids
    pub few : length pmids ≤ 1024
    pub values : List RegionReading
    pub read : AreRead server before values after
    pub why : EndsUnlogged ending
    pub logs : OverAny d was old (λ left events start. LeavesUnlogged d left events start (fetched_from values pmids now) is new ending)
    pub counted : is.logged ≡ was.logged

  abbrev pub StopsOne : Ending → Type 0
  StopsOne ending = HidesOne ending ⊎ RefusesOne ending
