-- Why the logging of a recording stopped at the last moment that was taken, and what it did to the archive: too many metrics are asked for
-- there, or what the last sample shows isn't logged, or isn't made sure.
use Rattle.std.specs.Prelude.{◌≡◌, ◌⊎◌, ℕ, ◌<◌, ◌≤◌, List, [], ◌∷◌, ◌++◌, length}
use Rattle.pcp_base.specs.Time.{Moment}
use Rattle.pcp_base.specs.declared.result.Item.{Item}
use Rattle.pcp_model.specs.Disk.{Files}
use Rattle.region_rule.specs.Seats.{Token}
use Rattle.fetch_answers.specs.declared.fetch.Fetched.{Fetched}
use Rattle.fetch_answers.specs.Readings.{RegionReading}
use Rattle.fetch_engine.specs.declared.server.Mounted.{Mounted}
use Rattle.fetch_engine.specs.Visits.{AreRead}
use Rattle.logging_session.specs.Events.{Event, opening, with_report}
use Rattle.run_script.specs.declared.script.Script.{Script}
use Rattle.script_runs.specs.declared.ending.Ending.{Ending}
use Rattle.script_runs.specs.declared.ending.Ending.TheVariants as ends
use Rattle.script_runs.specs.declared.ending.LimitKind.TheVariants as kinds
use Rattle.script_runs.specs.Archives.{IsTurnedAway, report_of}
use Rattle.script_runs.specs.Steps.{fetched_from}
use Rattle.run_archive.specs.Samples.{SampleTaken}
use Rattle.run_archive.specs.Shown.{events_of, pmids_by}
use Rattle.record_run.specs.Beside.{IsSampled}

module _ {script : Script} {server : List Mounted} {first final : List Token} {ending : Ending} {moments : List Moment} {results : List Fetched} (sampled : IsSampled script server first final ending moments results) where
  -- At the moment that lacks its sample the names were read, and groups that are due ask for so many metrics by them, too many.
  pub record AsksTooMany (number : ℕ) : Type 0 where
    pub stamp : Moment
    pub lacks : sampled.lacking ≡ stamp ∷ []
    pub before : List Token
    pub after : List Token
    pub names : List RegionReading
    pub read : AreRead server before names after
    -- the writers ran beside this reading, or had ended before it
    pub place : ((before ≡ sampled.middle) × (after ≡ sampled.waiting)) ⊎ ((before ≡ sampled.last) × (after ≡ final))
    pub many : 1024 < length (pmids_by script.config.groups sampled.plans names stamp)
    pub number_is : number ≡ length (pmids_by script.config.groups sampled.plans names stamp)

  -- The last sample asks for some metrics, at most 1,024, and what it shows isn't logged.
  pub record ShowsLast : Type 0 where
    pub sample : SampleTaken
    pub one : sampled.unlogged ≡ sample ∷ []
    pub some : 0 < length (pmids_by script.config.groups sampled.plans sample.names sample.stamp)
    pub few : length (pmids_by script.config.groups sampled.plans sample.names sample.stamp) ≤ 1024

  -- what it shows
  abbrev pub shown_last : ShowsLast → Fetched
  shown_last x = fetched_from x.sample.values (pmids_by script.config.groups sampled.plans x.sample.names x.sample.stamp) x.sample.stamp

  -- Over any disk each of these endings has its cause in the samples. Of the others nothing is said here.
  abbrev pub WhyStopped : Ending → Type 0
  WhyStopped (ends.Limit kinds.Sets number) = AsksTooMany number
  WhyStopped (ends.Limit what number) = ShowsLast
  WhyStopped (ends.NotLater last) = ShowsLast
  WhyStopped (ends.Changed pmid) = ShowsLast
  WhyStopped reason = Unit {0}

  -- What was done to the archive that recovery left, event by event, and which items were on their way when the disk failed: the results were
  -- logged one behind another, and the volume was made sure behind each.
  abbrev pub LogsResults : List Event → List Item → Type 0
  LogsResults events more = (events ≡ events_of results) × (more ≡ [])

  -- then the archive was opened for what the last sample shows, if it wasn't open
  abbrev pub OpensForLast : List Event → List Item → Type 0
  OpensForLast events more = (x : ShowsLast) × (events ≡ opening x.sample.stamp (events_of results)) × (more ≡ [])

  -- it turned that away
  abbrev pub TurnsLastAway : ℕ → Files → Ending → List Event → List Item → Type 0
  TurnsLastAway limit left reason events more =
      (x : ShowsLast) × IsTurnedAway limit left (events_of results) (shown_last x) reason × (events ≡ opening x.sample.stamp (events_of results)) × (more ≡ [])

  -- the disk failed as the last one, which was logged, was to be written or made sure
  abbrev pub LeavesLastUnsure : List Event → List Item → Type 0
  LeavesLastUnsure events more =
      (before : List Fetched) × (last : Fetched) × (results ≡ before ++ last ∷ []) × (events ≡ with_report (events_of before) (report_of last)) × (more ≡ [])

  -- No line's condition fails in it, and files that are turned away aren't recovered.
  abbrev pub LoggingDid : ℕ → Files → Ending → List Event → List Item → Type 0
  LoggingDid limit left (ends.Limit kinds.Sets number) events more = LogsResults events more
  LoggingDid limit left (ends.Limit what number) events more = TurnsLastAway limit left (ends.Limit what number) events more
  LoggingDid limit left (ends.NotLater last) events more = TurnsLastAway limit left (ends.NotLater last) events more
  LoggingDid limit left (ends.Changed pmid) events more = TurnsLastAway limit left (ends.Changed pmid) events more
  LoggingDid limit left ends.NoMemory events more = LogsResults events more ⊎ OpensForLast events more
  LoggingDid limit left ends.DiskFault events more = LogsResults events more ⊎ (OpensForLast events more ⊎ LeavesLastUnsure events more)
  LoggingDid limit left (ends.Condition line) events more = ⊥
  LoggingDid limit left (ends.NotArchive file at) events more = ⊥
  LoggingDid limit left (ends.Compressed file) events more = ⊥
  LoggingDid limit left reason events more = LogsResults events more
