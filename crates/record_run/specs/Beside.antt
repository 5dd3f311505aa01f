-- A recording beside writers: what the threads of a script make of its regions, what is sampled meanwhile and behind them, and what is
-- logged of it. A region's journal is what the seat's pass has seen in the end.
use Rattle.std.specs.Prelude.{◌≡◌, ◌⊎◌, ℕ, ◌+◌, ◌<◌, ◌≤◌, true, List, [], ◌++◌, All, length, slice_get, Option, Some, None}
use Rattle.std.specs.Global.{Vec}
use Rattle.pcp_base.specs.Time.{Moment}
use Rattle.region_core.specs.declared.act.Entry.{Entry}
use Rattle.region_core.specs.declared.mode.Mode.TheVariants.{Idle}
use Rattle.region_core.specs.Journal.{state, own, IsJournal}
use Rattle.region_core.specs.State.{State, opening, IsIn}
use Rattle.region_rule.specs.Seats.{Token}
use Rattle.region_words.specs.Images.{mmv}
use Rattle.fetch_answers.specs.declared.fetch.Fetched.{Fetched}
use Rattle.fetch_engine.specs.declared.server.Mounted.{Mounted}
use Rattle.fetch_engine.specs.Visits.{AreLoaded}
use Rattle.run_script.specs.declared.script.Script.{Script}
use Rattle.run_passes.specs.Lasts.{AreLast}
use Rattle.script_runs.specs.declared.ending.Ending.{Ending}
use Rattle.script_runs.specs.declared.ending.Ending.TheVariants as ends
use Rattle.script_runs.specs.Groups.{Plan}
use Rattle.script_runs.specs.Journals.{is_load}
use Rattle.run_passes.specs.Hands.{IsServedAt}
use Rattle.run_passes.specs.LineEntries.{HasMade}
use Rattle.run_script.specs.Recording.{lines_of}
use Rattle.run_archive.specs.Samples.{SampleTaken, AreTaken, stamps_of}
use Rattle.run_archive.specs.Shown.{AreShown}
use Rattle.record_run.specs.Gathered.{AreUsedUp}

-- the state at a region's making
abbrev pub start_of : Mounted → State
start_of mounted = opening mounted.region.words mounted.region.passes

-- this holds of each region of the script, at its position, with its journal
abbrev pub AtJournals : (P : (script : Script) (server : List Mounted) (i j : ℕ) → IsServedAt script server i j → List Entry → Type 0) → Script → List Mounted → List Token → Type 0
AtJournals P script server seat = (i j : ℕ) (at : IsServedAt script server i j) (token : Token) → slice_get seat j ≡ Some token → P script server i j at token.view.seen

-- Writers

-- the journal is legal
abbrev pub IsLegal : (script : Script) (server : List Mounted) (i j : ℕ) → IsServedAt script server i j → List Entry → Type 0
IsLegal script server i j at log = IsJournal mmv at.mounted.region.words at.mounted.region.passes log

-- each pass of the script made just the entries of its own lines, each worked out in the state in which it stands, and ends idle
pub record WritersRan (script : Script) (server : List Mounted) (i j : ℕ) (at : IsServedAt script server i j) (log : List Entry) : Type 0 where
  pub each : (k : ℕ) → k < at.row.passes → HasMade script.images k (start_of at.mounted) (lines_of i k script.steps) log
  pub idle : (k : ℕ) → k < at.row.passes → IsIn Idle (state (start_of at.mounted) log) k

-- the logger's pass, which has the number behind them, only loads
abbrev pub LoggerLoads : (script : Script) (server : List Mounted) (i j : ℕ) → IsServedAt script server i j → List Entry → Type 0
LoggerLoads script server i j at log = All (λ (e : Entry). is_load e.act ≡ true) (own at.row.passes log)

-- Samples

-- what a seat's passes have seen by then is a beginning of what they have seen in the end, and nothing behind it is a writer's
abbrev pub StandsBehind : Script → List Mounted → List Token → List Token → Type 0
StandsBehind script server by final = (i j : ℕ) (at : IsServedAt script server i j) (then_ last : Token) → slice_get by j ≡ Some then_ → slice_get final j ≡ Some last
    → (rest : List Entry) × (last.view.seen ≡ then_.view.seen ++ rest) × ((k : ℕ) → k < at.row.passes → own k rest ≡ [])

-- by then they have seen at least what they had seen
abbrev pub SeesOn : List Token → List Token → Type 0
SeesOn old new = (length new ≡ length old) × ((j : ℕ) (before after : Token) → slice_get old j ≡ Some before → slice_get new j ≡ Some after
    → (more : List Entry) × (after.view.seen ≡ before.view.seen ++ more))

-- what stops the logging at a sample
abbrev pub StopsLogging : Ending → Type 0
StopsLogging ends.DiskFault = Unit {0}
StopsLogging (ends.Limit what number) = Unit {0}
StopsLogging (ends.NotLater last) = Unit {0}
StopsLogging (ends.Changed pmid) = Unit {0}
StopsLogging ends.NoMemory = Unit {0}
StopsLogging ending = ⊥

-- The samples of a recording: those beside the writers, and behind them at most one, whose loads stand behind every entry of a
-- writer. What they show is logged, one behind another; where a refusal stops the logging at the last moment that was taken, that
-- sample logs nothing, and may lack its readings.
pub record IsSampled (script : Script) (server : List Mounted) (first final : List Token) (ending : Ending) (moments : List Moment) (results : List Fetched) : Type 0 where
  pub beside : List SampleTaken
  pub middle : List Token
  pub taken : AreTaken server first beside middle
  pub waiting : List Token
  pub loaded : AreLoaded middle waiting
  pub gathered : List Token
  pub later : SeesOn waiting gathered
  pub stands : StandsBehind script server gathered final
  pub behind : List SampleTaken
  pub last : List Token
  pub taken_behind : AreTaken server gathered behind last
  pub loaded_behind : AreLoaded last final
  pub lacking : List Moment
  pub few : length behind + length lacking ≤ 1
  -- what came to its end took its last sample behind them
  pub last_behind : ending ≡ ends.Done → length behind ≡ 1
  pub moments_are : moments ≡ stamps_of (beside ++ behind) ++ lacking
  pub logged : List SampleTaken
  pub unlogged : List SampleTaken
  pub are : beside ++ behind ≡ logged ++ unlogged
  pub one : length unlogged + length lacking ≤ 1
  pub stops : ((unlogged ≡ []) × (lacking ≡ [])) ⊎ StopsLogging ending
  pub plans : Option (List Plan)
  pub shown : AreShown script.config.groups None logged results plans

-- What ended a run, before a disk that failed at its end
abbrev pub EndsBy : Ending → Ending → Type 0
EndsBy own ending = (ending ≡ own) ⊎ (ending ≡ ends.DiskFault)

-- Want of memory may leave the writers' lines unfinished, also where a disk that failed stands before it, and no other end. Whether it did is
-- told by what is left of the passes.
abbrev pub IsFinishedUnlessWanting : Ending → Type 0 → Type 0
IsFinishedUnlessWanting ends.NoMemory P = Unit {0}
IsFinishedUnlessWanting ends.DiskFault P = Unit {0}
IsFinishedUnlessWanting ending P = P

-- The writers ended: a list without a pass is left of each region, each pass has made the entries of its own lines, and the seat has gathered
-- every pass, so that these journals are whole
pub record WritersEnded (script : Script) (server : List Mounted) (final : List Token) (left : List (Vec Token)) : Type 0 where
  pub used : AreUsedUp server left
  pub ran : AtJournals WritersRan script server final
  pub last : AreLast final

-- What is left of the script's passes tells whether the writers ended. Lists without a pass, one for each region: they ended. No list at all: memory was refused to the writers, whose passes are gone with them, and the
-- recording ended by that, or by a disk that failed too.
abbrev pub TellWriters : Script → List Mounted → List Token → List (Vec Token) → Ending → Type 0
TellWriters script server final left ending = WritersEnded script server final left ⊎ ((left ≡ []) × EndsBy ends.NoMemory ending)

pub record Beside (script : Script) (server : List Mounted) (first final : List Token) (ending : Ending) (moments : List Moment) (results : List Fetched) : Type 0 where
  pub legal : AtJournals IsLegal script server final
  pub writers : IsFinishedUnlessWanting ending (AtJournals WritersRan script server final)
  pub loads : AtJournals LoggerLoads script server final
  pub sampled : IsSampled script server first final ending moments results
