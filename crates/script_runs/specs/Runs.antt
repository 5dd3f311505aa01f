-- The run of a script over files (pmlogger(1)): they are recovered, its lines are run one after another up to the first that ends the
-- run, regions are closed, and where a result was logged a flush follows.
use Rattle.std.specs.Prelude.{◌≡◌, ◌≢◌, ◌⊎◌, ℕ, ◌+◌, ◌<◌, ◌≤◌, Bool, true, false, List, [], ◌∷◌, ◌++◌, codes, length, take, slice_get, Some, None}
use Rattle.std.specs.List.{list_all}
use Rattle.pcp_base.specs.Time.{Moment}
use Rattle.pcp_base.specs.declared.result.Item.{Item}
use Rattle.pcp_model.specs.Disk.{Files}
use Rattle.fetch_answers.specs.declared.fetch.Fetched.{Fetched}
use Rattle.logging_session.specs.Course.{LeadsTo}
use Rattle.logging_session.specs.Events.{Event, LeadFrom, closing, items_by, logged_all, opening}
use Rattle.logging_session.specs.Written.{Report, Stand}
use Rattle.run_script.specs.declared.script.Line.{Line}
use Rattle.run_script.specs.declared.script.Line.TheVariants.{Tick}
use Rattle.run_script.specs.declared.script.Script.{Script}
use Rattle.script_runs.specs.declared.ending.Ending.{Ending}
use Rattle.script_runs.specs.declared.ending.Ending.TheVariants as ends
use Rattle.script_runs.specs.declared.ending.LimitKind.TheVariants as kinds
use Rattle.script_runs.specs.Regions.{Doing, ScriptRegion, made_regions}
use Rattle.text_lines.specs.Spelling.{one_number}
use Rattle.script_runs.specs.Archives.{IsRecovered, IsTurnedAway, report_of, run_label}
use Rattle.script_runs.specs.Closing.{closed_regions}
use Rattle.script_runs.specs.Steps.{RunState, Fails, GoesOn, fetched_at, pmids_at}

-- before the first line
abbrev pub run_start : Script → RunState
run_start script = record { regions = made_regions script; plans = None; events = []; output = [] }

-- At the end of the lines no pass may be left at work; else the fault stands on the line behind the last.
abbrev pub is_idle : Doing → Bool
is_idle Doing.idle = true
is_idle _ = false

abbrev pub are_idle : List ScriptRegion → Bool
are_idle regions = list_all (λ r. list_all is_idle r.doing) regions

abbrev pub line_behind : List (ℕ × Line) → ℕ
line_behind [] = 0
line_behind (step ∷ []) = step.0 + 1
line_behind (step ∷ other ∷ steps) = line_behind (other ∷ steps)

-- lines that are run one after another
abbrev pub Goes : Script → List (ℕ × Line) → RunState → RunState → Type 0
Goes script [] s t = t ≡ s
Goes script (step ∷ steps) s t = (u : RunState) × GoesOn script s step.1 u × Goes script steps u t

-- some first lines of a script were run, so many
pub record RanFirst (script : Script) (count : ℕ) (s : RunState) : Type 0 where
  pub within : count ≤ length script.steps
  pub goes : Goes script (take count script.steps) (run_start script) s

-- The next line

-- A tick that asks for some metrics, at most 1,024: they are shown, and what they show is to be logged.
pub record Shows (script : Script) (s : RunState) (line : Line) : Type 0 where
  pub now : Moment
  pub is : line ≡ Tick now
  pub some : 0 < length (pmids_at script s now)
  pub few : length (pmids_at script s now) ≤ 1024

-- what it shows
abbrev pub shown : {script : Script} {s : RunState} {line : Line} → Shows script s line → Fetched
shown {script} {s} x = fetched_at s (pmids_at script s x.now) x.now

-- A tick that asks for more, so many
pub record AsksTooMany (script : Script) (s : RunState) (line : Line) (number : ℕ) : Type 0 where
  pub now : Moment
  pub is : line ≡ Tick now
  pub many : 1024 < length (pmids_at script s now)
  pub are : number ≡ length (pmids_at script s now)

-- Why a line ends a run, as far as lines tell: the condition of a pass fails, a tick asks for too many metrics, or what it shows isn't logged.
abbrev pub EndsLine : Script → RunState → ℕ → Line → Ending → Type 0
EndsLine script s number line (ends.Condition at) = (at ≡ number) × Fails script s line
EndsLine script s number line (ends.Limit kinds.Sets count) = AsksTooMany script s line count
EndsLine script s number line (ends.Limit what count) = Shows script s line
EndsLine script s number line (ends.NotLater last) = Shows script s line
EndsLine script s number line (ends.Changed pmid) = Shows script s line
EndsLine script s number line ends.NoMemory = Unit {0}
EndsLine script s number line ends.DiskFault = Unit {0}
EndsLine script s number line ending = ⊥

-- What it did to the archive that recovery left: nothing more; or the archive was opened for what is shown. There it was turned away; or
-- memory was refused; or the disk failed later.
abbrev pub DoesNothing : RunState → List Event → List Item → Type 0
DoesNothing s events more = (events ≡ s.events) × (more ≡ [])

abbrev pub OpensFor : Script → RunState → Line → List Event → List Item → Type 0
OpensFor script s line events more = (x : Shows script s line) × (events ≡ opening x.now s.events) × (more ≡ [])

abbrev pub TurnsAway : Script → ℕ → Files → RunState → Line → Ending → List Event → List Item → Type 0
TurnsAway script limit left s line ending events more =
    (x : Shows script s line) × IsTurnedAway limit left s.events (shown x) ending × (events ≡ opening x.now s.events) × (more ≡ [])

abbrev pub LineDoes : Script → ℕ → Files → RunState → Line → Ending → List Event → List Item → Type 0
LineDoes script limit left s line (ends.Limit kinds.Sets count) events more = DoesNothing s events more
LineDoes script limit left s line (ends.Limit what count) events more = TurnsAway script limit left s line (ends.Limit what count) events more
LineDoes script limit left s line (ends.NotLater last) events more = TurnsAway script limit left s line (ends.NotLater last) events more
LineDoes script limit left s line (ends.Changed pmid) events more = TurnsAway script limit left s line (ends.Changed pmid) events more
LineDoes script limit left s line ends.NoMemory events more = DoesNothing s events more ⊎ OpensFor script s line events more
LineDoes script limit left s line ends.DiskFault events more = DoesNothing s events more ⊎ OpensFor script s line events more
LineDoes script limit left s line ending events more = DoesNothing s events more

-- Ends

-- all lines were run, and no pass is left at work, or one is
pub record RanAll (script : Script) (count : ℕ) (s : RunState) (idle : Bool) : Type 0 where
  pub all : count ≡ length script.steps
  pub idle_is : are_idle s.regions ≡ idle

-- so it is of the line behind so many
abbrev pub Next : Script → ℕ → (ℕ → Line → Type 0) → Type 0
Next script count P = (number : ℕ) × (line : Line) × (slice_get script.steps count ≡ Some (number, line)) × P number line

-- So a run ends in this state behind so many lines. Where files are turned away nothing was run.
abbrev pub Halts : Script → ℕ → RunState → Ending → Type 0
Halts script count s ends.Done = RanAll script count s true
Halts script count s (ends.Condition at) = Next script count (λ number line. EndsLine script s number line (ends.Condition at)) ⊎ (RanAll script count s false × (at ≡ line_behind script.steps))
Halts script count s (ends.Limit what number) = Next script count (λ at line. EndsLine script s at line (ends.Limit what number))
Halts script count s (ends.NotLater last) = Next script count (λ at line. EndsLine script s at line (ends.NotLater last))
Halts script count s (ends.Changed pmid) = Next script count (λ at line. EndsLine script s at line (ends.Changed pmid))
Halts script count s ends.DiskFault = Unit {0}
Halts script count s ends.NoMemory = Unit {0}
Halts script count s (ends.NotArchive file at) = count ≡ 0
Halts script count s (ends.Compressed file) = count ≡ 0
Halts script count s (ends.ClockEnd left) = ⊥
Halts script count s (ends.ClockFault left) = ⊥

-- where it came to its end it tells how many results it logged
abbrev pub with_end : Ending → RunState → List ℕ
with_end ends.Done s = s.output ++ one_number (codes "logged") (length (items_by s.events))
with_end ending s = s.output

-- These lines, so many, are all that were run up to that state, or those before a tick: what that one shows was logged, and behind it nothing
-- but results.
abbrev pub EndsBefore : Script → ℕ → RunState → ℕ → RunState → Type 0
EndsBefore script count last lines t =
    ((lines ≡ count) × (t ≡ last))
    ⊎ Next script count (λ at line. (x : Shows script last line) × (rest : List Report) × (t.events ≡ opening x.now last.events ++ logged_all (report_of (shown x) ∷ rest)))

-- How far its lines were run on the regions. Results are judged at their ticks and written several at a time: so a disk that fails may end a
-- run at an earlier tick than the last line that was run, since the last results are lost.
pub record RanOn (script : Script) (ending : Ending) (count : ℕ) (last : RunState) : Type 0 where
  pub lines : ℕ
  pub state : RunState
  pub ran : RanFirst script lines state
  pub on : count ≤ lines
  pub same : ending ≢ ends.DiskFault → (lines ≡ count) × (state ≡ last)
  pub before : EndsBefore script count last lines state

-- What a run does, over any disk: its first lines were run, so many, and then it ended so, with these lines written and its regions closed.
pub record RanTo (script : Script) (ending : Ending) (output : List ℕ) (regions : List ScriptRegion) : Type 0 where
  pub count : ℕ
  pub last : RunState
  pub ran : RanFirst script count last
  pub halts : Halts script count last ending
  pub output_is : output ≡ with_end ending last
  pub further : RanOn script ending count last
  pub closed : regions ≡ closed_regions further.state.regions

-- The disk failed

-- behind these lines: nothing more was done, or the archive was opened for what the next one shows
abbrev pub FailsBehind : Script → ℕ → RunState → List Event → Type 0
FailsBehind script lines t events = (events ≡ t.events) ⊎ Next script lines (λ at line. (x : Shows script t line) × (events ≡ opening x.now t.events))

-- These results were lost, which were logged and held. The run ended before the tick of the first of them, which the archive, where it wasn't
-- open, was opened for; where none is lost, behind all its lines.
abbrev pub BeginsLost : Script → ℕ → RunState → ℕ → RunState → List Event → List Report → Type 0
BeginsLost script count s lines t events [] = (lines ≡ count) × (t ≡ s)
BeginsLost script count s lines t events (r ∷ lost) = Next script count (λ at line. (x : Shows script s line) × (r ≡ report_of (shown x)) × (events ≡ opening x.now s.events))

-- Of what its lines did these events were done, and the items of the others were on their way, which the archive takes: some first ones of
-- them may stand.
pub record Loses (script : Script) (limit : ℕ) (left : Files) (count : ℕ) (s : RunState) (lines : ℕ) (t : RunState) (events : List Event) (more : List Item) : Type 0 where
  pub lost : List Report
  pub all : List Event
  pub did : FailsBehind script lines t all
  pub is : all ≡ events ++ logged_all lost
  pub more_is : more ≡ items_by (logged_all lost)
  pub begins : BeginsLost script count s lines t events lost
  pub leads : (stand : Stand) × LeadFrom run_label limit left all stand

-- What such a run did to the archive that recovery left, event by event, and which items were on their way when the disk failed: the events
-- of its lines, and what the next line did. Where files are turned away nothing is. It ended behind the first ones of the lines, and these were
-- run on the regions.
abbrev pub Does : Script → ℕ → Files → ℕ → RunState → ℕ → RunState → Ending → List Event → List Item → Type 0
Does script limit left count s lines t (ends.Limit what number) events more = Next script count (λ at line. LineDoes script limit left s line (ends.Limit what number) events more)
Does script limit left count s lines t (ends.NotLater last) events more = Next script count (λ at line. LineDoes script limit left s line (ends.NotLater last) events more)
Does script limit left count s lines t (ends.Changed pmid) events more = Next script count (λ at line. LineDoes script limit left s line (ends.Changed pmid) events more)
Does script limit left count s lines t ends.NoMemory events more = DoesNothing s events more ⊎ Next script count (λ at line. LineDoes script limit left s line ends.NoMemory events more)
Does script limit left count s lines t ends.DiskFault events more = Loses script limit left count s lines t events more
Does script limit left count s lines t ends.Done events more = DoesNothing s events more
Does script limit left count s lines t (ends.Condition at) events more = DoesNothing s events more
Does script limit left count s lines t ending events more = ⊥

-- so it did in this run
abbrev pub RunDoes : {script : Script} {ending : Ending} {output : List ℕ} {regions : List ScriptRegion} → ℕ → Files → RanTo script ending output regions → List Event → List Item → Type 0
RunDoes {script} {ending} limit left ran events more = Does script limit left ran.count ran.last ran.further.lines ran.further.state ending events more

-- A script runs over files that are recovered first: to this ending, with these lines written, this done to the archive, the regions closed
-- so, and these files. At the end what was logged is flushed.
pub record RunsTo (script : Script) (limit : ℕ) (start : Files) (ending : Ending) (output : List ℕ) (events : List Event) (regions : List ScriptRegion) (final : Files) : Type 0 where
  pub left : Files
  pub recovered : IsRecovered start left
  pub ran : RanTo script ending output regions
  pub does : RunDoes limit left ran events []
  pub files : LeadsTo run_label limit left (closing events) final
