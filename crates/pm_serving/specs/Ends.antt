-- How a call that serves ends. What is looked at first comes first: the words, the input, then the sessions; want of memory may come
-- at any place, but behind the first session only where a writer was refused it.
use Rattle.std.specs.Prelude.{◌≡◌, ◌⊎◌, ℕ, List, [], Option, Result, Ok, Err, codes}
use Rattle.pcp_outside.specs.Sides.{SourceSide, SinkSide}
use Rattle.text_lines.specs.Spelling.{one_number}
use Rattle.pmcd_server.specs.declared.fault.ServeFault.TheVariants as faults
use Rattle.run_script.specs.declared.fault.ScriptFault.{ScriptFault}
use Rattle.run_script.specs.declared.script.Script.{Script}
use Rattle.pm_words.specs.declared.words.Call.TheVariants as calls
use Rattle.pm_words.specs.declared.words.Command.TheVariants.{Serve}
use Rattle.pm_words.specs.declared.refusal.Refusal.{Refusal}
use Rattle.pm_words.specs.declared.refusal.Refusal.TheVariants.{Script as Scripted, Accept, NoMemory}
use Rattle.pm_words.specs.Asking.{Before}
use Rattle.pm_words.specs.CommandLine.{asked_by}
use Rattle.pm_words.specs.Reading.{WasRead}
use Rattle.pm_words.specs.Telling.{TellsAll}
use Rattle.pm_serving.specs.declared.served.Served.{Served}
use Rattle.pm_serving.specs.Scripts.{script_served}
use Rattle.pm_serving.specs.Serving.{DoorsSide, IsUnserved, Leaves, WereCut}

-- What a call found of each object outside, and left of it, with its words and the regions that it left.
pub record Sides (P In Out Time : Type 0) : Type 1 where
  pub words : List (List ℕ)
  pub source : SourceSide
  pub sink : SinkSide
  pub doors : DoorsSide P In Out Time
  pub served : Option Served

abbrev pub sides : {P In Out Time : Type 0} → List (List ℕ) → SourceSide → SinkSide → DoorsSide P In Out Time → Option Served → Sides P In Out Time
sides words source sink doors served = record { words = words; source = source; sink = sink; doors = doors; served = served }

-- The words ask for this many sessions, and the input, which was read whole, says this of the script to serve.
pub record Orders (words : List (List ℕ)) (s : SourceSide) (count : ℕ) (found : Result Script ScriptFault) : Type 0 where
  pub words_are : asked_by calls.Serve words ≡ Ok (Serve count)
  pub input : List ℕ
  pub read : WasRead s input
  pub says : script_served input ≡ found

-- the input isn't served, for this fault
abbrev pub Finds : List (List ℕ) → SourceSide → ScriptFault → Type 0
Finds words s fault = (count : ℕ) × Orders words s count (Err fault)

-- why a call is refused before a session is served
abbrev pub Refused : List (List ℕ) → SourceSide → Refusal → Type 0
Refused words s (Scripted fault) = Finds words s fault
Refused words s e = Before calls.Serve words s e

-- The script that the words and the input ask for was opened, and this is left of it.
pub record Ran (words : List (List ℕ)) (s : SourceSide) (left : ℕ → Script → Type 0) : Type 0 where
  pub count : ℕ
  pub script : Script
  pub orders : Orders words s count (Ok script)
  pub leaves : left count script

-- all sessions were served; a door failed
abbrev pub AllServed : {P In Out Time : Type 0} → DoorsSide P In Out Time → Option Served → ℕ → Script → Type 0
AllServed d served count script = Leaves d count script (Ok count) served

abbrev pub DoorFailed : {P In Out Time : Type 0} → DoorsSide P In Out Time → Option Served → ℕ → Script → Type 0
DoorFailed d served count script = Leaves d count script (Err faults.Accept) served

-- the line of a call that served so many sessions
abbrev pub served_line : ℕ → List ℕ
served_line count = one_number (codes "served") count

-- What a call came to: it was done, with this line, or refused.
abbrev pub CameTo : {P In Out Time : Type 0} → List (List ℕ) → SourceSide → DoorsSide P In Out Time → Option Served → Result (List ℕ) Refusal → Type 0
CameTo words s d served (Ok line) = (ran : Ran words s (AllServed d served)) × (line ≡ served_line ran.count)
CameTo words s d served (Err Accept) = Ran words s (DoorFailed d served)
CameTo words s d served (Err NoMemory) = Refused words s NoMemory × (IsUnserved d served ⊎ Ran words s (WereCut d served))
CameTo words s d served (Err e) = Refused words s e × IsUnserved d served

-- and that was told
abbrev pub Ends : {P In Out Time : Type 0} → Sides P In Out Time → ℕ → Type 0
Ends c status = (result : Result (List ℕ) Refusal) × CameTo c.words c.source c.doors c.served result × TellsAll c.sink [] result status
