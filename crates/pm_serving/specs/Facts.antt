-- What a status says, fact by fact. "Always" yields to want of memory (9) and to a read that failed before (3), which no clause can
-- foresee.
use Rattle.std.specs.Prelude.{◌≡◌, ◌⊎◌, ℕ, ◌≤◌, List, ◌++◌, length, Ok, Err}
use Rattle.pcp_outside.specs.Causes.{Rose}
use Rattle.pcp_outside.specs.Sides.{SourceSide}
use Rattle.pmcd_server.specs.Crews.{AllSame, SomeRose}
use Rattle.run_script.specs.declared.fault.ScriptFault.{ScriptFault}
use Rattle.run_script.specs.declared.script.Script.{Script}
use Rattle.pm_words.specs.declared.words.Call.TheVariants as calls
use Rattle.pm_words.specs.Asking.{IsReader, ReadingIsExact, UsageIsExact}
use Rattle.pm_words.specs.Inputs.{input_limit}
use Rattle.pm_words.specs.Reading.{IsAbove}
use Rattle.pm_words.specs.Refusals.{script_status}
use Rattle.pm_serving.specs.Ends.{AllServed, DoorFailed, Ends, Finds, Ran, Sides, served_line}
use Rattle.pm_serving.specs.Scripts.{script_served}
use Rattle.pm_serving.specs.Serving.{IsUnserved, WereCut}

-- the words ask for sessions, and the source gives an input within the limit
pub record Meets (words : List (List ℕ)) (s : SourceSide) : Type 0 where
  pub asked : IsReader calls.Serve words
  pub tells : s.tells
  pub within : length s.left ≤ input_limit

-- 2 exactly where the script has a fault, or a region without room for the seats; always the status of the first fault, which is 7
-- for a region too many
pub record ScriptFaultIsExact (words : List (List ℕ)) (s : SourceSide) (status : ℕ) : Type 0 where
  pub only : status ≡ 2 → (fault : ScriptFault) × (script_status fault.fault ≡ 2) × Finds words s fault
  pub always : Meets words s → (fault : ScriptFault) → script_served s.left ≡ Err fault → (status ≡ script_status fault.fault) ⊎ ((status ≡ 9) ⊎ (status ≡ 3))

-- the input is above 16 MiB, of which one byte above the limit is taken and no further one, or the script has a region too many
abbrev pub LimitCause : List (List ℕ) → SourceSide → Type 0
LimitCause words s = (IsReader calls.Serve words × IsAbove s) ⊎ ((fault : ScriptFault) × (script_status fault.fault ≡ 7) × Finds words s fault)

module _ {P In Out Time : Type 0} (c : Sides P In Out Time) where
  -- it was done, and said so; no call of the sink failed
  pub record IsDone : Type 0 where
    pub ran : Ran c.words c.source (AllServed c.doors c.served)
    pub wrote : c.sink.tells → c.sink.after ≡ c.sink.written ++ served_line ran.count
    pub quiet : c.sink.faults_after ≡ c.sink.faults

  -- After 0 and 4 all sessions were served; after 21 some door failed, and the other workers served on: all places were drawn, unless
  -- every door failed. After every other status nothing was served: the doors are as they were, and no regions are left; but after 9
  -- sessions may have been served beside a writer that was refused memory.
  pub record ServedIsExact (status : ℕ) : Type 0 where
    pub done : status ≡ 0 → Ran c.words c.source (AllServed c.doors c.served)
    pub untold : status ≡ 4 → Ran c.words c.source (AllServed c.doors c.served)
    pub accept : status ≡ 21 → Ran c.words c.source (DoorFailed c.doors c.served)
    pub otherwise : (status ≡ 0 → ⊥) → (status ≡ 4 → ⊥) → (status ≡ 21 → ⊥) → IsUnserved c.doors c.served ⊎ ((status ≡ 9) × Ran c.words c.source (WereCut c.doors c.served))

  -- A script that may be served, and no count that rose.
  pub record IsGoodRun : Type 0 where
    pub meets : Meets c.words c.source
    pub script : Script
    pub good : script_served c.source.left ≡ Ok script
    pub source_kept : Rose c.source.faults c.source.faults_after → ⊥
    pub sink_kept : Rose c.sink.faults c.sink.faults_after → ⊥
    pub doors_kept : SomeRose c.doors.door c.doors.before c.doors.after → ⊥

  -- All that a call says.
  pub record Facts (status : ℕ) : Type 0 where
    -- How it ends, whole: done, done but not told, or refused, with each refusal's cause, what was taken of the input, what was served and
    -- which line was written.
    pub ends : Ends c status
    -- Done: the input was read to its end, the sessions were served, and the line says how many.
    pub done : status ≡ 0 → IsDone
    -- Done: no call of the source, of the sink or of a door failed.
    pub quiet : status ≡ 0 → (c.source.faults_after ≡ c.source.faults) × (c.sink.faults_after ≡ c.sink.faults) × AllSame c.doors.door c.doors.before c.doors.after
    -- Each other status comes for its cause alone. 1 comes exactly where the words don't ask for sessions; 7 exactly where the input is
    -- above the limit or the script has a region too many.
    pub usage : UsageIsExact calls.Serve c.words status
    pub script_fault : ScriptFaultIsExact c.words c.source status
    pub reading : ReadingIsExact calls.Serve c.words c.source status
    pub limit : status ≡ 7 → LimitCause c.words c.source
    pub write_fault : status ≡ 4 → Rose c.sink.faults c.sink.faults_after
    pub accept_fault : status ≡ 21 → SomeRose c.doors.door c.doors.before c.doors.after
    -- After 0, 4 and 21 the regions are those of the script, each report of a door is that of a session on the seat at its position,
    -- the seat's passes have seen what these sessions did, and each pass of the script has made the entries of its own lines. After 21
    -- all places were drawn, unless every door failed. After every other status nothing was served, but where a writer was refused
    -- memory.
    pub served : ServedIsExact status
    -- A script that may be served is served.
    pub completes : IsGoodRun → (status ≡ 0) ⊎ (status ≡ 9)
