-- What a call gets of its words and of its source, or why it is refused before its command begins. The words are looked at first, then
-- the reading of an input; want of memory may come at either place.
use Rattle.std.specs.Prelude.{◌≡◌, ◌⊎◌, ℕ, ◌<◌, Bool, true, false, List, [], length, Ok, Err}
use Rattle.pcp_outside.specs.Causes.{Rose}
use Rattle.pcp_outside.specs.Sides.{SourceSide}
use Rattle.pm_words.specs.declared.words.Call.{Call}
use Rattle.pm_words.specs.declared.words.Command.{Command}
use Rattle.pm_words.specs.declared.refusal.Refusal.{Refusal}
use Rattle.pm_words.specs.declared.refusal.Refusal.TheVariants.{Usage, ReadFault, InputLimit, NoMemory}
use Rattle.pm_words.specs.CommandLine.{asked_by, takes_input}
use Rattle.pm_words.specs.Inputs.{input_limit}
use Rattle.pm_words.specs.Reading.{TookSome, UnreadCause, WasRead}
use Rattle.pm_words.specs.Sides.{NotAsked}

-- a whole input, or nothing where the command takes none
abbrev pub Got : Bool → SourceSide → List ℕ → Type 0
Got false s input = (input ≡ []) × NotAsked s
Got true s input = WasRead s input

-- the words ask the call for a command, and this is what it got
pub record Asks (call : Call) (words : List (List ℕ)) (s : SourceSide) : Type 0 where
  pub command : Command
  pub words_are : asked_by call words ≡ Ok command
  pub input : List ℕ
  pub got : Got (takes_input command) s input

-- for this command, with this input
pub record AsksFor (call : Call) (words : List (List ℕ)) (s : SourceSide) (command : Command) (input : List ℕ) : Type 0 where
  pub asks : Asks call words s
  pub command_is : asks.command ≡ command
  pub input_is : asks.input ≡ input

-- the words ask the call for a command that takes an input, or for one that takes none
abbrev pub IsReader : Call → List (List ℕ) → Type 0
IsReader call words = (command : Command) × (asked_by call words ≡ Ok command) × (takes_input command ≡ true)

abbrev pub IsInputless : Call → List (List ℕ) → Type 0
IsInputless call words = (command : Command) × (asked_by call words ≡ Ok command) × (takes_input command ≡ false)

-- why a call is refused before its command begins
abbrev pub Before : Call → List (List ℕ) → SourceSide → Refusal → Type 0
Before call words s (Usage at) = (asked_by call words ≡ Err at) × NotAsked s
Before call words s ReadFault = IsReader call words × UnreadCause s ReadFault
Before call words s InputLimit = IsReader call words × UnreadCause s InputLimit
Before call words s NoMemory = s.tells → TookSome s
Before call words s _ = ⊥

-- 1 exactly where the words ask the call for nothing that it does
pub record UsageIsExact (call : Call) (words : List (List ℕ)) (status : ℕ) : Type 0 where
  pub only : status ≡ 1 → (at : ℕ) × (asked_by call words ≡ Err at)
  pub always : (at : ℕ) → asked_by call words ≡ Err at → (status ≡ 1) ⊎ (status ≡ 9)

-- 3 only where the source's count rose; an input above the limit is never run: its status is 7, unless memory ran out or the source failed
-- before
pub record ReadingIsExact (call : Call) (words : List (List ℕ)) (s : SourceSide) (status : ℕ) : Type 0 where
  pub fault : status ≡ 3 → Rose s.faults s.faults_after
  pub above : IsReader call words → s.tells → input_limit < length s.left → (status ≡ 7) ⊎ ((status ≡ 9) ⊎ (status ≡ 3))
