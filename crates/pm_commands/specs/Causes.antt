-- Why a call is refused, stage by stage. Causes are cumulative: each says also that all that is looked at before it
-- was good. The words are looked at first, then the input, then the disk; want of memory may come at any place.
use Rattle.std.specs.Prelude.{◌≡◌, ◌⊎◌, ℕ, List, Option, Some}
use Rattle.pcp_outside.specs.Sides.{SourceSide}
use Rattle.pm_words.specs.declared.words.Call.TheVariants as calls
use Rattle.pm_words.specs.declared.refusal.Refusal.{Refusal}
use Rattle.pm_words.specs.Asking as asking
use Rattle.pm_words.specs.Asking.{Before}
use Rattle.pm_words.specs.Inputs.{refusal_of}
use Rattle.pm_words.specs.Reading.{TookSome}
use Rattle.pm_words.specs.Refusals.{Stage, AtWords, AtReading, AtMemory, stage_of, status_of}
use Rattle.pm_words.specs.Serving.{Left, StopsAt}
use Rattle.pm_words.specs.Sides.{DiskSide, Untouched}
use Rattle.pm_commands.specs.Meanings.{meaning}

-- the words are a command, and this is what it got
abbrev pub Asks : List (List ℕ) → SourceSide → Type 0
Asks words s = asking.Asks calls.Offline words s

-- why the command of the words doesn't read what it got, if so
abbrev pub fault_of : {words : List (List ℕ)} {s : SourceSide} → Asks words s → Option Refusal
fault_of a = refusal_of (meaning a.command).reads a.input

-- the words are a command that reads an input
abbrev pub IsReader : List (List ℕ) → Type 0
IsReader words = asking.IsReader calls.Offline words

-- the words are a command that finds this of its input
abbrev pub Finds : List (List ℕ) → SourceSide → Refusal → Type 0
Finds words s e = (a : Asks words s) × (fault_of a ≡ Some e)

-- Why a call is refused, by what it looks at.
abbrev pub CauseAt : Stage → List (List ℕ) → SourceSide → DiskSide → Refusal → Type 0
CauseAt AtWords words s d e = Before calls.Offline words s e × Untouched d
CauseAt AtReading words s d e = Before calls.Offline words s e × Untouched d
CauseAt AtMemory words s d e = (s.tells → TookSome s) × (Untouched d ⊎ ((a : Asks words s) × Left (meaning a.command) (status_of e) a.input d))
CauseAt stage words s d e = (a : Asks words s) × StopsAt stage (meaning a.command) a.input d e

abbrev pub Cause : List (List ℕ) → SourceSide → DiskSide → Refusal → Type 0
Cause words s d e = CauseAt (stage_of e) words s d e
