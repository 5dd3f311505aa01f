-- How a configuration is read byte by byte: the stage of a statement at which a byte stands, what it changes
-- there, and what has been read so far.
use Rattle.std.specs.Prelude.{ℕ, ◌+◌, ◌-◌, ◌*◌, ◌<◌, ◌≤◌, Bool, true, false, ◌&&◌, ◌==◌, nat_le, if◌then◌else◌, List, [], ◌∷◌, ◌++◌, length, slice_index, Option, Some, None, option_and_then, codes}
use Rattle.pcp_base.specs.Names.{is_letter, is_name_byte}
use Rattle.log_schedule.specs.Configuration.{is_digit, is_blank}
use Rattle.log_schedule.specs.declared.config.Group.{Group}
use Rattle.log_schedule.specs.declared.stage.Unit.{Unit as TimeUnit}
use Rattle.log_schedule.specs.declared.stage.Unit.TheVariants as units
use Rattle.log_schedule.specs.declared.stage.Word.{Word}
use Rattle.log_schedule.specs.declared.stage.Word.TheVariants as words
use Rattle.log_schedule.specs.declared.stage.Next.{Next}
use Rattle.log_schedule.specs.declared.stage.Next.TheVariants as nexts
use Rattle.log_schedule.specs.declared.stage.Stage.{Stage}
use Rattle.log_schedule.specs.declared.stage.Stage.TheVariants as stages
use Rattle.log_schedule.specs.declared.stage.Act.{Act}
use Rattle.log_schedule.specs.declared.stage.Act.TheVariants as acts

-- how a unit is spelled
abbrev pub unit_text : TimeUnit → List ℕ
unit_text units.Msec = codes "msec"
unit_text units.Sec = codes "sec"
unit_text units.Min = codes "min"
unit_text units.Hour = codes "hour"

abbrev pub millis : TimeUnit → ℕ
millis units.Msec = 1
millis units.Sec = 1000
millis units.Min = 60000
millis units.Hour = 3600000

-- how a word is spelled
abbrev pub word_text : Word → List ℕ
word_text words.Log = codes "log"
word_text words.Mandatory = codes "mandatory"
word_text words.On = codes "on"
word_text words.Every = codes "every"
word_text words.Once = codes "once"
word_text (words.Unit unit n) = unit_text unit

-- the next stage, and what a byte changes
abbrev pub Step : Type 0
Step = Stage × Act

-- what comes after a whole word
abbrev pub after_word : Word → Step
after_word words.Log = (stages.Gap nexts.Mandatory, acts.Keep)
after_word words.Mandatory = (stages.Gap nexts.On, acts.Keep)
after_word words.On = (stages.Gap nexts.Interval, acts.Keep)
after_word words.Every = (stages.Gap nexts.Number, acts.Keep)
after_word words.Once = (stages.Brace, acts.Interval None)
after_word (words.Unit unit n) = (stages.Brace, acts.Interval (Some (n * millis unit)))

-- a word of which so many bytes are read
abbrev pub in_word : Word → ℕ → Step
in_word word seen = if seen == length (word_text word) then after_word word else (stages.Word word seen, acts.Keep)

abbrev pub word_byte : Word → ℕ → ℕ → Option Step
word_byte word seen b = if b == slice_index (word_text word) seen then Some (in_word word (seen + 1)) else None

-- one more digit of a number, which stays within 1,000,000,000
abbrev pub digit_byte : ℕ → ℕ → Option Step
digit_byte n b = if is_digit b && nat_le (n * 10 + (b - 48)) 1000000000 then Some (stages.Number (n * 10 + (b - 48)), acts.Keep) else None

-- a number's first digit
abbrev pub number_byte : ℕ → Option Step
number_byte b = if b == 48 then None else digit_byte 0 b

abbrev pub interval_byte : ℕ → Option Step
interval_byte b =
    if b == 111 then Some (stages.Word words.Once 1, acts.Keep) else
    if b == 101 then Some (stages.Word words.Every 1, acts.Keep) else number_byte b

-- the first byte of what has to come next
abbrev pub first_byte : Next → ℕ → Option Step
first_byte nexts.Mandatory b = word_byte words.Mandatory 0 b
first_byte nexts.On b = word_byte words.On 0 b
first_byte nexts.Interval b = interval_byte b
first_byte nexts.Number b = number_byte b

abbrev pub unit_byte : ℕ → ℕ → Option Step
unit_byte n b =
    if b == 109 then Some (stages.Minute n, acts.Keep) else
    if b == 115 then Some (stages.Word (words.Unit units.Sec n) 1, acts.Keep) else
    if b == 104 then Some (stages.Word (words.Unit units.Hour n) 1, acts.Keep) else None

-- after the m of `msec` or `min`
abbrev pub minute_byte : ℕ → ℕ → Option Step
minute_byte n b =
    if b == 115 then Some (stages.Word (words.Unit units.Msec n) 2, acts.Keep) else
    if b == 105 then Some (stages.Word (words.Unit units.Min n) 2, acts.Keep) else None

-- the first letter of a name
abbrev pub letter_byte : ℕ → Option Step
letter_byte b = if is_letter b then Some (stages.Name, acts.Begin) else None

abbrev pub name_end : ℕ → Option Step
name_end b =
    if is_blank b then Some (stages.After, acts.Name) else
    if b == 44 then Some (stages.Comma, acts.Name) else
    if b == 125 then Some (stages.Between, acts.Last) else None

abbrev pub name_byte : ℕ → Option Step
name_byte b =
    if is_name_byte b then Some (stages.Name, acts.Add) else
    if b == 46 then Some (stages.Dot, acts.Add) else name_end b

abbrev pub after_byte : ℕ → Option Step
after_byte b =
    if b == 44 then Some (stages.Comma, acts.Keep) else
    if b == 125 then Some (stages.Between, acts.Statement) else letter_byte b

abbrev pub brace_byte : ℕ → Option Step
brace_byte b = if b == 123 then Some (stages.First, acts.Keep) else None

-- the first letter of a further component
abbrev pub part_byte : ℕ → Option Step
part_byte b = if is_letter b then Some (stages.Name, acts.Add) else None

abbrev pub comma_byte : ℕ → Option Step
comma_byte b = if b == 44 then Some (stages.Comma, acts.Keep) else letter_byte b

-- the stage after a blank, where blanks may stand or one has to
abbrev pub blank_of : Stage → Option Stage
blank_of (stages.Gap next) = Some (stages.Spaced next)
blank_of (stages.Number n) = Some (stages.Unit n)
blank_of (stages.Word word seen) = None
blank_of (stages.Minute n) = None
blank_of stages.Name = None
blank_of stages.Dot = None
blank_of stage = Some stage

-- what comes of a byte that is no blank, or stands where a blank is no blank
abbrev pub other_of : Stage → ℕ → Option Step
other_of stages.Between b = word_byte words.Log 0 b
other_of (stages.Word word seen) b = word_byte word seen b
other_of (stages.Gap next) b = None
other_of (stages.Spaced next) b = first_byte next b
other_of (stages.Number n) b = digit_byte n b
other_of (stages.Unit n) b = unit_byte n b
other_of (stages.Minute n) b = minute_byte n b
other_of stages.Brace b = brace_byte b
other_of stages.First b = letter_byte b
other_of stages.Name b = name_byte b
other_of stages.Dot b = part_byte b
other_of stages.Comma b = comma_byte b
other_of stages.After b = after_byte b

abbrev pub blank_step : Option Stage → Option Step → Option Step
blank_step None other = other
blank_step (Some stage) other = Some (stage, acts.Keep)

-- the stage after a byte and what the byte changes; None where no statement has it there
abbrev pub next_of : Stage → ℕ → Option Step
next_of stage b = if is_blank b then blank_step (blank_of stage) (other_of stage b) else other_of stage b

-- between statements, where a configuration may end
abbrev pub is_between : Stage → Bool
is_between stages.Between = true
is_between stage = false

-- what has been read: whole groups, and of the statement begun its interval, whole names and last name
pub record Found : Type 0 where
  pub groups : List Group
  pub interval : Option ℕ
  pub names : List (List ℕ)
  pub name : List ℕ

-- the name begun is whole
abbrev pub with_name : Found → Found
with_name f = record f { names = f.names ++ f.name ∷ [] }

-- the statement begun is whole
abbrev pub with_statement : Found → Found
with_statement f = record f { groups = f.groups ++ record { interval = f.interval; names = f.names } ∷ []; names = [] }

-- what has been read once this act was done with the byte
abbrev pub after_act : Act → ℕ → Found → Found
after_act acts.Keep b f = f
after_act (acts.Interval interval) b f = record f { interval = interval }
after_act acts.Begin b f = record f { name = b ∷ [] }
after_act acts.Add b f = record f { name = f.name ++ b ∷ [] }
after_act acts.Name b f = with_name f
after_act acts.Statement b f = with_statement f
after_act acts.Last b f = with_statement (with_name f)

-- a word's number, a word not yet whole, and numbers in range
abbrev pub IsWord : Word → Type 0
IsWord (words.Unit unit n) = n ≤ 1000000000
IsWord word = Unit {0}

abbrev pub IsStage : Stage → Type 0
IsStage (stages.Word word seen) = (seen < length (word_text word)) × IsWord word
IsStage (stages.Number n) = n ≤ 1000000000
IsStage (stages.Unit n) = n ≤ 1000000000
IsStage (stages.Minute n) = n ≤ 1000000000
IsStage stage = Unit {0}

-- the stage, and what has been read
abbrev pub State : Type 0
State = Stage × Found

-- the state after a step
abbrev pub after_step : Option Step → ℕ → Found → Option State
after_step None b f = None
after_step (Some step) b f = Some (step.0, after_act step.1 b f)

-- what bytes lead to from a state; None where one of them isn't had there
abbrev pub run : State → List ℕ → Option State
run state [] = Some state
run state (b ∷ bytes) = option_and_then (λ next. run next bytes) (after_step (next_of state.0 b) b state.1)

-- before the first byte
abbrev pub at_start : State
at_start = (stages.Between, record { groups = []; interval = None; names = []; name = [] })
