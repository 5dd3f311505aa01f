-- The steps of a script: a word, and behind it the parts that this step has, each behind one space.
use Rattle.std.specs.Prelude.{ℕ, ◌&&◌, nat_lt, if◌then◌else◌, List, Option, Some, None, codes, bytes_eq}
use Rattle.pcp_base.specs.Time.{Moment}
use Rattle.text_lines.specs.Numbers.{◌>>=◌, number32, number64, whole_number}
use Rattle.text_lines.specs.Words.{first_word, behind_word, take_space, take_as, whole_line, name_of}
use Rattle.run_script.specs.LineWords.{take_place, take_slot, take_value}
use Rattle.run_script.specs.declared.lines.Place.{Place}
use Rattle.run_script.specs.declared.lines.StepLine.{StepLine}
use Rattle.run_script.specs.declared.lines.StepLine.TheVariants as steps

-- a line that names a pass alone
unfoldable pub place_line : List ℕ → Option Place
place_line bytes = do
  place ← take_place bytes
  whole_line place.1 place.0

unfoldable pub swap_line : List ℕ → Option StepLine
swap_line bytes = do
  place ← take_place bytes
  slot ← take_slot place.1
  given ← take_value slot.1
  Some (steps.Swap place.0 slot.0 given)

unfoldable pub add_line : List ℕ → Option StepLine
add_line bytes = do
  place ← take_place bytes
  slot ← take_slot place.1
  s ← take_space slot.1
  number ← whole_number s.1
  Some (steps.Add place.0 slot.0 number)

unfoldable pub begin_line : List ℕ → Option StepLine
begin_line bytes = do
  place ← take_place bytes
  image ← take_as name_of place.1
  moment ← take_as number64 image.1
  whole_line moment.1 (steps.Begin place.0 image.0 moment.0)

unfoldable pub word_line : List ℕ → Option StepLine
word_line bytes = do
  place ← take_place bytes
  index ← take_as number32 place.1
  whole_line index.1 (steps.Word place.0 index.0)

-- seconds below 2^31 and microseconds below a million
abbrev pub stamp_of : ℕ → ℕ → Option Moment
stamp_of sec usec =
    if nat_lt sec 2147483648 && nat_lt usec 1000000 then Some (record { sec = sec; usec = usec }) else None

unfoldable pub tick_line : List ℕ → Option StepLine
tick_line bytes = do
  sec ← take_as number32 bytes
  usec ← take_as number32 sec.1
  stamp ← stamp_of sec.0 usec.0
  whole_line usec.1 (steps.Tick stamp)

unfoldable pub flush_line : List ℕ → Option StepLine
flush_line bytes = whole_line bytes steps.Flush

-- lines of passes that are attached or change a region
unfoldable pub store_line : List ℕ → List ℕ → Option StepLine
store_line word left =
    if bytes_eq word (codes "attach") then place_line left >>= (λ p. Some (steps.Attach p)) else
    if bytes_eq word (codes "detach") then place_line left >>= (λ p. Some (steps.Detach p)) else
    if bytes_eq word (codes "swap") then swap_line left else
    if bytes_eq word (codes "add") then add_line left else
    if bytes_eq word (codes "begin") then begin_line left else
    if bytes_eq word (codes "step") then place_line left >>= (λ p. Some (steps.Step p)) else
    if bytes_eq word (codes "finish") then place_line left >>= (λ p. Some (steps.Finish p)) else None

-- lines of passes that read, and of the logger
unfoldable pub other_line : List ℕ → List ℕ → Option StepLine
other_line word left =
    if bytes_eq word (codes "load") then place_line left >>= (λ p. Some (steps.Load p)) else
    if bytes_eq word (codes "word") then word_line left else
    if bytes_eq word (codes "done") then place_line left >>= (λ p. Some (steps.Done p)) else
    if bytes_eq word (codes "tick") then tick_line left else
    if bytes_eq word (codes "flush") then flush_line left else store_line word left

-- The step of these bytes, which are without their line feed.
unfoldable pub step_line : List ℕ → Option StepLine
step_line bytes = other_line (first_word bytes) (behind_word bytes)
