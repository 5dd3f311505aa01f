-- The parts of a script's lines.
use Rattle.std.specs.Prelude.{if◌then◌else◌, ℕ, ℤ, pos, List, Option, Some}
use Rattle.text_lines.specs.Numbers.{◌>>=◌, below, number_of, number32, whole_number}
use Rattle.text_lines.specs.Words.{name_of, take_as, take_space, optional, starts_quoted, text_in_quotes, whole_line}
use Rattle.run_script.specs.declared.lines.Place.{Place}
use Rattle.run_script.specs.declared.lines.Slot.{Slot}
use Rattle.run_script.specs.declared.lines.Given.{Given}
use Rattle.run_script.specs.declared.lines.Given.TheVariants as given

-- the number of an instance, which isn't negative and has 31 bits
unfoldable pub instance_of : List ℕ → Option ℤ
instance_of word = below 2147483648 (number_of word) >>= (λ n. Some (pos n))

-- a region's FILE and the number of a pass
unfoldable pub take_place : List ℕ → Option (Place × List ℕ)
take_place bytes = do
  file ← take_as name_of bytes
  pass ← take_as number_of file.1
  Some (record { file = file.0; pass = pass.0 }, pass.1)

-- an item, and an instance or `-`
unfoldable pub take_slot : List ℕ → Option (Slot × List ℕ)
take_slot bytes = do
  item ← take_as number32 bytes
  instance ← take_as (optional instance_of) item.1
  Some (record { item = item.0; instance = instance.0 }, instance.1)

unfoldable pub quoted_value : List ℕ → Option Given
quoted_value bytes = do
  text ← text_in_quotes bytes
  whole_line text.1 (given.Choice text.0)

unfoldable pub number_value : List ℕ → Option Given
number_value bytes = do
  n ← whole_number bytes
  Some (given.Number n)

-- the last part of a line: a quoted text or a whole number
unfoldable pub take_value : List ℕ → Option Given
take_value bytes = do
  s ← take_space bytes
  if starts_quoted s.1 then quoted_value s.1 else number_value s.1
