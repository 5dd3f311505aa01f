-- The lines of a script's head: a word, and behind it the parts that this line has, each behind one space.
use Rattle.std.specs.Prelude.{ℕ, if◌then◌else◌, List, Option, Some, None, codes, bytes_eq}
use Rattle.text_lines.specs.Numbers.{◌>>=◌, number_of}
use Rattle.text_lines.specs.Words.{first_word, behind_word, take_as, whole_line, name_of}
use Rattle.run_script.specs.declared.lines.HeadLine.{HeadLine}
use Rattle.run_script.specs.declared.lines.HeadLine.TheVariants as lines

unfoldable pub image_line : List ℕ → Option HeadLine
image_line bytes = do
  name ← take_as name_of bytes
  whole_line name.1 (lines.Image name.0)

-- a region's FILE, the image that it opens on, its capacity in words and its number of passes
unfoldable pub region_line : List ℕ → Option HeadLine
region_line bytes = do
  file ← take_as name_of bytes
  image ← take_as name_of file.1
  capacity ← take_as number_of image.1
  passes ← take_as number_of capacity.1
  whole_line passes.1 (lines.Region file.0 image.0 capacity.0 passes.0)

unfoldable pub start_line : List ℕ → Option HeadLine
start_line bytes = whole_line bytes lines.Start

-- The line of these bytes, which are without their line feed.
unfoldable pub head_line : List ℕ → Option HeadLine
head_line bytes =
    if bytes_eq (first_word bytes) (codes "image") then image_line (behind_word bytes) else
    if bytes_eq (first_word bytes) (codes "region") then region_line (behind_word bytes) else
    if bytes_eq (first_word bytes) (codes "log") then Some lines.Log else
    if bytes_eq (first_word bytes) (codes "start") then start_line (behind_word bytes) else None
