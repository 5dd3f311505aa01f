-- What a script keeps whose passes act beside each other, as in a recording: its steps store and change alone, each pass's own lines
-- go one with another, and each image that a region may hold has what they name.
use Rattle.std.specs.Prelude.{ℕ, ℤ, negsuc, ◌+◌, ◌^◌, ◌==◌, Bool, true, false, ◌&&◌, ◌||◌, nat_le, nat_lt, if◌then◌else◌, List, [], ◌∷◌, ◌++◌, length, find, bytes_eq, slice_get, Option, Some, None, unwrap_or}
use Rattle.std.specs.List.{list_all, list_any}
use Rattle.pcp_base.specs.declared.kind.Kind.{Kind}
use Rattle.pcp_base.specs.declared.kind.Kind.TheVariants as kinds
use Rattle.mmv_layout.specs.Contents.{first_generation}
use Rattle.mmv_layout.specs.declared.rows.Slot.{Slot}
use Rattle.mmv_layout.specs.Form.{is_slot_of, slots_of, texts_of}
use Rattle.text_lines.specs.Contents.{number_as}
use Rattle.run_script.specs.declared.lines.Given.{Given}
use Rattle.run_script.specs.declared.lines.Given.TheVariants as given
use Rattle.run_script.specs.declared.script.Line.{Line}
use Rattle.run_script.specs.declared.script.Line.TheVariants as lines
use Rattle.run_script.specs.declared.script.RegionRow.{RegionRow}
use Rattle.run_script.specs.declared.script.Script.{Script}

-- Own lines

-- the region and the pass that a step names; a tick and a flush name none
abbrev pub place_of : Line → Option (ℕ × ℕ)
place_of (lines.Attach region pass) = Some (region, pass)
place_of (lines.Detach region pass) = Some (region, pass)
place_of (lines.Swap region pass item instance value) = Some (region, pass)
place_of (lines.Add region pass item instance number) = Some (region, pass)
place_of (lines.Begin region pass image moment) = Some (region, pass)
place_of (lines.Step region pass) = Some (region, pass)
place_of (lines.Finish region pass) = Some (region, pass)
place_of (lines.Load region pass) = Some (region, pass)
place_of (lines.Word region pass index) = Some (region, pass)
place_of (lines.Done region pass) = Some (region, pass)
place_of (lines.Tick stamp) = None
place_of lines.Flush = None

abbrev pub is_at : ℕ → ℕ → Option (ℕ × ℕ) → Bool
is_at region pass None = false
is_at region pass (Some place) = place.0 == region && place.1 == pass

-- the lines of a pass, in order
abbrev pub lines_of : ℕ → ℕ → List (ℕ × Line) → List Line
lines_of region pass [] = []
lines_of region pass (step ∷ steps) = if is_at region pass (place_of step.1) then step.1 ∷ lines_of region pass steps else lines_of region pass steps

-- what a pass is doing
pub data Stage : Type 0 where
  idle : Stage
  attached : Stage
  changing : Stage

-- what it does behind a line of its own
abbrev pub stage_after : Line → Stage
stage_after (lines.Attach region pass) = Stage.attached
stage_after (lines.Swap region pass item instance value) = Stage.attached
stage_after (lines.Add region pass item instance number) = Stage.attached
stage_after (lines.Begin region pass image moment) = Stage.changing
stage_after (lines.Step region pass) = Stage.changing
stage_after _ = Stage.idle

abbrev pub stage_behind : Stage → List Line → Stage
stage_behind stage [] = stage
stage_behind stage (line ∷ more) = stage_behind (stage_after line) more

-- it does nothing, is attached, or changes the layout
abbrev pub is_idle : Stage → Bool
is_idle Stage.idle = true
is_idle _ = false

abbrev pub is_attached : Stage → Bool
is_attached Stage.attached = true
is_attached _ = false

abbrev pub is_changing : Stage → Bool
is_changing Stage.changing = true
is_changing _ = false

-- a line of its own may come there; the lines that read, ticks and flushes never may
abbrev pub may_come : Stage → Line → Bool
may_come stage (lines.Attach region pass) = is_idle stage
may_come stage (lines.Detach region pass) = is_attached stage
may_come stage (lines.Swap region pass item instance value) = is_attached stage
may_come stage (lines.Add region pass item instance number) = is_attached stage
may_come stage (lines.Begin region pass image moment) = is_idle stage
may_come stage (lines.Step region pass) = is_changing stage
may_come stage (lines.Finish region pass) = is_changing stage
may_come stage line = false

abbrev pub comes_at : List (ℕ × Line) → Line → Option (ℕ × ℕ) → Bool
comes_at before line None = false
comes_at before line (Some place) = may_come (stage_behind Stage.idle (lines_of place.0 place.1 before)) line

-- Images

-- the words of an image of a script; of one that isn't there none
abbrev pub words_or_none : Option (List ℕ × List ℕ) → List ℕ
words_or_none None = []
words_or_none (Some image) = image.1

abbrev pub image_words : List (List ℕ × List ℕ) → ℕ → List ℕ
image_words images at = words_or_none (slice_get images at)

abbrev pub with_change : List (List ℕ × List ℕ) → ℕ → Line → List (List ℕ) → List (List ℕ)
with_change images region (lines.Begin other pass image moment) held = if other == region then image_words images image ∷ held else held
with_change images region line held = held

-- the images to which a region's changes lead, in order
abbrev pub changed_to : List (List ℕ × List ℕ) → ℕ → List (ℕ × Line) → List (List ℕ)
changed_to images region [] = []
changed_to images region (step ∷ steps) = with_change images region step.1 (changed_to images region steps)

abbrev pub opened_on : List (List ℕ × List ℕ) → Option RegionRow → List (List ℕ)
opened_on images None = []
opened_on images (Some row) = image_words images row.image ∷ []

-- the images that a region may hold: the one that it opens on, and those to which it is changed
abbrev pub held_by : Script → ℕ → List (List ℕ)
held_by script region = opened_on script.images (slice_get script.regions region) ++ changed_to script.images region script.steps

-- the slot of an item and an instance; without an instance the metric has no domain
abbrev pub slot_in : List ℕ → ℕ → Option ℤ → Option Slot
slot_in words item instance = find (is_slot_of item (unwrap_or instance (negsuc 0))) (slots_of words)

-- kinds whose value words hold numbers
abbrev pub holds_number : Kind → Bool
holds_number kinds.I32 = true
holds_number kinds.U32 = true
holds_number kinds.I64 = true
holds_number kinds.U64 = true
holds_number _ = false

abbrev pub is_some : {A : Type 0} → Option A → Bool
is_some None = false
is_some (Some x) = true

-- a number is in the kind's range, or a text is a string of the image
abbrev pub has_text : Kind → List ℕ → List ℕ → Bool
has_text kinds.Text words text = list_any (λ found. bytes_eq found.1 text) (texts_of words)
has_text _ words text = false

abbrev pub takes_given : List ℕ → Kind → Given → Bool
takes_given words kind (given.Number n) = is_some (number_as kind n)
takes_given words kind (given.Choice text) = has_text kind words text

-- the slot is there, and takes the value; or it is there, and holds a number
abbrev pub takes_swap : List ℕ → Option Slot → Given → Bool
takes_swap words None value = false
takes_swap words (Some slot) value = takes_given words slot.kind value

abbrev pub takes_add : Option Slot → Bool
takes_add None = false
takes_add (Some slot) = holds_number slot.kind

abbrev pub fits_in : ℕ → Option RegionRow → Bool
fits_in need None = false
fits_in need (Some row) = nat_le need row.capacity

-- what a line names is in each image that its region may hold; the image of a change fits into the region, and its moment is below 2^63
abbrev pub suits : Script → Line → Bool
suits script (lines.Swap region pass item instance value) = list_all (λ words. takes_swap words (slot_in words item instance) value) (held_by script region)
suits script (lines.Add region pass item instance number) = list_all (λ words. takes_add (slot_in words item instance)) (held_by script region)
suits script (lines.Begin region pass image moment) = fits_in (length (image_words script.images image)) (slice_get script.regions region) && nat_lt moment (2 ^ 63)
suits script line = true

-- The first fault

-- a region opens under a generation below 2^63
abbrev pub opens_low : Script → RegionRow → Bool
opens_low script row = nat_lt (first_generation (image_words script.images row.image)) (2 ^ 63)

abbrev pub high_region : Script → List RegionRow → Option ℕ
high_region script [] = None
high_region script (row ∷ rows) = if opens_low script row then high_region script rows else Some row.line

-- the first step that may not come where it stands, behind these
abbrev pub wrong_step : Script → List (ℕ × Line) → List (ℕ × Line) → Option ℕ
wrong_step script before [] = None
wrong_step script before (step ∷ steps) =
    if comes_at before step.1 (place_of step.1) && suits script step.1 then wrong_step script (before ++ step ∷ []) steps else Some step.0

-- a pass has a further line
abbrev pub has_more : Option (ℕ × ℕ) → List (ℕ × Line) → Bool
has_more None steps = false
has_more (Some place) steps = list_any (λ step. is_at place.0 place.1 (place_of step.1)) steps

-- no pass is left at work
abbrev pub all_rest : List (ℕ × Line) → Bool
all_rest [] = true
all_rest (step ∷ steps) = (is_idle (stage_after step.1) || has_more (place_of step.1) steps) && all_rest steps

abbrev pub line_behind : List (ℕ × Line) → ℕ
line_behind [] = 0
line_behind (step ∷ []) = step.0 + 1
line_behind (step ∷ other ∷ steps) = line_behind (other ∷ steps)

abbrev pub unrest_line : List (ℕ × Line) → Option ℕ
unrest_line steps = if all_rest steps then None else Some (line_behind steps)

abbrev pub or_else : Option ℕ → Option ℕ → Option ℕ
or_else None other = other
or_else (Some line) other = Some line

-- the first line of a script that a recording refuses, if there is one: a region's, a step's, or the one behind the last
abbrev pub refused_line : Script → Option ℕ
refused_line script = or_else (high_region script script.regions) (or_else (wrong_step script [] script.steps) (unrest_line script.steps))
