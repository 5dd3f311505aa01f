-- How the first line that a recording refuses is found: what each pass is doing stands in one table, and each image is asked by itself.
use Rattle.std.specs.Prelude.{◌≡◌, ℕ, zero, suc, ◌+◌, ◌*◌, ◌^◌, ◌<◌, ◌≤◌, ◌==◌, Bool, true, false, ◌&&◌, ◌||◌, nat_lt, if◌then◌else◌, List, length, take, slice_get, slice_index_or, Option, Some, None}
use Rattle.std.specs.List.{list_any}
use Rattle.run_script.specs.declared.pass_stages.Doing.{Doing}
use Rattle.run_script.specs.declared.pass_stages.Doing.TheVariants as doings
use Rattle.run_script.specs.declared.script.Line.{Line}
use Rattle.run_script.specs.declared.script.Line.TheVariants as lines
use Rattle.run_script.specs.declared.script.RegionRow.{RegionRow}
use Rattle.run_script.specs.declared.script.Script.{Script}
use Rattle.run_script.specs.Recording.{place_of, lines_of, Stage, stage_behind, comes_at, image_words, slot_in, takes_swap, takes_add, fits_in}
use Rattle.run_script.specs.Rules.{AtEach}

-- so many are right, and the next one isn't, if there is one
pub record IsFirst (right : ℕ → Bool) (last n : ℕ) : Type 0 where
  pub within : n ≤ last
  pub before : (k : ℕ) → k < n → right k ≡ true
  pub stops : n < last → right n ≡ false

-- a test of the line of a step, if the step is there
abbrev pub line_passes : (Line → Bool) → Option (ℕ × Line) → Bool
line_passes test None = true
line_passes test (Some step) = test step.1

abbrev pub passes_at : (Line → Bool) → List (ℕ × Line) → ℕ → Bool
passes_at test steps k = line_passes test (slice_get steps k)

-- Passes

-- what a pass is doing, as the rule says it
abbrev pub stage_of : Doing → Stage
stage_of doings.Idle = Stage.idle
stage_of doings.Attached = Stage.attached
stage_of doings.Changing = Stage.changing

-- nothing
abbrev pub is_resting : Doing → Bool
is_resting doings.Idle = true
is_resting _ = false

-- where a pass stands in the table
abbrev pub place_in : ℕ → ℕ → ℕ
place_in region pass = region * 256 + pass

abbrev pub stage_at : List Doing → ℕ → ℕ → Stage
stage_at doing region pass = stage_of (slice_index_or doing (place_in region pass) doings.Idle)

-- the table tells what each pass is doing behind these steps
pub record Tells (before : List (ℕ × Line)) (doing : List Doing) : Type 0 where
  pub size : length doing ≡ 16384
  pub each : (region pass : ℕ) → region < 64 → pass < 256 → stage_at doing region pass ≡ stage_behind Stage.idle (lines_of region pass before)

-- a place is one of the table's
abbrev pub IsNear : Option (ℕ × ℕ) → Type 0
IsNear None = Unit {0}
IsNear (Some place) = (place.0 < 64) × (place.1 < 256)

abbrev pub AreNear : List (ℕ × Line) → Type 0
AreNear steps = AtEach (λ step. IsNear (place_of step.1)) steps

-- a step may come behind the ones before it, if it is there
abbrev pub comes_behind : List (ℕ × Line) → Option (ℕ × Line) → Bool
comes_behind before None = true
comes_behind before (Some step) = comes_at before step.1 (place_of step.1)

abbrev pub comes : List (ℕ × Line) → ℕ → Bool
comes steps k = comes_behind (take k steps) (slice_get steps k)

-- Images

-- a step begins a region's change to an image
abbrev pub begins : ℕ → ℕ → Line → Bool
begins region image (lines.Begin other pass at moment) = other == region && at == image
begins region image line = false

-- a region that is told is this one
abbrev pub is_place : Option ℕ → ℕ → Bool
is_place None region = false
is_place (Some found) region = found == region

abbrev pub opens : ℕ → Option RegionRow → Bool
opens image None = false
opens image (Some row) = row.image == image

-- a region may hold an image
abbrev pub may_hold : Script → ℕ → ℕ → Bool
may_hold script image region =
    opens image (slice_get script.regions region) || list_any (λ step. begins region image step.1) script.steps

-- flags of regions
abbrev pub is_held : List Bool → ℕ → Bool
is_held held region = slice_index_or held region false

-- they tell the regions that may hold an image
pub record TellsHeld (script : Script) (image : ℕ) (held : List Bool) : Type 0 where
  pub size : length held ≡ 64
  pub each : (region : ℕ) → region < 64 → is_held held region ≡ may_hold script image region

-- what a line names is in an image, if its region may hold it
abbrev pub suits_in : (ℕ → Bool) → List ℕ → Line → Bool
suits_in holds words (lines.Swap region pass item instance value) = if holds region then takes_swap words (slot_in words item instance) value else true
suits_in holds words (lines.Add region pass item instance number) = if holds region then takes_add (slot_in words item instance) else true
suits_in holds words line = true

abbrev pub suits_image : Script → ℕ → Line → Bool
suits_image script image line = suits_in (may_hold script image) (image_words script.images image) line

-- the image of a change fits into its region, and the change's moment is below 2^63
abbrev pub fits_room : Script → Line → Bool
fits_room script (lines.Begin region pass image moment) = fits_in (length (image_words script.images image)) (slice_get script.regions region) && nat_lt moment (2 ^ 63)
fits_room script line = true

-- a line fits, and what it names is in each image before this one that its region may hold
abbrev pub right_with : Script → ℕ → Line → Bool
right_with script zero line = fits_room script line
right_with script (suc n) line = right_with script n line && suits_image script n line
