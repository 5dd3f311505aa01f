-- What the steps of a script say: the regions, passes and images that they name.
use Rattle.std.specs.Prelude.{ℕ, ℤ, nat_lt, if◌then◌else◌, List, [], ◌∷◌, ◌++◌, slice_get, Option, Some, None, Result, Ok, Err, Bool, true, bytes_eq}
use Rattle.std.specs.List.{position}
use Rattle.pcp_base.specs.Time.{Moment, microseconds}
use Rattle.mmv_writer.specs.declared.line_fault.LineFault.TheVariants.{Grammar, Condition}
use Rattle.run_script.specs.declared.lines.Place.{Place}
use Rattle.run_script.specs.declared.lines.Slot.{Slot}
use Rattle.run_script.specs.declared.lines.Given.{Given}
use Rattle.run_script.specs.declared.lines.StepLine.{StepLine}
use Rattle.run_script.specs.declared.lines.StepLine.TheVariants as steps
use Rattle.run_script.specs.declared.fault.ScriptLineFault.{ScriptLineFault}
use Rattle.run_script.specs.declared.fault.ScriptLineFault.TheVariants as faults
use Rattle.run_script.specs.declared.script.RegionRow.{RegionRow}
use Rattle.run_script.specs.declared.script.Line.{Line}
use Rattle.run_script.specs.declared.script.Line.TheVariants as lines
use Rattle.run_script.specs.declared.said.Said.{Said}
use Rattle.run_script.specs.Names.{image_named}

-- a pass of the region that stands here, where the region has it
abbrev pub pass_below : ℕ → Option RegionRow → ℕ → Option (ℕ × ℕ)
pass_below at None pass = None
pass_below at (Some row) pass = if nat_lt pass row.passes then Some (at, pass) else None

abbrev pub pass_at : List RegionRow → Option ℕ → ℕ → Option (ℕ × ℕ)
pass_at regions None pass = None
pass_at regions (Some at) pass = pass_below at (slice_get regions at) pass

-- the position of the region with a FILE, and the pass, where it has it
abbrev pub pass_of : List RegionRow → Place → Option (ℕ × ℕ)
pass_of regions place = pass_at regions (position (λ row. bytes_eq row.file place.file) regions) place.pass

-- The steps of a pass, where region and pass are there.

abbrev pub attaches : Option (ℕ × ℕ) → Option Line
attaches None = None
attaches (Some p) = Some (lines.Attach p.0 p.1)

abbrev pub detaches : Option (ℕ × ℕ) → Option Line
detaches None = None
detaches (Some p) = Some (lines.Detach p.0 p.1)

abbrev pub swaps : Option (ℕ × ℕ) → Slot → Given → Option Line
swaps None slot given = None
swaps (Some p) slot given = Some (lines.Swap p.0 p.1 slot.item slot.instance given)

abbrev pub adds : Option (ℕ × ℕ) → Slot → ℤ → Option Line
adds None slot number = None
adds (Some p) slot number = Some (lines.Add p.0 p.1 slot.item slot.instance number)

-- a change to an image, where the image is there too
abbrev pub changes_to : ℕ × ℕ → Option ℕ → ℕ → Option Line
changes_to p None moment = None
changes_to p (Some image) moment = Some (lines.Begin p.0 p.1 image moment)

abbrev pub begins : Option (ℕ × ℕ) → Option ℕ → ℕ → Option Line
begins None image moment = None
begins (Some p) image moment = changes_to p image moment

abbrev pub steps_on : Option (ℕ × ℕ) → Option Line
steps_on None = None
steps_on (Some p) = Some (lines.Step p.0 p.1)

abbrev pub finishes : Option (ℕ × ℕ) → Option Line
finishes None = None
finishes (Some p) = Some (lines.Finish p.0 p.1)

abbrev pub loads : Option (ℕ × ℕ) → Option Line
loads None = None
loads (Some p) = Some (lines.Load p.0 p.1)

abbrev pub reads : Option (ℕ × ℕ) → ℕ → Option Line
reads None index = None
reads (Some p) index = Some (lines.Word p.0 p.1 index)

abbrev pub ends : Option (ℕ × ℕ) → Option Line
ends None = None
ends (Some p) = Some (lines.Done p.0 p.1)

-- a stamp is after the last tick's, if there was one
abbrev pub is_later : Option Moment → Moment → Bool
is_later None stamp = true
is_later (Some last) stamp = nat_lt (microseconds last) (microseconds stamp)

-- a tick is later than the one before
abbrev pub ticks : Option Moment → Moment → Option Line
ticks last stamp = if is_later last stamp then Some (lines.Tick stamp) else None

-- a step whose region, pass and image are there
unfoldable pub step_of : Said → StepLine → Option Line
step_of said (steps.Attach place) = attaches (pass_of said.regions place)
step_of said (steps.Detach place) = detaches (pass_of said.regions place)
step_of said (steps.Swap place slot given) = swaps (pass_of said.regions place) slot given
step_of said (steps.Add place slot number) = adds (pass_of said.regions place) slot number
step_of said (steps.Begin place image moment) = begins (pass_of said.regions place) (image_named said.images image) moment
step_of said (steps.Step place) = steps_on (pass_of said.regions place)
step_of said (steps.Finish place) = finishes (pass_of said.regions place)
step_of said (steps.Load place) = loads (pass_of said.regions place)
step_of said (steps.Word place index) = reads (pass_of said.regions place) index
step_of said (steps.Done place) = ends (pass_of said.regions place)
step_of said (steps.Tick stamp) = ticks said.last stamp
step_of said steps.Flush = Some lines.Flush

-- the last tick's stamp behind a step
abbrev pub last_behind : Option Moment → Line → Option Moment
last_behind last (lines.Tick stamp) = Some stamp
last_behind last line = last

-- a step more, if it is one
abbrev pub with_line : ℕ → Said → Option Line → Result Said ScriptLineFault
with_line number said None = Err (faults.Line Condition)
with_line number said (Some line) =
    Ok (record said { steps = said.steps ++ (number, line) ∷ []; last = last_behind said.last line })

-- what bytes that are a step, or none, say
unfoldable pub with_step : ℕ → Said → Option StepLine → Result Said ScriptLineFault
with_step number said None = Err (faults.Line Grammar)
with_step number said (Some step) = with_line number said (step_of said step)
