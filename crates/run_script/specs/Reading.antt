-- What a whole script says: its lines one after another, or the first fault in their order. A line's number counts from 1.
use Rattle.std.specs.Prelude.{◌≡◌, ℕ, ◌+◌, Bool, ◌&&◌, not, nat_le, if◌then◌else◌, min, List, [], ◌∷◌, ◌++◌, length, Option, Some, None, is_some, Result, Ok, Err, codes, bytes_eq}
use Rattle.mmv_layout.specs.declared.rows.Layout.{Layout}
use Rattle.text_lines.specs.LayoutLines.{line_of}
use Rattle.text_lines.specs.Lines.{lines_of, without_feed}
use Rattle.mmv_writer.specs.declared.line_fault.LineFault.{LineFault}
use Rattle.mmv_writer.specs.declared.line_fault.LineFault.TheVariants.{Grammar, Condition, Build}
use Rattle.mmv_writer.specs.declared.fault.BuildFault.TheVariants.{TooLarge}
use Rattle.mmv_writer.specs.Reading.{with_head, with_said}
use Rattle.mmv_writer.specs.Spelling.{image_words}
use Rattle.run_script.specs.declared.lines.HeadLine.{HeadLine}
use Rattle.run_script.specs.declared.lines.HeadLine.TheVariants as heads
use Rattle.run_script.specs.HeadLines.{head_line}
use Rattle.run_script.specs.StepLines.{step_line}
use Rattle.run_script.specs.declared.fault.ScriptLineFault.{ScriptLineFault}
use Rattle.run_script.specs.declared.fault.ScriptLineFault.TheVariants.{Line}
use Rattle.run_script.specs.declared.fault.ScriptFault.{ScriptFault}
use Rattle.run_script.specs.declared.fault.ReadScriptError.{ReadScriptError}
use Rattle.run_script.specs.declared.fault.ReadScriptError.TheVariants as ends
use Rattle.run_script.specs.declared.fault.LineStop.{LineStop}
use Rattle.run_script.specs.declared.fault.LineStop.TheVariants as stops
use Rattle.run_script.specs.declared.script.Script.{Script}
use Rattle.run_script.specs.declared.said.Said.{Said}
use Rattle.run_script.specs.declared.said.Stage.{Stage}
use Rattle.run_script.specs.declared.said.Stage.TheVariants as stages
use Rattle.run_script.specs.Said.{nothing}
use Rattle.run_script.specs.Names.{image_named}
use Rattle.pcp_base.specs.Names.{spells_component}
use Rattle.run_script.specs.Heads.{with_region, with_group, statement_of}
use Rattle.run_script.specs.Steps.{with_step}

-- where a line stands, and what the lines before it say
abbrev pub Point : Type 0
Point = Stage × Said

-- the head goes on behind what a line says, or its fault
abbrev pub in_head : Result Said ScriptLineFault → Result Point ScriptLineFault
in_head (Ok said) = Ok (stages.Head, said)
in_head (Err fault) = Err fault

-- steps go on likewise
abbrev pub in_steps : Result Said ScriptLineFault → Result Point ScriptLineFault
in_steps (Ok said) = Ok (stages.Steps, said)
in_steps (Err fault) = Err fault

-- an image of this name may begin: the name is a component that no image has
abbrev pub may_name : Said → List ℕ → Bool
may_name said name = spells_component name && not (is_some (image_named said.images name))

-- a line of the head between images
unfoldable pub with_head_line : ℕ → Said → List ℕ → Option HeadLine → Result Point ScriptLineFault
with_head_line number said line None = Err (Line Grammar)
with_head_line number said line (Some (heads.Image name)) =
    if may_name said name then Ok (stages.Opening name, said) else Err (Line Condition)
with_head_line number said line (Some (heads.Region file image capacity passes)) =
    in_head (with_region number said file image capacity passes)
with_head_line number said line (Some heads.Log) = in_head (with_group said (statement_of line))
with_head_line number said line (Some heads.Start) = Ok (stages.Steps, said)

-- an image's lines so far, or their fault
abbrev pub in_image : List ℕ → Said → Result Layout LineFault → Result Point ScriptLineFault
in_image name said (Ok draft) = Ok (stages.Image name draft, said)
in_image name said (Err fault) = Err (Line fault)

-- the image is whole, if it has at most 65,536 words
unfoldable pub with_image : List ℕ → Said → List ℕ → Result Point ScriptLineFault
with_image name said words =
    if nat_le (length words) 65536 then Ok (stages.Head, record said { images = said.images ++ (name, words) ∷ [] }) else
    Err (Line (Build (TooLarge (min (length words) 18446744073709551615))))

-- a line among those of an image
unfoldable pub with_image_line : List ℕ → Layout → Said → List ℕ → Result Point ScriptLineFault
with_image_line name draft said line =
    if bytes_eq line (codes "end") then with_image name said (image_words draft) else
    in_image name said (with_said draft (line_of line))

-- what a line without its line feed makes of what was said
unfoldable pub with_script_line : ℕ → Point → List ℕ → Result Point ScriptLineFault
with_script_line number (stages.Head, said) line = with_head_line number said line (head_line line)
with_script_line number (stages.Opening name, said) line = in_image name said (with_head (line_of line))
with_script_line number (stages.Image name draft, said) line = with_image_line name draft said line
with_script_line number (stages.Steps, said) line = in_steps (with_step number said (step_line line))

-- a last line without its line feed is none
abbrev pub with_full_line : ℕ → Point → Option (List ℕ) → Result Point ScriptLineFault
with_full_line number p None = Err (Line Grammar)
with_full_line number p (Some line) = with_script_line number p line

abbrev pub and_then : {X : Type 0} → Result Point ScriptLineFault → ℕ → (Point → Result X ScriptFault) → Result X ScriptFault
and_then (Ok p) number next = next p
and_then (Err fault) number next = Err (record { line = number; fault = fault })

-- lines, of which the first has this number
unfoldable pub with_script_lines : List (List ℕ) → ℕ → Point → Result Point ScriptFault
with_script_lines [] number p = Ok p
with_script_lines (line ∷ lines) number p =
    and_then (with_full_line number p (without_feed line)) number (λ later. with_script_lines lines (number + 1) later)

-- a script as what was said
abbrev pub script_from : Said → Script
script_from said = record { images = said.images; regions = said.regions; config = record { groups = said.groups }; steps = said.steps }

-- a script has the line `start`, and ends behind it
abbrev pub ended_at : ℕ → Point → Result Script ScriptFault
ended_at after (stages.Steps, said) = Ok (script_from said)
ended_at after (stages.Head, said) = Err (record { line = after; fault = Line Grammar })
ended_at after (stages.Opening name, said) = Err (record { line = after; fault = Line Grammar })
ended_at after (stages.Image name draft, said) = Err (record { line = after; fault = Line Grammar })

abbrev pub whole : ℕ → Result Point ScriptFault → Result Script ScriptFault
whole after (Ok p) = ended_at after p
whole after (Err fault) = Err fault

-- the script of bytes
unfoldable pub script_of : List ℕ → Result Script ScriptFault
script_of bytes = whole (length (lines_of bytes) + 1) (with_script_lines (lines_of bytes) 1 (stages.Head, nothing))

-- a line leads here, or has this fault, unless memory ran out
abbrev pub Goes : Result Point ScriptLineFault → Said → Result Stage LineStop → Type 0
Goes found after (Ok stage) = found ≡ Ok (stage, after)
Goes found after (Err (stops.Fault fault)) = found ≡ Err fault
Goes found after (Err stops.NoMemory) = Unit {0}

-- lines lead here, and the line after the last has this number, or the first fault is told
abbrev pub Leads : List (List ℕ) → Said → Result (Stage × ℕ) ReadScriptError → Type 0
Leads lines after (Ok end) = (with_script_lines lines 1 (stages.Head, nothing) ≡ Ok (end.0, after)) × (end.1 ≡ length lines + 1)
Leads lines after (Err (ends.Fault fault)) = with_script_lines lines 1 (stages.Head, nothing) ≡ Err fault
Leads lines after (Err ends.NoMemory) = Unit {0}

-- what was answered is what the bytes say, unless memory ran out
abbrev pub Answers : Result Script ScriptFault → Result Script ReadScriptError → Type 0
Answers found (Ok script) = found ≡ Ok script
Answers found (Err (ends.Fault fault)) = found ≡ Err fault
Answers found (Err ends.NoMemory) = Unit {0}
