-- The text of the script that a number makes: the layouts of its images as layouts are written, the lines of its regions
-- and of its group, and a line for each step.
use Rattle.std.specs.Prelude.{ℕ, ◌==◌, Bool, true, false, if◌then◌else◌, List, [], ◌∷◌, ◌++◌, codes, decimal}
use Rattle.std.specs.List.{flat_map}
use Rattle.text_lines.specs.Spelling.{number_part, int_part, text_part, optional_int_part}
use Rattle.text_lines.specs.Whole.{layout_text}
use Rattle.run_script.specs.declared.lines.Given.{Given}
use Rattle.run_script.specs.declared.lines.Given.TheVariants as given
use Rattle.run_script.specs.declared.script.Line.{Line}
use Rattle.run_script.specs.declared.script.Line.TheVariants as lines
use Rattle.run_script.specs.Generated.{layout, all_steps}

-- a line with its line feed
abbrev pub with_feed : List ℕ → List ℕ
with_feed line = line ++ 10 ∷ []

-- a region's FILE, a pass, and what stands behind them
abbrev pub pass_part : ℕ → ℕ → List ℕ → List ℕ
pass_part region pass more = codes " r" ++ (decimal region ++ (number_part pass ++ more))

-- the name of an image behind a space
abbrev pub image_part : ℕ → List ℕ
image_part image = if image == 3 then codes " r0late" else codes " r" ++ decimal image

abbrev pub value_part : Given → List ℕ
value_part (given.Number n) = int_part n
value_part (given.Choice text) = text_part text

-- a step as a line, which is without its line feed
unfoldable pub step_text : Line → List ℕ
step_text (lines.Attach region pass) = codes "attach" ++ pass_part region pass []
step_text (lines.Detach region pass) = codes "detach" ++ pass_part region pass []
step_text (lines.Swap region pass item instance value) =
    codes "swap" ++ pass_part region pass (number_part item ++ (optional_int_part instance ++ value_part value))
step_text (lines.Add region pass item instance number) =
    codes "add" ++ pass_part region pass (number_part item ++ (optional_int_part instance ++ int_part number))
step_text (lines.Begin region pass image moment) = codes "begin" ++ pass_part region pass (image_part image ++ number_part moment)
step_text (lines.Step region pass) = codes "step" ++ pass_part region pass []
step_text (lines.Finish region pass) = codes "finish" ++ pass_part region pass []
step_text (lines.Load region pass) = codes "load" ++ pass_part region pass []
step_text (lines.Word region pass index) = codes "word" ++ pass_part region pass (number_part index)
step_text (lines.Done region pass) = codes "done" ++ pass_part region pass []
step_text (lines.Tick stamp) = codes "tick" ++ (number_part stamp.sec ++ number_part stamp.usec)
step_text lines.Flush = codes "flush"

unfoldable pub steps_text : List Line → List ℕ
steps_text steps = flat_map (λ step. with_feed (step_text step)) steps

-- an image under its name
unfoldable pub image_text : List ℕ → ℕ → Bool → List ℕ
image_text name cluster has_late = with_feed (codes "image " ++ name) ++ (layout_text (layout cluster has_late) ++ codes "end\n")

unfoldable pub images_text : List ℕ
images_text =
    image_text (codes "r0") 1 false ++ (image_text (codes "r1") 2 false ++ (image_text (codes "r2") 3 false ++ image_text (codes "r0late") 1 true))

-- the lines behind the images and before the steps
unfoldable pub front_text : List ℕ
front_text = codes "region r0 r0 2048 4\nregion r1 r1 2048 4\nregion r2 r2 2048 4\nlog mandatory on every 1 sec { mmv }\nstart\n"

unfoldable pub generated_text : ℕ → ℕ → List ℕ
generated_text number ticks = images_text ++ (front_text ++ steps_text (all_steps number ticks))
