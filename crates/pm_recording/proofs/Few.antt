-- A script has no more steps than its input has bytes: each line says one at most.
use Rattle.std.proofs.Common.{◌≡◌, ℕ, suc, ◌+◌, ◌≤◌, Bool, true, false, List, [], ◌∷◌, ◌++◌, length, length-append, Option, Some, None, Result, Ok, Err, subst, arith}
use Rattle.std.specs.Prelude.{◌==◌, if◌then◌else◌, nat_le, min, slice_get, codes, bytes_eq}
use Rattle.mmv_layout.specs.declared.rows.Layout.{Layout}
use Rattle.text_lines.specs.Lines.{prepend, lines_of, without_feed}
use Rattle.mmv_writer.specs.Spelling.{image_words}
use Rattle.text_lines.specs.LayoutLines.{line_of}
use Rattle.mmv_writer.specs.declared.line_fault.LineFault.{LineFault}
use Rattle.mmv_writer.specs.declared.line_fault.LineFault.TheVariants.{Build, Condition}
use Rattle.mmv_writer.specs.declared.fault.BuildFault.TheVariants.{TooLarge}
use Rattle.mmv_writer.specs.Reading.{with_head, with_said}
use Rattle.log_schedule.specs.declared.config.Group.{Group}
use Rattle.run_script.specs.declared.lines.StepLine.{StepLine}
use Rattle.run_script.specs.declared.lines.HeadLine.{HeadLine}
use Rattle.run_script.specs.declared.lines.HeadLine.TheVariants as heads
use Rattle.run_script.specs.HeadLines.{head_line}
use Rattle.run_script.specs.StepLines.{step_line}
use Rattle.run_script.specs.declared.fault.ScriptLineFault.{ScriptLineFault}
use Rattle.run_script.specs.declared.fault.ScriptLineFault.TheVariants as faults
use Rattle.run_script.specs.declared.fault.ScriptFault.{ScriptFault}
use Rattle.run_script.specs.declared.script.Line.{Line}
use Rattle.run_script.specs.declared.script.Script.{Script}
use Rattle.run_script.specs.declared.said.Said.{Said}
use Rattle.run_script.specs.declared.said.Stage.{Stage}
use Rattle.run_script.specs.declared.said.Stage.TheVariants as stages
use Rattle.run_script.specs.Said.{nothing}
use Rattle.run_script.specs.Names.{image_named}
use Rattle.run_script.specs.Heads.{may_open, opens, opened_on, region_at, statement_of, with_group, with_row}
use Rattle.run_script.specs.Steps.{step_of, with_line, with_step}
use Rattle.run_script.specs.Reading.{Point, and_then, ended_at, in_head, in_image, in_steps, may_name, script_of, whole, with_full_line, with_head_line, with_image, with_image_line, with_script_line, with_script_lines}

-- so many steps were said, unless something was refused
abbrev SaidUpTo : ℕ → Result Said ScriptLineFault → Type 0
SaidUpTo n (Ok said) = length said.steps ≤ n
SaidUpTo n (Err fault) = Unit {0}

abbrev UpTo : {E : Type 0} → ℕ → Result Point E → Type 0
UpTo n (Ok p) = length p.1.steps ≤ n
UpTo n (Err fault) = Unit {0}

abbrev ScriptUpTo : {E : Type 0} → ℕ → Result Script E → Type 0
ScriptUpTo n (Ok script) = length script.steps ≤ n
ScriptUpTo n (Err fault) = Unit {0}

chosen : {A : Type 0} (P : A → Type 0) (b : Bool) (x y : A) → P x → P y → P (if b then x else y)
chosen P true x y f g = f
chosen P false x y f g = g

as_many : (said : Said) → length said.steps ≤ length said.steps + 1
as_many said = omega arith

-- ---- a line

headed : (n : ℕ) (r : Result Said ScriptLineFault) → SaidUpTo n r → UpTo n (in_head r)
headed n (Ok said) few = few
headed n (Err fault) few = tt

stepped : (n : ℕ) (r : Result Said ScriptLineFault) → SaidUpTo n r → UpTo n (in_steps r)
stepped n (Ok said) few = few
stepped n (Err fault) few = tt

drafted : (name : List ℕ) (said : Said) (r : Result Layout LineFault) → UpTo (length said.steps + 1) (in_image name said r)
drafted name said (Ok draft) = as_many said
drafted name said (Err fault) = tt

module _ (number : ℕ) (said : Said) where
  one_more : (o : Option Line) → SaidUpTo (length said.steps + 1) (with_line number said o)
  one_more None = tt
  one_more (Some line) = omega (arith, length-append said.steps ((number, line) ∷ []))

  step_more : (o : Option StepLine) → SaidUpTo (length said.steps + 1) (with_step number said o)
  unfolding with_step
  step_more None = tt
  step_more (Some step) = one_more (step_of said step)

  group_more : (o : Option Group) → SaidUpTo (length said.steps + 1) (with_group said o)
  group_more None = tt
  group_more (Some group) = as_many said

  module _ (file : List ℕ) (capacity passes : ℕ) where
    opens_more : (o : Option (List ℕ × List ℕ)) (at : ℕ) → SaidUpTo (length said.steps + 1) (opens o at number said file capacity passes)
    opens_more None at = tt
    opens_more (Some image) at =
        chosen (SaidUpTo (length said.steps + 1)) (may_open said file image.1 capacity passes) (Ok (with_row said (record { file = file; image = at; capacity = capacity; passes = passes; line = number }))) (Err (faults.Line Condition)) (as_many said) tt

    opened_more : (place : Option ℕ) → SaidUpTo (length said.steps + 1) (opened_on place number said file capacity passes)
    opened_more None = tt
    opened_more (Some at) = opens_more (slice_get said.images at) at

    region_more : (place : Option ℕ) → SaidUpTo (length said.steps + 1) (region_at place number said file capacity passes)
    unfolding region_at
    region_more place = chosen (SaidUpTo (length said.steps + 1)) (nat_le 64 (length said.regions)) (Err faults.Regions) (opened_on place number said file capacity passes) tt (opened_more place)

  head_more : (line : List ℕ) (o : Option HeadLine) → UpTo (length said.steps + 1) (with_head_line number said line o)
  unfolding with_head_line
  head_more line None = tt
  head_more line (Some (heads.Image name)) = chosen (UpTo {E = ScriptLineFault} (length said.steps + 1)) (may_name said name) (Ok (stages.Opening name, said)) (Err (faults.Line Condition)) (as_many said) tt
  head_more line (Some (heads.Region file image capacity passes)) = headed (length said.steps + 1) (region_at (image_named said.images image) number said file capacity passes) (region_more file capacity passes (image_named said.images image))
  head_more line (Some heads.Log) = headed (length said.steps + 1) (with_group said (statement_of line)) (group_more (statement_of line))
  head_more line (Some heads.Start) = as_many said

image_more : (name : List ℕ) (said : Said) (words : List ℕ) → UpTo (length said.steps + 1) (with_image name said words)
unfolding with_image
image_more name said words =
    chosen (UpTo {E = ScriptLineFault} (length said.steps + 1)) (nat_le (length words) 65536) (Ok (stages.Head, record said { images = said.images ++ (name, words) ∷ [] }))
    (Err (faults.Line (Build (TooLarge (min (length words) 18446744073709551615))))) (as_many said) tt

image_line_more : (name : List ℕ) (draft : Layout) (said : Said) (line : List ℕ) → UpTo (length said.steps + 1) (with_image_line name draft said line)
unfolding with_image_line
image_line_more name draft said line =
    chosen (UpTo {E = ScriptLineFault} (length said.steps + 1)) (bytes_eq line (codes "end")) (with_image name said (image_words draft)) (in_image name said (with_said draft (line_of line)))
    (image_more name said (image_words draft)) (drafted name said (with_said draft (line_of line)))

line_more : (number : ℕ) (stage : Stage) (said : Said) (line : List ℕ) → UpTo (length said.steps + 1) (with_script_line number (stage, said) line)
unfolding with_script_line
line_more number stages.Head said line = head_more number said line (head_line line)
line_more number (stages.Opening name) said line = drafted name said (with_head (line_of line))
line_more number (stages.Image name draft) said line = image_line_more name draft said line
line_more number stages.Steps said line = stepped (length said.steps + 1) (with_step number said (step_line line)) (step_more number said (step_line line))

full_line_more : (number : ℕ) (p : Point) (o : Option (List ℕ)) → UpTo (length p.1.steps + 1) (with_full_line number p o)
full_line_more number p None = tt
full_line_more number (stage, said) (Some line) = line_more number stage said line

-- ---- all lines

weaker : {E : Type 0} (n m : ℕ) → n ≤ m → (r : Result Point E) → UpTo n r → UpTo m r
weaker n m most (Ok p) few = omega (arith, most, few)
weaker n m most (Err fault) few = tt

lines_more : (all : List (List ℕ)) (number : ℕ) (p : Point) → UpTo (length p.1.steps + length all) (with_script_lines all number p)
unfolding with_script_lines
lines_more [] number p = omega arith
lines_more (line ∷ all) number p = on (with_full_line number p (without_feed line)) (full_line_more number p (without_feed line)) (λ later. lines_more all (number + 1) later)
  where
    on : (r : Result Point ScriptLineFault) → UpTo (length p.1.steps + 1) r → ((later : Point) → UpTo (length later.1.steps + length all) (with_script_lines all (number + 1) later))
        → UpTo (length p.1.steps + suc (length all)) (and_then r number (λ later. with_script_lines all (number + 1) later))
    on (Ok later) few again = weaker (length later.1.steps + length all) (length p.1.steps + suc (length all)) (omega (arith, few)) (with_script_lines all (number + 1) later) (again later)
    on (Err fault) few again = tt

prepended : (b : ℕ) (lines : List (List ℕ)) (n : ℕ) → length lines ≤ n → length (prepend b lines) ≤ suc n
unfolding prepend
prepended b [] n few = omega arith
prepended b (line ∷ lines) n few = omega (arith, few)

-- a line has a byte at least
few_lines : (bytes : List ℕ) → length (lines_of bytes) ≤ length bytes
unfolding lines_of
few_lines [] = omega arith
few_lines (b ∷ bytes) =
    chosen (λ (lines : List (List ℕ)). length lines ≤ suc (length bytes)) (b == 10) ((10 ∷ []) ∷ lines_of bytes) (prepend b (lines_of bytes)) (omega (arith, few_lines bytes)) (prepended b (lines_of bytes) (length bytes) (few_lines bytes))

ended_few : (n after : ℕ) (p : Point) → length p.1.steps ≤ n → ScriptUpTo n (ended_at after p)
ended_few n after (stages.Head, said) few = tt
ended_few n after (stages.Opening name, said) few = tt
ended_few n after (stages.Image name draft, said) few = tt
ended_few n after (stages.Steps, said) few = few

whole_few : (n m after : ℕ) → n ≤ m → (r : Result Point ScriptFault) → UpTo n r → ScriptUpTo m (whole after r)
whole_few n m after most (Ok p) few = ended_few m after p (omega (arith, most, few))
whole_few n m after most (Err fault) few = tt

few_said : (bytes : List ℕ) → ScriptUpTo (length bytes) (script_of bytes)
unfolding script_of
few_said bytes = whole_few (0 + length (lines_of bytes)) (length bytes) (length (lines_of bytes) + 1) (omega (arith, few_lines bytes)) (with_script_lines (lines_of bytes) 1 (stages.Head, nothing)) (lines_more (lines_of bytes) 1 (stages.Head, nothing))

pub steps_are_few : (bytes : List ℕ) (script : Script) → script_of bytes ≡ Ok script → length script.steps ≤ length bytes
steps_are_few bytes script is = subst (ScriptUpTo (length bytes)) is (few_said bytes)
