-- Which scripts are recorded: those that are in the grammar, and whose passes can act beside each other.
use Rattle.std.specs.Prelude.{◌≡◌, ℕ, List, Option, Some, None, Result, Ok, Err}
use Rattle.mmv_writer.specs.declared.line_fault.LineFault.TheVariants.{Condition}
use Rattle.run_script.specs.declared.fault.ScriptFault.{ScriptFault}
use Rattle.run_script.specs.declared.fault.ScriptLineFault.TheVariants.{Line}
use Rattle.run_script.specs.declared.script.Script.{Script}
use Rattle.run_script.specs.Reading.{script_of}
use Rattle.run_script.specs.Recording.{refused_line}
use Rattle.pm_words.specs.declared.refusal.Refusal.{Refusal}
use Rattle.pm_words.specs.declared.refusal.Refusal.TheVariants.{Script as Scripted, NoMemory}

-- a line that a recording refuses breaks a rule
abbrev pub broken_at : ℕ → ScriptFault
broken_at line = record { line = line; fault = Line Condition }

abbrev pub unless : Option ℕ → Script → Result Script ScriptFault
unless None script = Ok script
unless (Some line) script = Err (broken_at line)

abbrev pub recordable : Result Script ScriptFault → Result Script ScriptFault
recordable (Ok script) = unless (refused_line script) script
recordable (Err fault) = Err fault

-- the script of an input, or why it isn't recorded: the first fault in the grammar and its rules, and behind it the first line that
-- a recording refuses
abbrev pub script_recorded : List ℕ → Result Script ScriptFault
script_recorded input = recordable (script_of input)

-- what was answered is what the input says, unless memory ran out
abbrev pub Answers : Result Script ScriptFault → Result Script Refusal → Type 0
Answers found (Ok script) = found ≡ Ok script
Answers found (Err (Scripted fault)) = found ≡ Err fault
Answers found (Err NoMemory) = Unit {0}
Answers found (Err e) = ⊥
