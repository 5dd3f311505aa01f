-- What comes of a line, or of a script, that isn't taken.
use Rattle.std.specs.Prelude.{◌≡◌, ℕ, Result, Ok, Err}
use Rattle.mmv_writer.specs.declared.line_fault.LineFault.TheVariants.{Grammar, Condition}
use Rattle.mmv_writer.specs.declared.line_fault.LineError.{LineError}
use Rattle.mmv_writer.specs.declared.line_fault.LineError.TheVariants as errors
use Rattle.run_script.specs.declared.fault.ScriptLineFault.{ScriptLineFault}
use Rattle.run_script.specs.declared.fault.ScriptLineFault.TheVariants.{Line}
use Rattle.run_script.specs.declared.fault.ReadScriptError.{ReadScriptError}
use Rattle.run_script.specs.declared.fault.ReadScriptError.TheVariants as ends
use Rattle.run_script.specs.declared.fault.LineStop.{LineStop}
use Rattle.run_script.specs.declared.fault.LineStop.TheVariants as stops

-- the bytes are no line that may stand here
abbrev pub no_line : LineStop
no_line = stops.Fault (Line Grammar)

-- a line has its form and breaks a rule of scripts
abbrev pub broken_rule : LineStop
broken_rule = stops.Fault (Line Condition)

-- what a refused line of an image says
abbrev pub stopped_by : LineError → LineStop
stopped_by (errors.Fault fault) = stops.Fault (Line fault)
stopped_by errors.NoMemory = stops.NoMemory

abbrev pub on_line : LineStop → ℕ → ReadScriptError
on_line (stops.Fault fault) number = ends.Fault (record { line = number; fault = fault })
on_line stops.NoMemory number = ends.NoMemory

-- what was said is changed to what a line makes of it, or the line's fault is told, unless memory ran out
abbrev pub Takes : {S X : Type 0} → Result S ScriptLineFault → S → Result X LineStop → Type 0
Takes found after (Ok done) = found ≡ Ok after
Takes found after (Err (stops.Fault fault)) = found ≡ Err fault
Takes found after (Err stops.NoMemory) = Unit {0}
