-- `replay VOLUME` reads a script and runs it over any files: they are recovered, and the archive is created or gone on with. It
-- writes the lines of the run.
use Rattle.std.specs.Prelude.{◌≡◌, ℕ, Option, Some, None, Result, Ok, Err}
use Rattle.run_script.specs.declared.fault.ScriptFault.{ScriptFault}
use Rattle.run_script.specs.declared.script.Script.{Script}
use Rattle.run_script.specs.Reading.{script_of}
use Rattle.pm_words.specs.Inputs.{script_refusal}
use Rattle.pm_words.specs.Meaning.{Meaning}
use Rattle.pm_runs.specs.Runners.{Runner}
use Rattle.pm_runs.specs.Scripts.{runs_script}

abbrev pub if_script : Result Script ScriptFault → Option Script
if_script (Ok script) = Some script
if_script (Err fault) = None

abbrev pub replaying : ℕ → Runner
replaying volume = record {
  reads = Some (λ input. script_refusal (script_of input));
  script = λ input. if_script (script_of input);
  limit = volume;
  says = λ script count output files text. text ≡ output;
  front = λ output. output;
  untold = λ e. ⊥;
}

abbrev pub replay : ℕ → Meaning
replay volume = runs_script (replaying volume)
