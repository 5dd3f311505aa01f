-- `once SEC USEC FILE` reads an image and runs it as a script over any files: one region under the name FILE, all of whose metrics
-- are logged at one tick. It writes how many results were logged.
use Rattle.std.specs.Prelude.{◌≡◌, ℕ, List, [], codes, Option, Some, None, Result, Ok, Err}
use Rattle.mmv_layout.specs.declared.fault.ImageFault.{ImageFault}
use Rattle.mmv_layout.specs.Faults.{image_of}
use Rattle.run_script.specs.declared.script.Script.{Script}
use Rattle.script_runs.specs.Once.{once_limit, once_script}
use Rattle.text_lines.specs.Spelling.{one_number}
use Rattle.pm_words.specs.declared.words.OnceWords.{OnceWords}
use Rattle.pm_words.specs.declared.refusal.Refusal.TheVariants.{NoMemory}
use Rattle.pm_words.specs.Inputs.{image_refusal}
use Rattle.pm_words.specs.Meaning.{Meaning}
use Rattle.pm_runs.specs.Runners.{Runner}
use Rattle.pm_runs.specs.Scripts.{runs_script}

abbrev pub script_of_image : OnceWords → Result (List ℕ) ImageFault → Option Script
script_of_image asked (Ok words) = Some (once_script asked.stamp asked.file words)
script_of_image asked (Err fault) = None

abbrev pub logged_line : ℕ → List ℕ
logged_line count = one_number (codes "logged") count

abbrev pub logging : OnceWords → Runner
logging asked = record {
  reads = Some (λ input. image_refusal (image_of input));
  script = λ input. script_of_image asked (image_of input);
  limit = once_limit;
  says = λ script count output files text. text ≡ logged_line count;
  front = λ output. [];
  untold = λ e. e ≡ NoMemory;
}

abbrev pub once : OnceWords → Meaning
once asked = runs_script (logging asked)
