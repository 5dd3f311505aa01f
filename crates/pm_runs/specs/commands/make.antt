-- `make NUMBER TICKS VOLUME` runs the script that a number makes, and writes a summary in place of the run's lines.
use Rattle.std.specs.Prelude.{◌≡◌, ◌⊎◌, ℕ, List, [], ◌++◌, codes, length, None, Some}
use Rattle.pcp_base.specs.declared.file.FileId.TheVariants.{Meta}
use Rattle.pcp_model.specs.Disk.{Files}
use Rattle.pcp_outside.specs.Causes.{Rose, shown_count}
use Rattle.run_script.specs.declared.script.Line.{Line}
use Rattle.run_script.specs.declared.script.Line.TheVariants as lines
use Rattle.run_script.specs.declared.script.Script.{Script}
use Rattle.run_script.specs.Generated.{generated_script}
use Rattle.text_lines.specs.Spelling.{one_number}
use Rattle.script_runs.specs.Summaries.{HasVolumes, amount, summary}
use Rattle.pm_words.specs.declared.words.MakeWords.{MakeWords}
use Rattle.pm_words.specs.declared.refusal.Refusal.{Refusal}
use Rattle.pm_words.specs.declared.refusal.Refusal.TheVariants.{DiskFault, NoMemory}
use Rattle.pm_words.specs.Meaning.{Meaning}
use Rattle.pm_runs.specs.Runners.{Runner}
use Rattle.pm_runs.specs.Scripts.{runs_script}

-- of one step: whether it is an add, and what it adds
abbrev pub add_in : Line → ℕ
add_in (lines.Add region pass item instance n) = 1
add_in _ = 0

abbrev pub amount_in : Line → ℕ
amount_in (lines.Add region pass item instance n) = amount n
amount_in _ = 0

-- what is counted of a run, a line each
abbrev pub counted_text : ℕ → ℕ → ℕ → ℕ → ℕ → List ℕ
counted_text items volumes meta adds total =
    one_number (codes "items") items ++ (one_number (codes "volumes") volumes ++ (one_number (codes "meta") meta ++ (one_number (codes "adds") adds ++ one_number (codes "total") total)))

-- of these files and results, where the script has so many adds of this sum
abbrev pub HasCounted : Files → ℕ → ℕ → ℕ → List ℕ → Type 0
HasCounted files items adds total text = (volumes : ℕ) × HasVolumes files volumes × (text ≡ counted_text items volumes (shown_count (length (files Meta))) adds total)

-- why it isn't told
abbrev pub WantsCounts : ℕ → ℕ → Refusal → Type 0
WantsCounts before after e = (e ≡ NoMemory) ⊎ ((e ≡ DiskFault) × Rose before after)

-- what is written after a run that logged so many results; a length of 2^64 - 1 stands for a greater one
pub record Summarizes (script : Script) (count : ℕ) (files : Files) (text : List ℕ) : Type 0 where
  pub volumes : ℕ
  pub counted : HasVolumes files volumes
  pub is : text ≡ summary script.steps count volumes (shown_count (length (files Meta)))

abbrev pub making : MakeWords → Runner
making asked = record {
  reads = None;
  script = λ input. Some (generated_script asked.number asked.ticks);
  limit = asked.volume;
  says = λ script count output files text. Summarizes script count files text;
  front = λ output. [];
  untold = λ e. (e ≡ NoMemory) ⊎ (e ≡ DiskFault);
}

abbrev pub make : MakeWords → Meaning
make asked = runs_script (making asked)
