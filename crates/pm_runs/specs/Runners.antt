-- Commands that run a script over any files: which script an input is, and what is written of its run.
use Rattle.std.specs.Prelude.{◌≡◌, ℕ, List, Option, Some}
use Rattle.pcp_model.specs.Disk.{Files}
use Rattle.run_script.specs.declared.script.Script.{Script}
use Rattle.pm_words.specs.declared.refusal.Refusal.{Refusal}

-- what is its own of such a command
pub record Runner : Type 1 where
  -- what it reads, and why it doesn't read an input
  pub reads : Option (List ℕ → Option Refusal)
  -- the script of an input that it reads
  pub script : List ℕ → Option Script
  -- the volume limit
  pub limit : ℕ
  -- what it writes where so many results were logged, the run wrote these lines, and these are the files
  pub says : Script → ℕ → List ℕ → Files → List ℕ → Type 0
  -- what it writes of the run's lines where the run ended before
  pub front : List ℕ → List ℕ
  -- why what is to be written isn't told of a run that came to its end
  pub untold : Refusal → Type 0

-- what is so of the script of an input
abbrev pub OfScript : Runner → List ℕ → (Script → Type 0) → Type 0
OfScript c input P = (script : Script) × (c.script input ≡ Some script) × P script
