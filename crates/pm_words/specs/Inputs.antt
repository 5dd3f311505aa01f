-- What an input must be for the commands that read one.
use Rattle.std.specs.Prelude.{◌≡◌, ℕ, List, [], Option, Some, None, Result, Ok, Err}
use Rattle.mmv_layout.specs.declared.fault.ImageFault.{ImageFault}
use Rattle.mmv_writer.specs.declared.line_fault.TextFault.{TextFault}
use Rattle.rule_watch.specs.declared.fault.RuleFault.{RuleFault}
use Rattle.rule_watch.specs.declared.rule.Rule.{Rule}
use Rattle.run_script.specs.declared.fault.ScriptFault.{ScriptFault}
use Rattle.run_script.specs.declared.script.Script.{Script}
use Rattle.pm_words.specs.declared.refusal.Refusal.{Refusal}
use Rattle.pm_words.specs.declared.refusal.Refusal.TheVariants.{Image, Line, Rules, Script as Scripted}
use Rattle.pm_words.specs.Refusals.{Stage, AtInput, AtMemory, stage_of}

-- An input is limited to 16 MiB.
abbrev pub input_limit : ℕ
input_limit = 16777216

-- a command that reads images
abbrev pub image_refusal : Result (List ℕ) ImageFault → Option Refusal
image_refusal (Ok words) = None
image_refusal (Err fault) = Some (Image fault)

-- a command that reads layout texts
abbrev pub text_refusal : Result (List ℕ) TextFault → Option Refusal
text_refusal (Ok words) = None
text_refusal (Err fault) = Some (Line fault)

-- a command that reads scripts
abbrev pub script_refusal : Result Script ScriptFault → Option Refusal
script_refusal (Ok script) = None
script_refusal (Err fault) = Some (Scripted fault)

-- a command that reads rules
abbrev pub rules_refusal : Result (List Rule) RuleFault → Option Refusal
rules_refusal (Ok rules) = None
rules_refusal (Err fault) = Some (Rules fault)

-- what is made of words, and nothing of a fault
abbrev pub made_of : {F : Type 0} → (List ℕ → List ℕ) → Result (List ℕ) F → List ℕ
made_of make (Ok words) = make words
made_of make (Err fault) = []

-- why a command doesn't read its input; one that takes none refuses none
abbrev pub refusal_of : Option (List ℕ → Option Refusal) → List ℕ → Option Refusal
refusal_of None input = None
refusal_of (Some refuses) input = refuses input

-- what may be answered of an input that isn't run: its refusal, or that memory ran out
abbrev pub RefusesAt : Stage → Option (List ℕ → Option Refusal) → List ℕ → Refusal → Type 0
RefusesAt AtInput reads input e = refusal_of reads input ≡ Some e
RefusesAt AtMemory reads input e = Unit {0}
RefusesAt _ reads input e = ⊥

abbrev pub Refuses : Option (List ℕ → Option Refusal) → List ℕ → Refusal → Type 0
Refuses reads input e = RefusesAt (stage_of e) reads input e
