-- How a call that exports an archive ends. What is looked at first comes first: the words, the place, the source, then the writing; want of memory may
-- come at any place but the writing.
use Rattle.std.specs.Prelude.{◌≡◌, ◌⊎◌, ℕ, List, [], codes, Result, Ok, Err}
use Rattle.pcp_outside.specs.Sides.{SinkSide}
use Rattle.text_lines.specs.Spelling.{one_number}
use Rattle.log_export.specs.declared.fault.ExportFault.{ExportFault}
use Rattle.log_export.specs.declared.fault.ExportFault.TheVariants as faults
use Rattle.log_export.specs.Exporting.{ExportSide, Exports}
use Rattle.pm_words.specs.declared.refusal.Refusal.{Refusal}
use Rattle.pm_words.specs.declared.refusal.Refusal.TheVariants.{DiskFault, NoMemory, Stands, Usage}
use Rattle.pm_words.specs.declared.words.Call.TheVariants as calls
use Rattle.pm_words.specs.declared.words.Command.TheVariants.{Export}
use Rattle.pm_words.specs.CommandLine.{asked_by}
use Rattle.pm_words.specs.Refusals.{reader_refusal}
use Rattle.pm_words.specs.Telling.{TellsAll}

-- all that a call has to do with, but for the sink of its output
pub record CallSide (A D : Type 0) : Type 1 where
  pub words : List (List ℕ)
  pub export : ExportSide A D

abbrev pub call_side : {A D : Type 0} → List (List ℕ) → ExportSide A D → CallSide A D
call_side words export = record { words = words; export = export }

-- the words ask for an export
abbrev pub Orders : List (List ℕ) → Type 0
Orders words = asked_by calls.Export words ≡ Ok Export

-- how many items were exported
abbrev pub exported_line : ℕ → List ℕ
exported_line count = one_number (codes "exported") count

-- ---- before the place is looked at

-- why a call is refused then
abbrev pub Cause : List (List ℕ) → Refusal → Type 0
Cause words (Usage at) = asked_by calls.Export words ≡ Err at
Cause words NoMemory = Unit {0}
Cause words e = ⊥

-- nothing was touched
pub record IsUnrun {A D : Type 0} (p : ExportSide A D) : Type 0 where
  pub source : p.source_is ≡ p.source_was
  pub disk : p.disk_is ≡ p.disk_was

pub record IsRefused {A D : Type 0} (c : CallSide A D) (e : Refusal) : Type 0 where
  pub cause : Cause c.words e
  pub unrun : IsUnrun c.export

-- ---- the run

-- it was run as the words ask, to this end
pub record HasRun {A D : Type 0} (c : CallSide A D) (result : Result ℕ ExportFault) : Type 0 where
  pub orders : Orders c.words
  pub exports : Exports c.export result

-- ---- the end

abbrev pub fault_refusal : ExportFault → Refusal
fault_refusal (faults.Stands file) = Stands file
fault_refusal (faults.Source fault) = reader_refusal fault
fault_refusal faults.DiskFault = DiskFault

-- nothing is written, and no call of the sink is made
pub record IsUntold (k : SinkSide) : Type 0 where
  pub unwritten : k.tells → k.after ≡ k.written
  pub stands : k.faults_after ≡ k.faults

-- how many items there are; or nothing, where memory for the line was refused
abbrev pub TellsCount : SinkSide → ℕ → ℕ → Type 0
TellsCount k count status = TellsAll k [] (Ok (exported_line count)) status ⊎ ((status ≡ 9) × IsUntold k)

abbrev pub TellsRun : SinkSide → Result ℕ ExportFault → ℕ → Type 0
TellsRun k (Ok count) status = TellsCount k count status
TellsRun k (Err fault) status = TellsAll k [] (Err (fault_refusal fault)) status

pub record EndsRefused {A D : Type 0} (c : CallSide A D) (k : SinkSide) (status : ℕ) : Type 0 where
  pub refusal : Refusal
  pub refused : IsRefused c refusal
  pub told : TellsAll k [] (Err refusal) status

pub record EndsRun {A D : Type 0} (c : CallSide A D) (k : SinkSide) (status : ℕ) : Type 0 where
  pub result : Result ℕ ExportFault
  pub ran : HasRun c result
  pub told : TellsRun k result status

-- what a call came to was told
abbrev pub Ends : {A D : Type 0} → CallSide A D → SinkSide → ℕ → Type 0
Ends c k status = EndsRefused c k status ⊎ EndsRun c k status
