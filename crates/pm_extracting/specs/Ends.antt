-- How a call that extracts ends. What is looked at first comes first: the words, the first source, the second, the files, then the merge and the
-- archive item by item; want of memory may come at any place.
use Rattle.std.specs.Prelude.{◌≡◌, ◌⊎◌, ℕ, List, [], ◌++◌, codes, length, map, take, Result, Ok, Err}
use Rattle.pcp_base.specs.declared.result.Item.{Item}
use Rattle.pcp_base.specs.declared.result.Item.TheVariants as items
use Rattle.pcp_model.specs.Disk.{Files, Holdings, CrashImage}
use Rattle.pcp_outside.specs.Causes.{shown_count}
use Rattle.pcp_outside.specs.Sides.{SinkSide}
use Rattle.text_lines.specs.Spelling.{one_number}
use Rattle.archive_merge.specs.Merging.{merge}
use Rattle.logging_session.specs.ComingBack.{MayBeAfter}
use Rattle.logging_session.specs.Written.{Report}
use Rattle.logging_run.specs.Handing.{Handed, each_held, items_of_run}
use Rattle.log_extract.specs.declared.fault.ExtractFault.{ExtractFault}
use Rattle.log_extract.specs.Extracting.{ExtractSide, Extracted, Extracts}
use Rattle.log_extract.specs.Sources.{IsSource, Source}
use Rattle.pm_words.specs.declared.refusal.Refusal.{Refusal}
use Rattle.pm_words.specs.declared.refusal.Refusal.TheVariants.{Usage, NoMemory}
use Rattle.pm_words.specs.declared.words.Call.TheVariants as calls
use Rattle.pm_words.specs.declared.words.Command.TheVariants.{Extract}
use Rattle.pm_words.specs.CommandLine.{asked_by}
use Rattle.pm_words.specs.Telling.{TellsAll}
use Rattle.pm_extracting.specs.Refusals.{fault_refusal, front_of}

-- all that a call has to do with, but for the sink of its output
pub record CallSide (A B D : Type 0) : Type 1 where
  pub words : List (List ℕ)
  pub extract : ExtractSide A B D

abbrev pub call_side : {A B D : Type 0} → List (List ℕ) → ExtractSide A B D → CallSide A B D
call_side words extract = record { words = words; extract = extract }

-- the words ask for an extract with this volume limit
abbrev pub Orders : List (List ℕ) → ℕ → Type 0
Orders words volume = asked_by calls.Extract words ≡ Ok (Extract volume)

-- how many items were logged
abbrev pub extracted_line : ℕ → List ℕ
extracted_line count = one_number (codes "extracted") count

-- the items of reports
abbrev pub results_of : List Report → List Item
results_of reports = map (λ (r : Report). items.Sample r.result) reports

-- ---- before the run

-- nothing was touched
pub record IsUnrun {A B D : Type 0} (p : ExtractSide A B D) : Type 0 where
  pub first : p.first_is ≡ p.first_was
  pub second : p.second_is ≡ p.second_was
  pub disk : p.disk_is ≡ p.disk_was

-- why a call is refused before its run
abbrev pub Cause : List (List ℕ) → Refusal → Type 0
Cause words (Usage at) = asked_by calls.Extract words ≡ Err at
Cause words NoMemory = Unit {0}
Cause words e = ⊥

pub record IsRefused {A B D : Type 0} (c : CallSide A B D) (e : Refusal) : Type 0 where
  pub cause : Cause c.words e
  pub unrun : IsUnrun c.extract

-- ---- the run

-- it was run as the words ask, to this end
pub record HasRun {A B D : Type 0} (c : CallSide A B D) (result : Result ℕ ExtractFault) : Type 0 where
  pub volume : ℕ
  pub orders : Orders c.words volume
  pub extracts : Extracts c.extract volume result

-- and both sources were passed
pub record HasExtracted {A B D : Type 0} (c : CallSide A B D) (result : Result ℕ ExtractFault) : Type 0 where
  pub volume : ℕ
  pub orders : Orders c.words volume
  pub extracted : Extracted c.extract volume result

-- what was handed to the archive
abbrev pub handed_in : {A B D : Type 0} {p : ExtractSide A B D} {limit : ℕ} {result : Result ℕ ExtractFault} → Extracted p limit result → List Handed
handed_in extracted = each_held extracted.reports ++ extracted.last

-- ---- what it has to do with the merge of the sources

-- of two sources that tell, items are the first ones of the merge
pub record AreFirst {A B D : Type 0} (p : ExtractSide A B D) (some : List Item) : Type 0 where
  pub first : Source
  pub second : Source
  pub first_is : IsSource p.first p.first_was first
  pub second_is : IsSource p.second p.second_was second
  pub are : take (length some) (merge first.items second.items) ≡ some

-- they are all of it, and this is their number
pub record AreAll {A B D : Type 0} (p : ExtractSide A B D) (all : List Item) (count : ℕ) : Type 0 where
  pub first : Source
  pub second : Source
  pub first_is : IsSource p.first p.first_was first
  pub second_is : IsSource p.second p.second_was second
  pub are : merge first.items second.items ≡ all
  pub count_is : count ≡ shown_count (length (merge first.items second.items))

abbrev pub BeginMerge : {A B D : Type 0} → ExtractSide A B D → List Item → Type 0
BeginMerge p some = p.first.tells → p.second.tells → AreFirst p some

abbrev pub MakeMerge : {A B D : Type 0} → ExtractSide A B D → List Item → ℕ → Type 0
MakeMerge p all count = p.first.tells → p.second.tells → AreAll p all count

-- the whole merge was logged, of so many items
pub record HasLogged {A B D : Type 0} (c : CallSide A B D) : Type 0 where
  pub count : ℕ
  pub ran : HasExtracted c (Ok count)
  pub whole : MakeMerge c.extract (results_of ran.extracted.reports) count

-- ---- what is told

-- nothing is written, and no call of the sink is made
pub record IsUntold (k : SinkSide) : Type 0 where
  pub unwritten : k.tells → k.after ≡ k.written
  pub stands : k.faults_after ≡ k.faults

-- how many items were logged; or nothing, where memory for the line was refused
abbrev pub TellsCount : SinkSide → ℕ → ℕ → Type 0
TellsCount k count status = TellsAll k [] (Ok (extracted_line count)) status ⊎ ((status ≡ 9) × IsUntold k)

-- the end of a run: where a source is refused it is named on a line before that of the refusal
abbrev pub TellsRun : SinkSide → Result ℕ ExtractFault → ℕ → Type 0
TellsRun k (Ok count) status = TellsCount k count status
TellsRun k (Err fault) status = TellsAll k (front_of fault) (Err (fault_refusal fault)) status

-- ---- the end

pub record EndsRefused {A B D : Type 0} (c : CallSide A B D) (k : SinkSide) (status : ℕ) : Type 0 where
  pub refusal : Refusal
  pub refused : IsRefused c refusal
  pub told : TellsAll k [] (Err refusal) status

pub record EndsRun {A B D : Type 0} (c : CallSide A B D) (k : SinkSide) (status : ℕ) : Type 0 where
  pub result : Result ℕ ExtractFault
  pub ran : HasRun c result
  pub told : TellsRun k result status

-- what a call came to was told
abbrev pub Ends : {A B D : Type 0} → CallSide A B D → SinkSide → ℕ → Type 0
Ends c k status = EndsRefused c k status ⊎ EndsRun c k status

-- it was done, and said so; no call of the sink failed
pub record EndsDone {A B D : Type 0} (c : CallSide A B D) (k : SinkSide) : Type 0 where
  pub logged : HasLogged c
  pub wrote : k.tells → k.after ≡ k.written ++ extracted_line logged.count
  pub quiet : k.faults_after ≡ k.faults

-- what a crash at any moment may leave: what was there, or what there was with the first ones of the merge's items behind it
abbrev pub MayBeLeft : {A B D : Type 0} → CallSide A B D → Holdings → Files → Type 0
MayBeLeft c held crash =
    CrashImage held crash
    ⊎ ((result : Result ℕ ExtractFault) × (ran : HasExtracted c result) × BeginMerge c.extract (items_of_run (handed_in ran.extracted)) × MayBeAfter (items_of_run (handed_in ran.extracted)) 0 held crash)
