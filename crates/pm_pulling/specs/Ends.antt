-- How a call that pulls ends. What is looked at first comes first: the words, the files, then the replies and the archive as they come; want of
-- memory may come at any place.
use Rattle.std.specs.Prelude.{◌≡◌, ◌⊎◌, ℕ, List, [], ◌++◌, codes, Option, Some, None, Result, Ok, Err}
use Rattle.pcp_model.specs.Disk.{Files, Holdings, CrashImage}
use Rattle.pcp_outside.specs.Sides.{SinkSide}
use Rattle.text_lines.specs.Spelling.{one_number}
use Rattle.logging_session.specs.ComingBack.{MayBeAfter}
use Rattle.logging_run.specs.Handing.{items_of_run}
use Rattle.pm_words.specs.declared.refusal.Refusal.{Refusal}
use Rattle.pm_words.specs.declared.refusal.Refusal.TheVariants.{Usage, NoMemory}
use Rattle.pm_words.specs.declared.words.Call.TheVariants as calls
use Rattle.pm_words.specs.declared.words.Command.TheVariants.{Pull}
use Rattle.pm_words.specs.declared.words.PullWords.{PullWords}
use Rattle.pm_words.specs.CommandLine.{asked_by}
use Rattle.pm_words.specs.Telling.{TellsAll}
use Rattle.pm_pulling.specs.declared.stop.Stop.{Stop}
use Rattle.pm_pulling.specs.Pulling.{IsSilent, PullSide, Pulled, handed_in}
use Rattle.pm_pulling.specs.Stops.{stop_refusal}

-- all that a call has to do with, but for the sink of its output
pub record CallSide (D : Type 0) : Type 1 where
  pub words : List (List ℕ)
  pub pull : PullSide D

abbrev pub call_side : {D : Type 0} → List (List ℕ) → PullSide D → CallSide D
call_side words pull = record { words = words; pull = pull }

-- the words ask for this
abbrev pub Orders : List (List ℕ) → PullWords → Type 0
Orders words asked = asked_by calls.Pull words ≡ Ok (Pull asked)

-- ---- before the run

-- nothing was taken, written or touched
pub record IsUnrun {D : Type 0} (p : PullSide D) : Type 0 where
  pub silent : IsSilent p.reply p.request
  pub disk : p.disk_is ≡ p.disk_was

-- why a call is refused before its run
abbrev pub Cause : List (List ℕ) → Refusal → Type 0
Cause words (Usage at) = asked_by calls.Pull words ≡ Err at
Cause words NoMemory = Unit {0}
Cause words e = ⊥

pub record IsRefused {D : Type 0} (c : CallSide D) (e : Refusal) : Type 0 where
  pub cause : Cause c.words e
  pub unrun : IsUnrun c.pull

-- ---- the run

-- what the words ask for was pulled, to this end
pub record HasRun {D : Type 0} (c : CallSide D) (result : Result (Unit {0}) Stop) : Type 0 where
  pub asked : PullWords
  pub orders : Orders c.words asked
  pub pulled : Pulled c.pull asked result

-- how many samples were logged
abbrev pub logged_line : ℕ → List ℕ
logged_line count = one_number (codes "logged") count

-- nothing is written, and no call of the sink is made
pub record IsUntold (k : SinkSide) : Type 0 where
  pub unwritten : k.tells → k.after ≡ k.written
  pub stands : k.faults_after ≡ k.faults

-- the last line of a refusal; where a request couldn't be written there is none
abbrev pub TellsStop : SinkSide → Option Refusal → ℕ → Type 0
TellsStop k None status = (status ≡ 4) × IsUntold k
TellsStop k (Some e) status = TellsAll k [] (Err e) status

-- the end of a run that was to log so many samples
abbrev pub TellsRun : SinkSide → ℕ → Result (Unit {0}) Stop → ℕ → Type 0
TellsRun k count (Ok done) status = TellsAll k [] (Ok (logged_line count)) status
TellsRun k count (Err stop) status = TellsStop k (stop_refusal stop) status

-- ---- the end

pub record EndsRefused {D : Type 0} (c : CallSide D) (k : SinkSide) (status : ℕ) : Type 0 where
  pub refusal : Refusal
  pub refused : IsRefused c refusal
  pub told : TellsAll k [] (Err refusal) status

pub record EndsRun {D : Type 0} (c : CallSide D) (k : SinkSide) (status : ℕ) : Type 0 where
  pub result : Result (Unit {0}) Stop
  pub ran : HasRun c result
  pub told : TellsRun k ran.asked.samples result status

-- what a call came to was told
abbrev pub Ends : {D : Type 0} → CallSide D → SinkSide → ℕ → Type 0
Ends c k status = EndsRefused c k status ⊎ EndsRun c k status

-- it was done, and said so; no call of the sink failed
pub record EndsDone {D : Type 0} (c : CallSide D) (k : SinkSide) : Type 0 where
  pub ran : HasRun c (Ok tt)
  pub wrote : k.tells → k.after ≡ k.written ++ logged_line ran.asked.samples
  pub quiet : k.faults_after ≡ k.faults

-- what a crash at any moment may leave: what was there, or what there was with the first ones of the run's items behind it
abbrev pub MayBeLeft : {D : Type 0} → CallSide D → Holdings → Files → Type 0
MayBeLeft c held crash = CrashImage held crash ⊎ ((result : Result (Unit {0}) Stop) × (ran : HasRun c result) × MayBeAfter (items_of_run (handed_in ran.pulled)) 0 held crash)
