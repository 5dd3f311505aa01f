-- How a call ends, of what its command's body did, or of why it was refused before, and of what was told.
use Rattle.std.proofs.Common.{◌≡◌, ◌⊎◌, inl, inr, ⊎_elim, ℕ, ◌≤◌, Bool, true, false, List, [], ◌++◌, append-nil, length, refl, sym, ap, ◌∙◌, subst, arith, Option, Result, Ok, Err}
use Rattle.std.proofs.lemmas.List.{drop_all}
use Rattle.pcp_outside.specs.Sides.{SourceSide, SinkSide}
use Rattle.pcp_outside.specs.declared.disk.Disk.{Ghosts as DiskGhosts}
use Rattle.run_passes.specs.declared.opening.Opened.{Opened}
use Rattle.pm_words.specs.declared.words.Call.TheVariants as calls
use Rattle.pm_words.specs.declared.refusal.Refusal.{Refusal}
use Rattle.pm_words.specs.declared.refusal.Refusal.TheVariants.{Usage, ReadFault, InputLimit, Image, Line, Script, Rules, DiskFault, ClockEnd, ClockFault, Accept, Peer, Lacks, Clashes, Stands, NoMemory}
use Rattle.pm_words.specs.Asking.{Before, Got}
use Rattle.pm_words.specs.CommandLine.{takes_input}
use Rattle.pm_words.specs.Inputs.{input_limit}
use Rattle.pm_words.specs.Reading.{TookSome}
use Rattle.pm_words.specs.Refusals.{Stage, AtWords, AtReading, AtMemory, IsNumbered, stage_of, status_of}
use Rattle.pm_words.specs.Serving.{StopCause, StopsAt}
use Rattle.pm_words.specs.Sides.{DiskSide, disk_side, Untouched}
use Rattle.pm_words.specs.Telling.{TellsAll}
use Rattle.pm_words.proofs.Coherent.{untold_left}
use Rattle.pm_commands.specs.Causes.{Asks, Cause, CauseAt}
use Rattle.pm_commands.specs.Ends.{AskedBegins, BegunAt, Ends, HasBegun}
use Rattle.pm_commands.specs.Meanings.{meaning}
use Rattle.pm_commands.specs.Running.{Did, Stopped}
use Rattle.pm_commands.proofs.Coherents.{coherent}

-- what was got was taken
pub took_some : (s : SourceSide) (takes : Bool) (input : List ℕ) → Got takes s input → s.tells → TookSome s
took_some s false input got tells = (0, omega arith, got.1 tells)
took_some s true input got tells =
    let all = got.told tells in
    let within : length s.left ≤ input_limit = subst (λ bytes. length bytes ≤ input_limit) all.0 got.within in
    (length s.left, omega (arith, within), all.1 ∙ sym (drop_all (length s.left) s.left (omega arith)))

module _ (words : List (List ℕ)) (s : SourceSide) (k : SinkSide) (d : DiskSide) where
  -- the cause of a refusal by the body, and what was written before it
  cause_at : (stage : Stage) (a : Asks words s) (e : Refusal) → StopsAt stage (meaning a.command) a.input d e → CauseAt stage words s d e
  cause_at AtWords a e c = absurd c
  cause_at AtReading a e c = absurd c
  cause_at AtMemory a e c = (took_some s (takes_input a.command) a.input a.got, inr (a, c))
  cause_at _ a e c = (a, c)

  pub stop_cause : (a : Asks words s) (e : Refusal) → StopCause (meaning a.command) a.input d e → Cause words s d e
  stop_cause a e c = cause_at (stage_of e) a e c

  stop_begun : (stage : Stage) (a : Asks words s) (e : Refusal) (front : List ℕ) → StopsAt stage (meaning a.command) a.input d e → (meaning a.command).begins a.input d e front → BegunAt stage words s d e front
  stop_begun AtWords a e front c begins = absurd c
  stop_begun AtReading a e front c begins = absurd c
  stop_begun AtMemory a e front c begins = inr (a, begins)
  stop_begun _ a e front c begins = (a, begins)

  -- and of one before it
  pub before_cause : (e : Refusal) → Before calls.Offline words s e → Untouched d → Cause words s d e
  before_cause (Usage at) b still = (b, still)
  before_cause ReadFault b still = (b, still)
  before_cause InputLimit b still = (b, still)
  before_cause NoMemory b still = (b, inl still)
  before_cause _ b still = absurd b

  before_begun : (e : Refusal) → Before calls.Offline words s e → HasBegun words s d e []
  before_begun (Usage at) b = refl
  before_begun ReadFault b = refl
  before_begun InputLimit b = refl
  before_begun NoMemory b = inl refl
  before_begun _ b = absurd b

  -- A refusal whose line could not be made ends as want of memory.
  out_of_memory : (e : Refusal) → Cause words s d e → IsNumbered e → Cause words s d NoMemory
  out_of_memory (Usage at) c some = (λ tells. (0, omega arith, c.0.1 tells), inl c.1)
  out_of_memory ReadFault c some = absurd some
  out_of_memory InputLimit c some = absurd some
  out_of_memory (Image fault) c some = (took_some s (takes_input c.0.command) c.0.input c.0.got, inl c.1.1)
  out_of_memory (Line fault) c some = (took_some s (takes_input c.0.command) c.0.input c.0.got, inl c.1.1)
  out_of_memory (Script fault) c some = (took_some s (takes_input c.0.command) c.0.input c.0.got, inl c.1.1)
  out_of_memory (Rules fault) c some = (took_some s (takes_input c.0.command) c.0.input c.0.got, inl c.1.1)
  out_of_memory DiskFault c some = absurd some
  out_of_memory (ClockEnd left) c some = absurd c.1
  out_of_memory (ClockFault left) c some = absurd c.1
  out_of_memory Accept c some = absurd some
  out_of_memory (Peer reply why) c some = absurd c.1
  out_of_memory (Lacks source pmid) c some = absurd c.1
  out_of_memory (Clashes pmid) c some = absurd c.1
  out_of_memory (Stands file) c some = absurd c.1
  out_of_memory NoMemory c some = c
  out_of_memory e c some = (took_some s (takes_input c.0.command) c.0.input c.0.got, inr (c.0, untold_left (meaning c.0.command) (coherent c.0.command) c.0.input d (status_of e) (λ five. omega (arith, five)) c.1.1))

  asked_on : (e : Refusal) (front : List ℕ) → IsNumbered e → AskedBegins words s d e front → HasBegun words s d NoMemory front
  asked_on e front some x = inr (x.0, (coherent x.0.command).begins_untold x.0.input d e front some x.1)

  begun_untold : (stage : Stage) (e : Refusal) (front : List ℕ) → IsNumbered e → BegunAt stage words s d e front → HasBegun words s d NoMemory front
  begun_untold AtWords e front some b = inl b
  begun_untold AtReading e front some b = inl b
  begun_untold AtMemory e front some b = ⊎_elim (λ (none : front ≡ []). inl none) (λ (x : AskedBegins words s d e front). asked_on e front some x) b
  begun_untold _ e front some b = asked_on e front some b

  refused : (e : Refusal) (front : List ℕ) (status : ℕ) → Cause words s d e → HasBegun words s d e front → TellsAll k front (Err e) status → Ends words s k d status
  refused e front status cause begun (inl (is, told)) = inr (inr (record { refusal = e; status_is = is; cause = cause; front = front; begun = begun; told = told }))
  refused e front status cause begun (inr (is, some, silent)) = inr (inr (record {
    refusal = NoMemory;
    status_is = is;
    cause = out_of_memory e cause some;
    front = front;
    begun = begun_untold (stage_of e) e front some begun;
    told = λ tells. inl (silent tells ∙ ap (λ t. k.written ++ t) (sym (append-nil front)));
  }))

module _ {D : Type 0} (words : List (List ℕ)) (s : SourceSide) (k : SinkSide) (g : DiskGhosts D) (old new : D) (opened : Option Opened) where
  done_ends : (front : List ℕ) (result : Result (List ℕ) Refusal) (status : ℕ) → Did words s g old new opened front result → TellsAll k front result status → Ends words s k (disk_side g old new) status
  done_ends front (Ok text) status did (inl (is, quiet, told)) = inl (is, record { text = front ++ text; run = record { asks = did.asks; served = did.meets.done }; told = told; quiet = quiet })
  done_ends front (Ok text) status did (inr (is, rose, told)) = inr (inl (is, record { text = front ++ text; run = record { asks = did.asks; served = did.meets.done }; rose = rose; told = told }))
  done_ends front (Err e) status did told =
      refused words s k (disk_side g old new) e front status (stop_cause words s k (disk_side g old new) did.asks e did.meets.stops.0)
      (stop_begun words s k (disk_side g old new) (stage_of e) did.asks e front did.meets.stops.0 did.meets.stops.1) told

  stopped_ends : (front : List ℕ) (result : Result (List ℕ) Refusal) (status : ℕ) → Stopped words s g old new opened front result → TellsAll k front result status → Ends words s k (disk_side g old new) status
  stopped_ends front result status stopped told =
      refused words s k (disk_side g old new) stopped.refusal [] status (before_cause words s k (disk_side g old new) stopped.refusal stopped.before (λ tells. ap g.held stopped.same))
      (before_begun words s k (disk_side g old new) stopped.refusal stopped.before)
      (subst (λ (r : Result (List ℕ) Refusal). TellsAll k [] r status) stopped.is (subst (λ (f : List ℕ). TellsAll k f result status) stopped.nothing told))

  pub ends : (front : List ℕ) (result : Result (List ℕ) Refusal) (status : ℕ) → Did words s g old new opened front result ⊎ Stopped words s g old new opened front result → TellsAll k front result status → Ends words s k (disk_side g old new) status
  ends front result status (inl did) told = done_ends front result status did told
  ends front result status (inr stopped) told = stopped_ends front result status stopped told
