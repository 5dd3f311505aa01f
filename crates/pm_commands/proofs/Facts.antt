-- Each fact on a status follows from how the call ends, by cases on the refusal.
use Rattle.std.proofs.Common.{◌≡◌, ◌⊎◌, inl, inr, ⊎_elim, ℕ, ◌<◌, ◌≤◌, Bool, true, false, ◌==◌, if◌then◌else◌, List, length, drop, refl, sym, ap, ap₂, ◌∙◌, subst, arith, Option, Some, None, IsSome, Ok, Err}
use Rattle.pcp_base.specs.declared.file.FileId.{FileId}
use Rattle.pcp_base.specs.Time.{Moment}
use Rattle.pcp_model.specs.Disk.{IsSettled}
use Rattle.pcp_outside.specs.Causes.{Rose}
use Rattle.pcp_outside.specs.Sides.{SourceSide, SinkSide}
use Rattle.run_passes.specs.declared.opening.Opened.{Opened}
use Rattle.pm_words.specs.declared.words.Call.TheVariants as calls
use Rattle.pm_words.specs.declared.words.Command.{Command}
use Rattle.pm_words.specs.declared.refusal.Refusal.{Refusal}
use Rattle.pm_words.specs.declared.refusal.Refusal.TheVariants.{Usage, ReadFault, InputLimit, Image, Line, Script, Rules, Condition, Limit, NotLater, Changed, Compressed, NotArchive, Nothing, DiskFault, ClockEnd, ClockFault, Accept, Peer, Lacks, Clashes, Stands, NoMemory}
use Rattle.pm_words.specs.Asking.{Got}
use Rattle.pm_words.specs.CommandLine.{asked_by, takes_input}
use Rattle.pm_words.specs.Inputs.{input_limit, refusal_of}
use Rattle.pm_words.specs.Reading.{IsAbove}
use Rattle.pm_words.specs.Refusals.{Stage, AtWords, AtReading, AtInput, AtFiles, AtDisk, AtMemory, IsOfRun, rule_status, script_status, stage_of, status_of}
use Rattle.pm_words.specs.Serving.{HasRegions, Left, IsNever}
use Rattle.pm_words.specs.Sides.{DiskSide, files_found, Untouched}
use Rattle.pm_words.proofs.Asked as asked
use Rattle.pm_words.proofs.Asked.{rules_apart, script_apart}
use Rattle.rule_watch.specs.declared.fault.RuleLineFault.{RuleLineFault}
use Rattle.rule_watch.specs.declared.fault.RuleLineFault.TheVariants as rule
use Rattle.run_script.specs.declared.fault.ScriptLineFault.{ScriptLineFault}
use Rattle.run_script.specs.declared.fault.ScriptLineFault.TheVariants as script
use Rattle.pm_commands.specs.Causes.{Asks, fault_of, IsReader, Finds, Cause, CauseAt}
use Rattle.pm_commands.specs.Ends.{Ends, EndsDone, EndsUntold, HasRun}
use Rattle.pm_commands.specs.Facts.{LimitCause, InputFaultIsExact, RunIsExact, ArchiveFaultIsExact, NothingIsThere, GivesInput, IsCommand, IsGiven, refused_of, TurnsAway, IsRefused, IsUnwritten, IsGoodDisk, IsGoodRun, Keeps, ComesOfRun, OpensRegions}
use Rattle.pm_commands.specs.Meanings.{meaning}
use Rattle.pm_commands.proofs.Coherents.{coherent}

-- over files over which a run is refused no command is done
run_never : (e : Refusal) → IsOfRun e → IsNever e
run_never (Compressed file) run = tt
run_never _ run = run

-- statuses of a run
abbrev is_run : ℕ → Bool
is_run n = if n == 0 then true else if n == 4 then true else if n == 5 then true else if n == 6 then true else if n == 12 then true else if n == 13 then true else false

run_status : (n : ℕ) → ComesOfRun n → is_run n ≡ true
run_status n (inl h) = ap is_run h
run_status n (inr (inl h)) = ap is_run h
run_status n (inr (inr (inl h))) = ap is_run h
run_status n (inr (inr (inr (inl h)))) = ap is_run h
run_status n (inr (inr (inr (inr (inl h))))) = ap is_run h
run_status n (inr (inr (inr (inr (inr h))))) = ap is_run h

not_run : (n : ℕ) → is_run n ≡ false → ComesOfRun n → ⊥
not_run n other h = let e : true ≡ false = sym (run_status n h) ∙ other in cc

script_not_run : (fault : ScriptLineFault) → ComesOfRun (script_status fault) → ⊥
script_not_run (script.Line found) h = not_run 2 refl h
script_not_run script.Regions h = not_run 7 refl h

rules_not_run : (fault : RuleLineFault) → ComesOfRun (rule_status fault) → ⊥
rules_not_run rule.Grammar h = not_run 2 refl h
rules_not_run rule.Condition h = not_run 2 refl h
rules_not_run rule.Many h = not_run 7 refl h

module _ (words : List (List ℕ)) (s : SourceSide) (k : SinkSide) (d : DiskSide) where
  -- a refusal that has this cause
  abbrev Caused : Refusal → Type 0
  Caused e = Cause words s d e

  -- no command that is asked for is no command, and words are one command
  apart : (at : ℕ) → asked_by calls.Offline words ≡ Err at → (command : Command) → asked_by calls.Offline words ≡ Ok command → ⊥
  apart = asked.apart calls.Offline words s

  pub one : (a b : Command) → asked_by calls.Offline words ≡ Ok a → asked_by calls.Offline words ≡ Ok b → a ≡ b
  one = asked.one calls.Offline words s

  -- what was got is what was given
  got_given : (takes : Bool) (got given : List ℕ) → Got takes s got → GivesInput takes s given → got ≡ given
  got_given false got given g h = g.0 ∙ sym h
  got_given true got given g h = (g.told h.0).0 ∙ sym h.1

  same_command : (a : Asks words s) (b : IsGiven words s) → a.command ≡ b.command
  same_command a b = one a.command b.command a.words_are b.words_are

  same_input : (a : Asks words s) (b : IsGiven words s) → a.input ≡ b.input
  same_input a b = got_given (takes_input b.command) a.input b.input (subst (λ (c : Command). Got (takes_input c) s a.input) (same_command a b) a.got) b.given

  same_fault : (a : Asks words s) (b : IsGiven words s) → fault_of a ≡ refused_of b
  same_fault a b = ap₂ (λ (c : Command) (i : List ℕ). refusal_of (meaning c).reads i) (same_command a b) (same_input a b)

  not_both : (found : Option Refusal) (e : Refusal) → found ≡ None → found ≡ Some e → ⊥
  not_both found e good bad = let f : None ≡ Some e = sym good ∙ bad in cc

  says_one : (found : Option Refusal) (a b : Refusal) → found ≡ Some a → found ≡ Some b → a ≡ b
  says_one found a b is other = let f : Some a ≡ Some b = sym is ∙ other in cc

  -- an input that was found good is not refused, and one that is refused was not found good
  found_good : (a : Asks words s) (b : IsGiven words s) (e : Refusal) → fault_of a ≡ None → refused_of b ≡ Some e → ⊥
  found_good a b e good bad = not_both (refused_of b) e (sym (same_fault a b) ∙ good) bad

  found_bad : (a : Asks words s) (b : IsGiven words s) (e : Refusal) → fault_of a ≡ Some e → refused_of b ≡ None → ⊥
  found_bad a b e bad good = not_both (fault_of a) e (same_fault a b ∙ good) bad

  found_same : (a : Asks words s) (b : IsGiven words s) (e f : Refusal) → fault_of a ≡ Some e → refused_of b ≡ Some f → e ≡ f
  found_same a b e f is other = says_one (refused_of b) e f (sym (same_fault a b) ∙ is) other

  -- what is given to a command that reads is within the limit
  given_within : (takes : Bool) (input : List ℕ) → takes ≡ true → GivesInput takes s input → s.tells × (length s.left ≤ input_limit)
  given_within false input some given = let e : false ≡ true = some in cc
  given_within true input some given = (given.0, subst (λ bytes. length bytes ≤ input_limit) given.1 given.2)

  not_met : IsReader words → (s.tells → input_limit < length s.left) → IsGiven words s → ⊥
  not_met reader above b =
      let takes : takes_input b.command ≡ true = subst (λ (c : Command). takes_input c ≡ true) (one reader.0 b.command reader.1 b.words_are) reader.2 in
      let within : s.tells × (length s.left ≤ input_limit) = given_within (takes_input b.command) b.input takes b.given in
      let far = above within.0 in
      omega (arith, within.1, far)

  -- from the end of a call to a fact on its status: done, untold, or refused
  pub by_end : (status : ℕ) (P : ℕ → Type 0) → Ends words s k d status → (EndsDone words s k d → P 0) → (EndsUntold words s k d → P 4) → ((e : Refusal) → Caused e → P (status_of e)) → P status
  by_end status P (inl done) f g h = subst P (sym done.0) (f done.1)
  by_end status P (inr (inl untold)) f g h = subst P (sym untold.0) (g untold.1)
  by_end status P (inr (inr refused)) f g h = subst P (sym refused.status_is) (h refused.refusal refused.cause)

  disk_rose : (e : Refusal) → Caused e → status_of e ≡ 5 → Rose d.faults d.faults_after
  disk_rose DiskFault c h = c.1.2
  disk_rose (Script fault) c h = absurd (script_apart 5 (λ k. omega (arith, k)) (λ k. omega (arith, k)) fault.fault h)
  disk_rose (Rules fault) c h = absurd (rules_apart 5 (λ k. omega (arith, k)) (λ k. omega (arith, k)) fault.fault h)
  disk_rose _ c h = absurd (omega (arith, h))

  pub disk_fault_rose : (status : ℕ) → Ends words s k d status → status ≡ 5 → Rose d.faults d.faults_after
  disk_fault_rose status ends = by_end status (λ n. n ≡ 5 → Rose d.faults d.faults_after) ends (λ done h. cc) (λ untold h. cc) disk_rose

  pub turned_away : (e : Refusal) → CauseAt AtFiles words s d e → TurnsAway words s d e
  turned_away e c = record { asks = c.0; good = c.1.0.0; uses = c.1.0.1; turned = c.1.2 }

  limit_only : (e : Refusal) → Caused e → status_of e ≡ 7 → LimitCause words s d
  limit_only InputLimit c h = inl (c.0.0, c.0.1)
  limit_only (Script fault) c h = inr (inl (fault, h, (c.0, c.1.0)))
  limit_only (Rules fault) c h = inr (inr (inl (fault, h, (c.0, c.1.0))))
  limit_only (Limit what number) c h = inr (inr (inr (what, number, turned_away (Limit what number) c)))
  limit_only _ c h = absurd (omega (arith, h))

  pub limit_cause : (status : ℕ) → Ends words s k d status → status ≡ 7 → LimitCause words s d
  limit_cause status ends = by_end status (λ n. n ≡ 7 → LimitCause words s d) ends (λ done h. absurd (omega (arith, h))) (λ untold h. absurd (omega (arith, h))) limit_only

  abbrev InputCause : Type 0
  InputCause = ((e : Refusal) × (status_of e ≡ 2) × Finds words s e) ⊎ ((line : ℕ) × TurnsAway words s d (Condition line))

  input_only : (e : Refusal) → Caused e → status_of e ≡ 2 → InputCause
  input_only (Image fault) c h = inl (Image fault, h, (c.0, c.1.0))
  input_only (Line fault) c h = inl (Line fault, h, (c.0, c.1.0))
  input_only (Script fault) c h = inl (Script fault, h, (c.0, c.1.0))
  input_only (Rules fault) c h = inl (Rules fault, h, (c.0, c.1.0))
  input_only (Condition line) c h = inr (line, turned_away (Condition line) c)
  input_only _ c h = absurd (omega (arith, h))

  input_found : (e : Refusal) → Caused e → (b : IsGiven words s) → (f : Refusal) → refused_of b ≡ Some f → (status_of e ≡ status_of f) ⊎ ((status_of e ≡ 9) ⊎ (status_of e ≡ 3))
  input_found (Usage at) c b f bad = absurd (apart at c.0.0 b.command b.words_are)
  input_found ReadFault c b f bad = inr (inr refl)
  input_found InputLimit c b f bad = absurd (not_met c.0.0 (λ tells. (c.0.1 tells).0) b)
  input_found (Image fault) c b f bad = inl (ap status_of (found_same c.0 b (Image fault) f c.1.0 bad))
  input_found (Line fault) c b f bad = inl (ap status_of (found_same c.0 b (Line fault) f c.1.0 bad))
  input_found (Script fault) c b f bad = inl (ap status_of (found_same c.0 b (Script fault) f c.1.0 bad))
  input_found (Rules fault) c b f bad = inl (ap status_of (found_same c.0 b (Rules fault) f c.1.0 bad))
  input_found (ClockEnd left) c b f bad = absurd c.1
  input_found (ClockFault left) c b f bad = absurd c.1
  input_found Accept c b f bad = absurd c.1
  input_found (Peer reply why) c b f bad = absurd c.1
  input_found (Lacks source pmid) c b f bad = absurd c.1
  input_found (Clashes pmid) c b f bad = absurd c.1
  input_found (Stands file) c b f bad = absurd c.1
  input_found NoMemory c b f bad = inr (inl refl)
  input_found _ c b f bad = absurd (found_good c.0 b f c.1.0.0 bad)

  pub input_fault_is_exact : (status : ℕ) → Ends words s k d status → InputFaultIsExact words s d status
  input_fault_is_exact status ends = record {
    only = by_end status (λ n. n ≡ 2 → InputCause) ends (λ done h. absurd (omega (arith, h))) (λ untold h. absurd (omega (arith, h))) input_only;
    always = by_end status (λ n. (b : IsGiven words s) → (f : Refusal) → refused_of b ≡ Some f → (n ≡ status_of f) ⊎ ((n ≡ 9) ⊎ (n ≡ 3))) ends
        (λ done b f bad. absurd (found_good done.run.asks b f done.run.served.good bad)) (λ untold b f bad. absurd (found_good untold.run.asks b f untold.run.served.good bad)) input_found;
  }

  -- a file refusal that a command of the words has, told of the command that got its input
  turned_here : (a : Asks words s) (b : IsGiven words s) (e : Refusal) → (meaning b.command).turns_away b.input (files_found d) e → (meaning a.command).turns_away a.input (files_found d) e
  turned_here a b e turned =
      subst (λ (i : List ℕ). (meaning a.command).turns_away i (files_found d) e) (sym (same_input a b))
      (subst (λ (c : Command). (meaning c).turns_away b.input (files_found d) e) (sym (same_command a b)) turned)

  -- which refusal of a good input comes of files that are turned away: one of this status, unless memory ran out, the source or the disk failed
  pub turned_found : (status : ℕ) (b : IsGiven words s) → refused_of b ≡ None → ((a : Asks words s) (e : Refusal) → (d.tells → (meaning a.command).turns_away a.input (files_found d) e) → status_of e ≡ status)
      → (e : Refusal) → Caused e → (status_of e ≡ status) ⊎ ((status_of e ≡ 9) ⊎ ((status_of e ≡ 3) ⊎ (status_of e ≡ 5)))
  turned_found status b good so (Usage at) c = absurd (apart at c.0.0 b.command b.words_are)
  turned_found status b good so ReadFault c = inr (inr (inl refl))
  turned_found status b good so InputLimit c = absurd (not_met c.0.0 (λ tells. (c.0.1 tells).0) b)
  turned_found status b good so (Image fault) c = absurd (found_bad c.0 b (Image fault) c.1.0 good)
  turned_found status b good so (Line fault) c = absurd (found_bad c.0 b (Line fault) c.1.0 good)
  turned_found status b good so (Script fault) c = absurd (found_bad c.0 b (Script fault) c.1.0 good)
  turned_found status b good so (Rules fault) c = absurd (found_bad c.0 b (Rules fault) c.1.0 good)
  turned_found status b good so DiskFault c = inr (inr (inr refl))
  turned_found status b good so (ClockEnd left) c = absurd c.1
  turned_found status b good so (ClockFault left) c = absurd c.1
  turned_found status b good so Accept c = absurd c.1
  turned_found status b good so (Peer reply why) c = absurd c.1
  turned_found status b good so (Lacks source pmid) c = absurd c.1
  turned_found status b good so (Clashes pmid) c = absurd c.1
  turned_found status b good so (Stands file) c = absurd c.1
  turned_found status b good so NoMemory c = inr (inl refl)
  turned_found status b good so e c = inl (so c.0 e c.1.2)

  -- what was done was over files that the command doesn't turn away
  not_welcome : (text : List ℕ) → HasRun words s d text → (b : IsGiven words s) (e : Refusal) → IsNever e → d.tells → (meaning b.command).turns_away b.input (files_found d) e → ⊥
  not_welcome text run b e never tells turned =
      run.served.welcome tells e never (turned_here run.asks b e turned)

  not_nothing : (text : List ℕ) → HasRun words s d text → (b : IsGiven words s) (stamp : Moment) → d.tells → (meaning b.command).turns_away b.input (files_found d) (Nothing stamp) → ⊥
  not_nothing text run b stamp tells turned = (coherent run.asks.command).never_done run.asks.input d text run.served tells stamp (turned_here run.asks b (Nothing stamp) turned)

  not_later_only : (e : Refusal) → Caused e → status_of e ≡ 12 → (last : Moment) × TurnsAway words s d (NotLater last)
  not_later_only (NotLater last) c h = (last, turned_away (NotLater last) c)
  not_later_only (Script fault) c h = absurd (script_apart 12 (λ k. omega (arith, k)) (λ k. omega (arith, k)) fault.fault h)
  not_later_only (Rules fault) c h = absurd (rules_apart 12 (λ k. omega (arith, k)) (λ k. omega (arith, k)) fault.fault h)
  not_later_only _ c h = absurd (omega (arith, h))

  changed_only : (e : Refusal) → Caused e → status_of e ≡ 13 → (pmid : ℕ) × TurnsAway words s d (Changed pmid)
  changed_only (Changed pmid) c h = (pmid, turned_away (Changed pmid) c)
  changed_only (Script fault) c h = absurd (script_apart 13 (λ k. omega (arith, k)) (λ k. omega (arith, k)) fault.fault h)
  changed_only (Rules fault) c h = absurd (rules_apart 13 (λ k. omega (arith, k)) (λ k. omega (arith, k)) fault.fault h)
  changed_only _ c h = absurd (omega (arith, h))

  pub run_is_exact : (status : ℕ) → Ends words s k d status → RunIsExact words s d status
  run_is_exact status ends = record {
    not_later = by_end status (λ n. n ≡ 12 → (last : Moment) × TurnsAway words s d (NotLater last)) ends (λ done h. cc) (λ untold h. cc) not_later_only;
    changed = by_end status (λ n. n ≡ 13 → (pmid : ℕ) × TurnsAway words s d (Changed pmid)) ends (λ done h. cc) (λ untold h. cc) changed_only;
    always = by_end status (λ n. (b : IsGiven words s) → refused_of b ≡ None → d.tells → (reason : Refusal) → IsOfRun reason → (meaning b.command).turns_away b.input (files_found d) reason → (n ≡ status_of reason) ⊎ ((n ≡ 9) ⊎ ((n ≡ 3) ⊎ (n ≡ 5)))) ends
        (λ done b good tells reason run turned. absurd (not_welcome done.text done.run b reason (run_never reason run) tells turned)) (λ untold b good tells reason run turned. absurd (not_welcome untold.text untold.run b reason (run_never reason run) tells turned))
        (λ e c b good tells reason run turned. turned_found (status_of reason) b good (λ a x also. (coherent a.command).one_reason a.input (files_found d) reason x run (turned_here a b reason turned) (also tells)) e c);
  }

  nothing_only : (e : Refusal) → Caused e → status_of e ≡ 11 → (stamp : Moment) × TurnsAway words s d (Nothing stamp)
  nothing_only (Nothing stamp) c h = (stamp, turned_away (Nothing stamp) c)
  nothing_only (Script fault) c h = absurd (script_apart 11 (λ k. omega (arith, k)) (λ k. omega (arith, k)) fault.fault h)
  nothing_only (Rules fault) c h = absurd (rules_apart 11 (λ k. omega (arith, k)) (λ k. omega (arith, k)) fault.fault h)
  nothing_only _ c h = absurd (omega (arith, h))

  pub nothing_is_there : (status : ℕ) → Ends words s k d status → NothingIsThere words s d status
  nothing_is_there status ends = record {
    only = by_end status (λ n. n ≡ 11 → (stamp : Moment) × TurnsAway words s d (Nothing stamp)) ends (λ done h. cc) (λ untold h. cc) nothing_only;
    always = by_end status (λ n. (b : IsGiven words s) → refused_of b ≡ None → d.tells → (stamp : Moment) → (meaning b.command).turns_away b.input (files_found d) (Nothing stamp) → (n ≡ 11) ⊎ ((n ≡ 9) ⊎ ((n ≡ 3) ⊎ (n ≡ 5)))) ends
        (λ done b good tells stamp turned. absurd (not_nothing done.text done.run b stamp tells turned)) (λ untold b good tells stamp turned. absurd (not_nothing untold.text untold.run b stamp tells turned))
        (λ e c b good tells stamp turned. turned_found 11 b good (λ a x also. (coherent a.command).nothing_first a.input (files_found d) stamp x (turned_here a b (Nothing stamp) turned) (also tells)) e c);
  }

  archive_only : (e : Refusal) → Caused e → status_of e ≡ 6 → (x : Refusal) × (status_of x ≡ 6) × TurnsAway words s d x
  archive_only (Compressed file) c h = (Compressed file, h, turned_away (Compressed file) c)
  archive_only (NotArchive file at) c h = (NotArchive file at, h, turned_away (NotArchive file at) c)
  archive_only (Script fault) c h = absurd (script_apart 6 (λ k. omega (arith, k)) (λ k. omega (arith, k)) fault.fault h)
  archive_only (Rules fault) c h = absurd (rules_apart 6 (λ k. omega (arith, k)) (λ k. omega (arith, k)) fault.fault h)
  archive_only _ c h = absurd (omega (arith, h))

  pub archive_fault_is_exact : (status : ℕ) → Ends words s k d status → ArchiveFaultIsExact words s d status
  archive_fault_is_exact status ends = record {
    only = by_end status (λ n. n ≡ 6 → (x : Refusal) × (status_of x ≡ 6) × TurnsAway words s d x) ends (λ done h. cc) (λ untold h. cc) archive_only;
    always = by_end status (λ n. (b : IsGiven words s) → refused_of b ≡ None → d.tells → (file : FileId) → (meaning b.command).turns_away b.input (files_found d) (Compressed file) → (n ≡ 6) ⊎ ((n ≡ 9) ⊎ ((n ≡ 3) ⊎ (n ≡ 5)))) ends
        (λ done b good tells file turned. absurd (not_welcome done.text done.run b (Compressed file) tt tells turned)) (λ untold b good tells file turned. absurd (not_welcome untold.text untold.run b (Compressed file) tt tells turned))
        (λ e c b good tells file turned. turned_found 6 b good (λ a x also. (coherent a.command).wrapped_first a.input (files_found d) file x (turned_here a b (Compressed file) turned) (also tells)) e c);
  }

  left_unwritten : (status : ℕ) (a : Asks words s) → Left (meaning a.command) status a.input d → IsUnwritten words s d status
  left_unwritten status a left = ⊎_elim (λ still. inl still) (λ begun. inr (a, begun)) left.files

  unwritten_at : (stage : Stage) (e : Refusal) → CauseAt stage words s d e → IsUnwritten words s d (status_of e)
  unwritten_at AtWords e c = inl c.1
  unwritten_at AtReading e c = inl c.1
  unwritten_at AtInput e c = inl c.1.1
  unwritten_at AtFiles e c = left_unwritten (status_of e) c.0 c.1.1
  unwritten_at AtDisk e c = left_unwritten (status_of e) c.0 c.1.1
  unwritten_at AtMemory e c = ⊎_elim (λ still. inl still) (λ left. left_unwritten (status_of e) left.0 left.1) c.1
  unwritten_at _ e c = absurd c.1

  -- what a refusal leaves
  pub unwritten : (status : ℕ) → Ends words s k d status → IsRefused status → IsUnwritten words s d status
  unwritten status ends = by_end status (λ n. IsRefused n → IsUnwritten words s d n) ends (λ done h. absurd (h.0 refl)) (λ untold h. absurd (h.1 refl)) (λ e c h. unwritten_at (stage_of e) e c)

  -- in a good run no stage has a cause
  good_apart : IsGoodRun words s k d → (at : ℕ) → asked_by calls.Offline words ≡ Err at → ⊥
  good_apart good at bad = apart at bad good.meets.command good.meets.words_are

  good_within : IsGoodRun words s k d → IsReader words → (s.tells → (input_limit < length s.left) × (s.after ≡ drop 16777217 s.left)) → ⊥
  good_within good reader above = not_met reader (λ tells. (above tells).0) good.meets

  good_input : IsGoodRun words s k d → (a : Asks words s) (e : Refusal) → fault_of a ≡ Some e → ⊥
  good_input good a e bad = found_bad a good.meets e bad good.good

  good_disk : IsGoodRun words s k d → (a : Asks words s) → (meaning a.command).uses_disk ≡ true → IsGoodDisk (meaning a.command) a.input d
  good_disk good a uses =
      subst (λ (c : Command). IsGoodDisk (meaning c) a.input d) (sym (same_command a good.meets))
      (subst (λ (i : List ℕ). IsGoodDisk (meaning good.meets.command) i d) (sym (same_input a good.meets))
      (good.disk (ap (λ (c : Command). (meaning c).uses_disk) (sym (same_command a good.meets)) ∙ uses)))

  good_files : IsGoodRun words s k d → (a : Asks words s) → (meaning a.command).uses_disk ≡ true → (e : Refusal) → (d.tells → (meaning a.command).turns_away a.input (files_found d) e) → status_of e ≡ 11
  good_files good a uses e turned = let disk : IsGoodDisk (meaning a.command) a.input d = good_disk good a uses in disk.welcome e (turned disk.tells)

  good_faults : IsGoodRun words s k d → (a : Asks words s) → (meaning a.command).uses_disk ≡ true → Rose d.faults d.faults_after → ⊥
  good_faults good a uses rose = (good_disk good a uses).kept rose

  good_source : IsGoodRun words s k d → Rose s.faults s.faults_after → ⊥
  good_source good rose = good.source_kept rose

  completed : (e : Refusal) → Caused e → IsGoodRun words s k d → (status_of e ≡ 0) ⊎ ((status_of e ≡ 9) ⊎ (status_of e ≡ 11))
  completed (Usage at) c good = absurd (good_apart good at c.0.0)
  completed ReadFault c good = absurd (good_source good c.0.1.0)
  completed InputLimit c good = absurd (good_within good c.0.0 c.0.1)
  completed (Image fault) c good = absurd (good_input good c.0 (Image fault) c.1.0)
  completed (Line fault) c good = absurd (good_input good c.0 (Line fault) c.1.0)
  completed (Script fault) c good = absurd (good_input good c.0 (Script fault) c.1.0)
  completed (Rules fault) c good = absurd (good_input good c.0 (Rules fault) c.1.0)
  completed DiskFault c good = absurd (good_faults good c.0 c.1.0.1 c.1.2)
  completed (ClockEnd left) c good = absurd c.1
  completed (ClockFault left) c good = absurd c.1
  completed Accept c good = absurd c.1
  completed (Peer reply why) c good = absurd c.1
  completed (Lacks source pmid) c good = absurd c.1
  completed (Clashes pmid) c good = absurd c.1
  completed (Stands file) c good = absurd c.1
  completed NoMemory c good = inr (inl refl)
  completed e c good = inr (inr (good_files good c.0 c.1.0.1 e c.1.2))

  -- good input succeeds
  pub completes : (status : ℕ) → Ends words s k d status → IsGoodRun words s k d → (status ≡ 0) ⊎ ((status ≡ 9) ⊎ (status ≡ 11))
  completes status ends = by_end status (λ n. IsGoodRun words s k d → (n ≡ 0) ⊎ ((n ≡ 9) ⊎ (n ≡ 11))) ends (λ done good. inl refl) (λ untold good. absurd (good.sink_kept untold.rose)) completed

  not_done : (e : Refusal) → Caused e → status_of e ≡ 0 → ⊥
  not_done (Script fault) c h = script_apart 0 (λ k. omega (arith, k)) (λ k. omega (arith, k)) fault.fault h
  not_done (Rules fault) c h = rules_apart 0 (λ k. omega (arith, k)) (λ k. omega (arith, k)) fault.fault h
  not_done _ c h = omega (arith, h)

  -- where the status is 0
  pub is_done : (status : ℕ) → Ends words s k d status → status ≡ 0 → EndsDone words s k d
  is_done status ends = by_end status (λ n. n ≡ 0 → EndsDone words s k d) ends (λ done h. done) (λ untold h. cc) (λ e c h. absurd (not_done e c h))

  still_settled : Untouched d → d.tells → IsSettled d.held → IsSettled d.after
  still_settled still tells settled = subst IsSettled (sym (still tells)) settled

  settled_at : (stage : Stage) (e : Refusal) → CauseAt stage words s d e → (status_of e ≡ 5 → ⊥) → d.tells → IsSettled d.held → IsSettled d.after
  settled_at AtWords e c h = still_settled c.1
  settled_at AtReading e c h = still_settled c.1
  settled_at AtInput e c h = still_settled c.1.1
  settled_at AtFiles e c h = c.1.1.settled h
  settled_at AtDisk e c h = c.1.1.settled h
  settled_at AtMemory e c h = ⊎_elim still_settled (λ left. left.1.settled h) c.1
  settled_at _ e c h = absurd c.1

  -- a settled disk is settled after every status but 5
  pub settles : (status : ℕ) → Ends words s k d status → (status ≡ 5 → ⊥) → d.tells → IsSettled d.held → IsSettled d.after
  settles status ends = by_end status (λ n. (n ≡ 5 → ⊥) → d.tells → IsSettled d.held → IsSettled d.after) ends
      (λ done h tells settled. done.run.served.settled tells settled) (λ untold h tells settled. untold.run.served.settled tells settled) (λ e c. settled_at (stage_of e) e c)

  -- each crash from then on leaves what the command keeps
  pub keeps : (status : ℕ) → Ends words s k d status → status ≡ 0 → d.tells → Keeps words s d.held d.after
  keeps status ends zero tells =
      let done : EndsDone words s k d = is_done status ends zero in
      record { asks = done.run.asks; each = done.run.served.kept tells }

  -- ---- the regions

  -- the words are a command that runs a script
  abbrev pub AsksRun : Type 0
  AsksRun = (command : Command) × IsCommand words command × ((meaning command).runs_script ≡ true)

  module _ (opened : Option Opened) where
    good_regions : (e : Refusal) → Caused e → (AsksRun → HasRegions (Err e) opened) → (b : IsGiven words s) → refused_of b ≡ None → (meaning b.command).runs_script ≡ true → IsSome opened ⊎ ((status_of e ≡ 9) ⊎ (status_of e ≡ 3))
    good_regions (Usage at) c has b good runs = absurd (apart at c.0.0 b.command b.words_are)
    good_regions ReadFault c has b good runs = inr (inr refl)
    good_regions InputLimit c has b good runs = absurd (not_met c.0.0 (λ tells. (c.0.1 tells).0) b)
    good_regions (Image fault) c has b good runs = absurd (found_bad c.0 b (Image fault) c.1.0 good)
    good_regions (Line fault) c has b good runs = absurd (found_bad c.0 b (Line fault) c.1.0 good)
    good_regions (Script fault) c has b good runs = absurd (found_bad c.0 b (Script fault) c.1.0 good)
    good_regions (Rules fault) c has b good runs = absurd (found_bad c.0 b (Rules fault) c.1.0 good)
    good_regions Accept c has b good runs = absurd c.1
    good_regions (Peer reply why) c has b good runs = absurd c.1
    good_regions (Lacks source pmid) c has b good runs = absurd c.1
    good_regions (Clashes pmid) c has b good runs = absurd c.1
    good_regions (Stands file) c has b good runs = absurd c.1
    good_regions NoMemory c has b good runs = inr (inl refl)
    good_regions _ c has b good runs = inl (has (b.command, b.words_are, runs))

    ran_regions : (e : Refusal) → (AsksRun → HasRegions (Err e) opened) → AsksRun → ComesOfRun (status_of e) → IsSome opened
    ran_regions (Usage at) has asks h = absurd (not_run 1 refl h)
    ran_regions ReadFault has asks h = absurd (not_run 3 refl h)
    ran_regions InputLimit has asks h = absurd (not_run 7 refl h)
    ran_regions (Image fault) has asks h = absurd (not_run 2 refl h)
    ran_regions (Line fault) has asks h = absurd (not_run 2 refl h)
    ran_regions (Script fault) has asks h = absurd (script_not_run fault.fault h)
    ran_regions (Rules fault) has asks h = absurd (rules_not_run fault.fault h)
    ran_regions Accept has asks h = absurd (not_run 21 refl h)
    ran_regions (Peer reply why) has asks h = absurd (not_run 16 refl h)
    ran_regions (Lacks source pmid) has asks h = absurd (not_run 18 refl h)
    ran_regions (Clashes pmid) has asks h = absurd (not_run 19 refl h)
    ran_regions (Stands file) has asks h = absurd (not_run 23 refl h)
    ran_regions NoMemory has asks h = absurd (not_run 9 refl h)
    ran_regions _ has asks h = has asks

    pub refused_opens : (e : Refusal) → Caused e → (AsksRun → HasRegions (Err e) opened) → (status : ℕ) → status ≡ status_of e → OpensRegions words s opened status
    refused_opens e c has status is = subst (OpensRegions words s opened) (sym is) (record { good = good_regions e c has; ran = λ command is runs h. ran_regions e has (command, is, runs) h })

    pub done_opens : (text : List ℕ) → (AsksRun → HasRegions (Ok text) opened) → (status : ℕ) → OpensRegions words s opened status
    done_opens output has status = record { good = λ b good runs. inl (has (b.command, b.words_are, runs)); ran = λ command is runs h. has (command, is, runs) }

    pub untold_opens : OpensRegions words s opened 9
    untold_opens = record { good = λ b good runs. inr (inl refl); ran = λ command is runs h. absurd (not_run 9 refl h) }
