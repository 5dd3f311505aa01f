-- A call whose body met its command's meaning, and whose end was told, says all that it says.
use Rattle.std.proofs.Common.{◌≡◌, ◌⊎◌, inl, inr, ⊎_elim, ℕ, Bool, true, false, List, refl, sym, ap, ◌∙◌, subst, Option, None, Result, Ok, Err, IfErr}
use Rattle.pcp_model.specs.Disk.{CrashImage, contents_of}
use Rattle.pcp_outside.proofs.Crash.{weaker}
use Rattle.pcp_outside.specs.Sides.{SourceSide, sink_side}
use Rattle.pcp_outside.specs.declared.disk.Disk.{Ghosts as DiskGhosts}
use Rattle.run_passes.specs.declared.opening.Opened.{Opened}
use Rattle.pm_words.specs.declared.words.Call.TheVariants as calls
use Rattle.pm_words.specs.declared.words.Command.{Command}
use Rattle.pm_words.specs.declared.words.Command.TheVariants.{Retire}
use Rattle.pm_words.specs.declared.refusal.Refusal.{Refusal}
use Rattle.pm_words.specs.declared.refusal.Refusal.TheVariants.{Usage, ReadFault, InputLimit, NoMemory}
use Rattle.pm_words.specs.Asking.{Before, Got, IsInputless}
use Rattle.pm_words.specs.CommandLine.{takes_input}
use Rattle.pm_words.specs.Meaning.{Meaning}
use Rattle.pm_words.specs.Serving.{HadRecovered, HasRecovered, HasRegions, MayLeave, StopCause}
use Rattle.pm_words.specs.Sides.{DiskSide, IsUnread, Leaves}
use Rattle.pm_words.specs.Telling.{IsToldBy, TellsAll, TellsEnd}
use Rattle.pm_words.proofs.Asked as asked
use Rattle.pm_words.proofs.Asked.{IsOfBody}
use Rattle.pm_words.proofs.Recovering.{by_status, never_nine, not_yet}
use Rattle.pm_words.proofs.Telling.{tells_all, told_by}
use Rattle.pm_runs.specs.commands.retire.{Went}
use Rattle.pm_commands.specs.Causes.{Cause}
use Rattle.pm_commands.specs.Ends.{Ends, EndsDone, MayBeLeft}
use Rattle.pm_commands.specs.Facts.{Facts, IsAside, IsCommand, LeavesRegions, LeavesRetired, OpensRegions, Sides, StaysSound, WentOn, disk_of, sink_of, source_of}
use Rattle.pm_commands.specs.Meanings.{meaning}
use Rattle.pm_commands.specs.Running.{Did, Runs, Stopped}
use Rattle.pm_commands.proofs.Coherents.{coherent}
use Rattle.pm_commands.proofs.Ending.{before_cause, ends, stop_cause}
use Rattle.pm_commands.proofs.Facts as facts_of
use Rattle.pm_commands.proofs.Judged.{soundness_is_exact}
use Rattle.pm_commands.proofs.Lives.{live_is_exact}

-- a body's refusal is none of the words or of the reading
of_body : (m : Meaning) (input : List ℕ) (d : DiskSide) (e : Refusal) → StopCause m input d e → IsOfBody e
of_body m input d (Usage at) c = c
of_body m input d ReadFault c = c
of_body m input d InputLimit c = c
of_body m input d _ c = tt

same_refusal : (a b : Refusal) (r : Result (List ℕ) Refusal) → r ≡ Err a → r ≡ Err b → a ≡ b
same_refusal a b r is also = let e : Err a ≡ Err b = sym is ∙ also in cc

-- a refusal before the command owes no regions
no_regions : (words : List (List ℕ)) (s : SourceSide) (opened : Option Opened) (e : Refusal) → Before calls.Offline words s e → HasRegions (Err e) opened
no_regions words s opened (Usage at) b = tt
no_regions words s opened ReadFault b = tt
no_regions words s opened InputLimit b = tt
no_regions words s opened NoMemory b = tt
no_regions words s opened _ b = absurd b

-- one before the command leaves the disk alone
not_gone : {D : Type 0} (g : DiskGhosts D) (a b : D) (below : ℕ) (words : List (List ℕ)) (s : SourceSide) (e : Refusal) → Before calls.Offline words s e → g.held b ≡ g.held a → Went g a b below (Err e)
not_gone g a b below words s (Usage at) before same = same
not_gone g a b below words s ReadFault before same = same
not_gone g a b below words s InputLimit before same = same
not_gone g a b below words s NoMemory before same = inl same
not_gone g a b below words s _ before same = absurd before

recovered_by : (result : Result (List ℕ) Refusal) (status : ℕ) → IsToldBy result status → HadRecovered status → HasRecovered result
recovered_by (Ok text) status told had = tt
recovered_by (Err e) status (inl is) had = by_status e (subst HadRecovered is had)
recovered_by (Err e) status (inr (is, some)) had = absurd (never_nine (subst HadRecovered is had))

module _ {I O D : Type 0} (c : Sides I O D) (front : List ℕ) (result : Result (List ℕ) Refusal) (status : ℕ) (told : TellsAll (sink_of c) front result status) where
  abbrev DidIt : Type 0
  DidIt = Did c.words (source_of c) c.disks c.disk_was c.disk_is c.opened front result

  abbrev StoppedIt : Type 0
  StoppedIt = Stopped c.words (source_of c) c.disks c.disk_was c.disk_is c.opened front result

  is_told : IsToldBy result status
  is_told = told_by (sink_of c) front result status told

  -- words are one command
  same : (did : DidIt) (command : Command) → IsCommand c.words command → did.asks.command ≡ command
  same did command is = asked.one calls.Offline c.words (source_of c) did.asks.command command did.asks.words_are is

  came : DidIt ⊎ StoppedIt → asked.Came calls.Offline c.words (source_of c) result
  came (inl did) = inl (did.asks, λ e is. of_body (meaning did.asks.command) did.asks.input (disk_of c) e (subst (λ (r : Result (List ℕ) Refusal). IfErr r (λ x. StopCause (meaning did.asks.command) did.asks.input (disk_of c) x × (meaning did.asks.command).begins did.asks.input (disk_of c) x front)) is did.meets.stops).0)
  came (inr stopped) = inr (stopped.refusal, stopped.is, stopped.before)

  is_aside : DidIt ⊎ StoppedIt → IsAside c.words → c.disk_is ≡ c.disk_was
  is_aside (inl did) (command, is, unused) = did.meets.aside (ap (λ (x : Command). (meaning x).uses_disk) (same did command is) ∙ unused)
  is_aside (inr stopped) asks = stopped.same

  takes : DidIt ⊎ StoppedIt → c.disks.tells → (command : Command) → IsCommand c.words command → (meaning command).takes (contents_of (c.disks.held c.disk_was)) (c.disks.taken c.disk_was) (c.disks.taken c.disk_is)
  takes (inl did) tells command is = subst (λ (x : Command). (meaning x).takes (contents_of (c.disks.held c.disk_was)) (c.disks.taken c.disk_was) (c.disks.taken c.disk_is)) (same did command is) (did.meets.taken tells)
  takes (inr stopped) tells command is =
      subst (λ (x : D). (meaning command).takes (contents_of (c.disks.held c.disk_was)) (c.disks.taken c.disk_was) (c.disks.taken x)) (sym stopped.same)
      ((coherent command).takes_none (contents_of (c.disks.held c.disk_was)) (c.disks.taken c.disk_was))

  leaves : DidIt ⊎ StoppedIt → Leaves c.disks c.disk_was c.disk_is (MayBeLeft c.words (source_of c))
  leaves (inl did) = λ tells. weaker c.disks.moment c.disks.left_since c.disks.held c.disk_was c.disk_is (MayLeave (meaning did.asks.command) did.asks.input (c.disks.held c.disk_was)) (MayBeLeft c.words (source_of c) (c.disks.held c.disk_was))
      (did.meets.any_moment tells)
      (λ crash may. ⊎_elim (λ (was : CrashImage (c.disks.held c.disk_was) crash). inl was) (λ (left : (meaning did.asks.command).may_leave did.asks.input (c.disks.held c.disk_was) crash). inr (did.asks, left)) may)
  leaves (inr stopped) = λ tells. weaker c.disks.moment c.disks.left_since c.disks.held c.disk_was c.disk_is (CrashImage (c.disks.held c.disk_was)) (MayBeLeft c.words (source_of c) (c.disks.held c.disk_was))
      (stopped.moments tells) (λ crash was. inl was)

  goes_on : DidIt ⊎ StoppedIt → c.disks.tells → HadRecovered status → WentOn c
  goes_on (inl did) tells had = record { asks = did.asks; since = did.meets.since tells (recovered_by result status is_told had) }
  goes_on (inr stopped) tells had = absurd (not_yet calls.Offline c.words (source_of c) stopped.refusal stopped.before (subst HasRecovered stopped.is (recovered_by result status is_told had)))

  leaves_regions : DidIt ⊎ StoppedIt → LeavesRegions c status
  leaves_regions (inl did) = record { front = front; answer = result; told = told; ran = inr (did.asks, did.meets.ran) }
  leaves_regions (inr stopped) = record { front = front; answer = result; told = told; ran = inl stopped.none }

  leaves_retired : DidIt ⊎ StoppedIt → c.disks.tells → (below : ℕ) → IsCommand c.words (Retire below) → LeavesRetired c below status
  leaves_retired (inl did) tells below is = record {
    front = front;
    answer = result;
    told = told;
    went = (subst (λ (x : Command). (meaning x).ran c.disks did.asks.input c.disk_was c.disk_is c.opened front result) (same did (Retire below) is) did.meets.ran).1 tells;
  }
  leaves_retired (inr stopped) tells below is = record {
    front = front;
    answer = result;
    told = told;
    went = subst (Went c.disks c.disk_was c.disk_is below) (sym stopped.is) (not_gone c.disks c.disk_was c.disk_is below c.words (source_of c) stopped.refusal stopped.before (ap c.disks.held stopped.same));
  }

  has_regions : DidIt ⊎ StoppedIt → facts_of.AsksRun c.words (source_of c) (sink_of c) (disk_of c) → HasRegions result c.opened
  has_regions (inl did) (command, is, runs) = did.meets.regions (ap (λ (x : Command). (meaning x).runs_script) (same did command is) ∙ runs)
  has_regions (inr stopped) asks = subst (λ (r : Result (List ℕ) Refusal). HasRegions r c.opened) (sym stopped.is) (no_regions c.words (source_of c) c.opened stopped.refusal stopped.before)

  has_cause : DidIt ⊎ StoppedIt → (e : Refusal) → result ≡ Err e → Cause c.words (source_of c) (disk_of c) e
  has_cause (inl did) e is =
      stop_cause c.words (source_of c) (sink_of c) (disk_of c) did.asks e
      (subst (λ (r : Result (List ℕ) Refusal). IfErr r (λ x. StopCause (meaning did.asks.command) did.asks.input (disk_of c) x × (meaning did.asks.command).begins did.asks.input (disk_of c) x front)) is did.meets.stops).0
  has_cause (inr stopped) e is =
      let one : stopped.refusal ≡ e = same_refusal stopped.refusal e result stopped.is is in
      subst (Cause c.words (source_of c) (disk_of c)) one (before_cause c.words (source_of c) (sink_of c) (disk_of c) stopped.refusal stopped.before (λ tells. ap c.disks.held stopped.same))

  opens : (r : Result (List ℕ) Refusal) → result ≡ r → IsToldBy r status → DidIt ⊎ StoppedIt → OpensRegions c.words (source_of c) c.opened status
  opens (Ok text) is told_so so = facts_of.done_opens c.words (source_of c) (sink_of c) (disk_of c) c.opened text (λ asks. subst (λ (r : Result (List ℕ) Refusal). HasRegions r c.opened) is (has_regions so asks)) status
  opens (Err e) is (inl at) so =
      facts_of.refused_opens c.words (source_of c) (sink_of c) (disk_of c) c.opened e (has_cause so e is) (λ asks. subst (λ (r : Result (List ℕ) Refusal). HasRegions r c.opened) is (has_regions so asks)) status at
  opens (Err e) is (inr (at, some)) so = subst (OpensRegions c.words (source_of c) c.opened) (sym at) (facts_of.untold_opens c.words (source_of c) (sink_of c) (disk_of c) c.opened)

  unruns : DidIt ⊎ StoppedIt → (command : Command) → IsCommand c.words command → (meaning command).runs_script ≡ true → c.opened ≡ None → c.disk_is ≡ c.disk_was
  unruns (inl did) command is runs none = did.meets.unrun (ap (λ (x : Command). (meaning x).runs_script) (same did command is) ∙ runs) none
  unruns (inr stopped) command is runs none = stopped.same

  stays_unread : DidIt ⊎ StoppedIt → IsUnread c.disks c.disk_was → Leaves c.disks c.disk_was c.disk_is CrashImage
  stays_unread (inl did) none = did.meets.unread none
  stays_unread (inr stopped) none = stopped.moments

  stays_sound : EndsDone c.words (source_of c) (sink_of c) (disk_of c) → c.disks.tells → StaysSound c.words (c.disks.held c.disk_was) (c.disks.held c.disk_is)
  stays_sound done tells = λ command is writes.
      let one : done.run.asks.command ≡ command = asked.one calls.Offline c.words (source_of c) done.run.asks.command command done.run.asks.words_are is in
      (coherent done.run.asks.command).sound done.run.asks.input (disk_of c) (ap (λ (x : Command). (meaning x).writes_archive) one ∙ writes) tells done.run.served.done

  -- what was got left the source's count
  got_quietly : (takes : Bool) (input : List ℕ) → Got takes (source_of c) input → (takes ≡ false → c.input_is ≡ c.input_was) → c.sources.faults c.input_is ≡ c.sources.faults c.input_was
  got_quietly false input got left = ap c.sources.faults (left refl)
  got_quietly true input got left = got.quiet

  read_quietly : (IsInputless calls.Offline c.words → c.input_is ≡ c.input_was) → EndsDone c.words (source_of c) (sink_of c) (disk_of c) → c.sources.faults c.input_is ≡ c.sources.faults c.input_was
  read_quietly unasked done = let a = done.run.asks in got_quietly (takes_input a.command) a.input a.got (λ none. unasked (a.command, a.words_are, none))

  whole : DidIt ⊎ StoppedIt → (IsInputless calls.Offline c.words → c.input_is ≡ c.input_was) → Facts c status
  whole so unasked =
      let end : Ends c.words (source_of c) (sink_of c) (disk_of c) status = ends c.words (source_of c) (sink_of c) c.disks c.disk_was c.disk_is c.opened front result status so told in
      let to : status ≡ 0 → EndsDone c.words (source_of c) (sink_of c) (disk_of c) = facts_of.is_done c.words (source_of c) (sink_of c) (disk_of c) status end in
      record {
        ends = end;
        done = to;
        quiet = λ zero. (read_quietly unasked (to zero), (to zero).quiet, (to zero).run.served.quiet);
        usage = asked.usage_is_exact calls.Offline c.words (source_of c) result status is_told (came so);
        reading = asked.reading_is_exact calls.Offline c.words (source_of c) result status is_told (came so);
        input_fault = facts_of.input_fault_is_exact c.words (source_of c) (sink_of c) (disk_of c) status end;
        input_limit = facts_of.limit_cause c.words (source_of c) (sink_of c) (disk_of c) status end;
        write_fault = asked.write_fault (sink_of c) front result status told;
        disk_fault = facts_of.disk_fault_rose c.words (source_of c) (sink_of c) (disk_of c) status end;
        run_refused = facts_of.run_is_exact c.words (source_of c) (sink_of c) (disk_of c) status end;
        nothing_there = facts_of.nothing_is_there c.words (source_of c) (sink_of c) (disk_of c) status end;
        soundness = soundness_is_exact c.words (source_of c) (sink_of c) (disk_of c) status end;
        live = live_is_exact c.words (source_of c) (sink_of c) (disk_of c) status end;
        archive_fault = facts_of.archive_fault_is_exact c.words (source_of c) (sink_of c) (disk_of c) status end;
        unwritten = facts_of.unwritten c.words (source_of c) (sink_of c) (disk_of c) status end;
        aside = is_aside so;
        unasked = unasked;
        taken = takes so;
        completes = facts_of.completes c.words (source_of c) (sink_of c) (disk_of c) status end;
        settled = facts_of.settles c.words (source_of c) (sink_of c) (disk_of c) status end;
        any_moment = leaves so;
        unread = stays_unread so;
        kept = facts_of.keeps c.words (source_of c) (sink_of c) (disk_of c) status end;
        sound = λ zero. stays_sound (to zero);
        since = goes_on so;
        retired = leaves_retired so;
        ran = leaves_regions so;
        regions = opens result refl is_told so;
        unrun = unruns so;
      }

pub facts : {I O D : Type 0} (c : Sides I O D) (mid : O) (failed : Bool) (result : Result (List ℕ) Refusal) (status : ℕ)
    → Runs c.words (source_of c) c.disks c.disk_was c.disk_is c.opened (sink_side c.sinks c.out_was mid) failed result → (IsInputless calls.Offline c.words → c.input_is ≡ c.input_was)
    → TellsEnd (sink_side c.sinks mid c.out_is) failed result status → Facts c status
facts c mid failed result status runs unasked tells =
    whole c runs.front result status (tells_all c.sinks c.out_was mid c.out_is runs.front failed result status runs.sent tells) runs.came unasked
