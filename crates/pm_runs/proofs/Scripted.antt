-- What a command does that runs a script, path by path: its input is refused, or memory before the run; the run is done, and told or not; or
-- it is refused.
use Rattle.std.proofs.Common.{◌≡◌, ◌≢◌, ◌⊎◌, inl, inr, ⊎_elim, ℕ, true, false, List, [], ◌++◌, arith, length, take, Option, Some, None, Result, Ok, Err, IfOk, IfErr, OnOk, refl, sym, ap, ◌∙◌, subst}
use Rattle.std.proofs.lemmas.Option.{none-some}
use Rattle.pcp_base.specs.declared.file.FileId.{FileId}
use Rattle.pcp_base.specs.declared.result.Item.{Item}
use Rattle.pcp_model.specs.Disk.{CrashImage, IsSettled, contents_of}
use Rattle.pcp_outside.specs.Causes.{Rose}
use Rattle.pcp_outside.specs.Devices.{LeavesOnly}
use Rattle.pcp_outside.specs.declared.disk.Disk.{Ghosts as DiskGhosts}
use Rattle.pcp_outside.proofs.Crash.{weaker}
use Rattle.archive_loading.proofs.Looking.{OnlyNow, looks_none}
use Rattle.logging_session.specs.ComingBack.{MayBeAfter}
use Rattle.logging_session.specs.Events.{Event, items_by}
use Rattle.run_script.specs.declared.script.Script.{Script}
use Rattle.script_runs.specs.declared.ending.Ending.{Ending}
use Rattle.script_runs.specs.declared.ending.Ending.TheVariants as ends
use Rattle.script_runs.specs.Runs.{Does, Goes, RanTo, RunDoes, RunsTo, run_start, with_end}
use Rattle.script_runs.specs.Steps.{RunState}
use Rattle.run_passes.specs.declared.opening.Opened.{Opened}
use Rattle.run_archive.specs.declared.replayed.Replayed.{Replayed}
use Rattle.run_archive.specs.Endings.{LeavesCount, MayEnd}
use Rattle.run_archive.specs.Outcomes.{IsFlushed, IsUnrecovered, WentOn, left_of}
use Rattle.record_run.specs.Replays.{ReplaysFiles}
use Rattle.pm_words.specs.declared.refusal.Refusal.{Refusal}
use Rattle.pm_words.specs.declared.refusal.Refusal.TheVariants.{Condition, Limit, NotLater, Changed, Compressed, NotArchive, DiskFault, NoMemory}
use Rattle.pm_words.specs.Inputs.{Refuses, RefusesAt, refusal_of}
use Rattle.pm_words.specs.Meaning.{Meaning}
use Rattle.pm_words.specs.Refusals.{Stage, AtInput, AtFiles, AtDisk, AtClock, AtMemory, IsOfRun, ending_refusal, stage_of, status_of}
use Rattle.pm_words.specs.Serving.{HasRecovered, HasRegions, HasServed, LeavesAt, Left, MayLeave, Meets, StopCause, StopsAt}
use Rattle.pm_words.specs.Sides.{DiskSide, Leaves, disk_side, files_found}
use Rattle.pm_words.proofs.Recovering.{no_input_yet}
use Rattle.pm_words.proofs.Serving.{left_alone, no_good}
use Rattle.pm_runs.specs.Regions.{AnswersRun, RanRegions}
use Rattle.pm_runs.specs.Runners.{OfScript, Runner}
use Rattle.pm_runs.specs.Running.{WasRun}
use Rattle.pm_runs.specs.Scripts.{HasWritten, IsOwn, IsRunRefused, IsTurnedAway, Leads, LogsFirst, RefusedWith, RunsSo, ScriptSince, StoppedAt, WantsWith, WrittenAt, runs_script}
use Rattle.pm_runs.proofs.Coherent.{done_welcome, of_one}
use Rattle.pm_runs.proofs.Sound.{run_leaves_sound}

-- ---- before the run

stop_begins : (stage : Stage) (c : Runner) (input : List ℕ) (d : DiskSide) (e : Refusal) → RefusesAt stage c.reads input e → WrittenAt stage c input d e []
stop_begins AtInput c input d e refuses = refl
stop_begins AtMemory c input d e refuses = inl refl
stop_begins _ c input d e refuses = absurd refuses

no_regions : (stage : Stage) (c : Runner) (input : List ℕ) (e : Refusal) (opened : Option Opened) → RefusesAt stage c.reads input e → LeavesAt stage opened
no_regions AtInput c input e opened refuses = tt
no_regions AtMemory c input e opened refuses = tt
no_regions _ c input e opened refuses = absurd refuses

-- the input is refused, or memory
pub runner_refused : (c : Runner) (input : List ℕ) {D : Type 0} (g : DiskGhosts D) → OnlyNow g → {old new : D} {opened : Option Opened} (e : Refusal) → new ≡ old → opened ≡ None → Refuses c.reads input e
    → Meets (runs_script c) input g old new opened [] (Err e)
runner_refused c input {D} g now {old} {new} {opened} e same none refuses =
    let d : DiskSide = disk_side g old new in
    let moments : Leaves g old new CrashImage = λ t. subst (λ (x : D). LeavesOnly g.moment g.left_since old x (CrashImage (g.held old))) (sym same) ((looks_none g now old).moments t) in
    record {
      done = tt;
      stops = (no_good (runs_script c) input d e refuses (λ t. ap g.held same), stop_begins (stage_of e) c input d e refuses);
      aside = λ no. same;
      unread = λ not. moments;
      any_moment = λ t. weaker g.moment g.left_since g.held old new (CrashImage (g.held old)) (MayLeave (runs_script c) input (g.held old)) (moments t) (λ crash was. inl was);
      taken = λ t. tt;
      since = λ t h. absurd (no_input_yet c.reads input e refuses h);
      ran = subst (λ (x : Option Opened). RanRegions g c input old new x [] (Err e)) (sym none) tt;
      regions = λ runs. no_regions (stage_of e) c input e opened refuses;
      unrun = λ runs not. same;
    }

-- ---- the run of one script

-- what ends without a refusal is done
pub is_done : (e : Ending) → ending_refusal e ≡ None → e ≡ ends.Done
is_done ends.Done why = refl
is_done _ why = cc

-- and then no call of the disk failed
pub quiet_done : (before after : ℕ) (e : Ending) → ending_refusal e ≡ None → LeavesCount before after e → after ≡ before
quiet_done before after ends.Done why quiet = quiet
quiet_done before after _ why quiet = cc

-- a run of its own ending began
own_recovered : {D : Type 0} (g : DiskGhosts D) (old new : D) (e : Ending) → IsOwn e → IsUnrecovered g old new e → ⊥
own_recovered g old new ends.Done own not_so = not_so
own_recovered g old new (ends.Condition line) own not_so = not_so
own_recovered g old new (ends.Limit what number) own not_so = not_so
own_recovered g old new (ends.NotLater last) own not_so = not_so
own_recovered g old new (ends.Changed pmid) own not_so = not_so
own_recovered g old new _ own not_so = own

state_none : (script : Script) (count : ℕ) (s : RunState) → count ≡ 0 → Goes script (take count script.steps) (run_start script) s → s.output ≡ []
state_none script count s none goes = ap (λ (t : RunState). t.output) (subst (λ (n : ℕ). Goes script (take n script.steps) (run_start script) s) none goes)

-- regions that are there are there, whatever is answered
leaves_at : (stage : Stage) (there : Opened) → LeavesAt stage (Some there)
leaves_at AtFiles there = refl
leaves_at AtDisk there = refl
leaves_at AtClock there = refl
leaves_at _ there = tt

has_regions : (answer : Result (List ℕ) Refusal) (there : Opened) → HasRegions answer (Some there)
has_regions (Ok text) there = refl
has_regions (Err e) there = leaves_at (stage_of e) there

module _ (c : Runner) (input : List ℕ) {script : Script} (is : c.script input ≡ Some script) (good : refusal_of c.reads input ≡ None) where
  abbrev m : Meaning
  m = runs_script c

  module _ {D : Type 0} {g : DiskGhosts D} {old new : D} {opened : Option Opened} {r : Replayed} (run : WasRun g script c.limit old new opened r) where
    abbrev d : DiskSide
    d = disk_side g old new

    abbrev ran : RanTo script r.ending r.output run.is.run.regions
    ran = run.is.run.ran

    abbrev files : g.tells → ReplaysFiles g c.limit old new ran
    files t = run.is.told t

    -- what it did where recovery answered
    abbrev Went : g.tells → Type 0
    Went t = (w : WentOn g c.limit (files t).events (files t).more old new r.ending) × RunDoes c.limit (left_of g c.limit (files t).events (files t).more old new w) ran (files t).events (files t).more

    -- a run of its own ending went on
    went : IsOwn r.ending → (t : g.tells) → Went t
    went own t = ⊎_elim (λ n. absurd (own_recovered g old new r.ending own n.0)) (λ w. w) (files t).on.begun

    -- what was to be written of a run that ended so, and where it didn't begin
    wrote_as : (e : Ending) → r.ending ≡ e → r.output ≡ with_end e ran.last
    wrote_as e same = ran.output_is ∙ ap (λ (x : Ending). with_end x ran.last) same

    none_yet : ran.further.lines ≡ 0 → ran.last.output ≡ []
    none_yet none = state_none script ran.count ran.last (omega (arith, none, ran.further.on)) ran.ran.goes

    -- it went so
    so : (t : g.tells) → Went t → RunsSo script c.limit (contents_of d.held) r.ending r.output (files t).events (files t).more run.is.run.regions
    so t (w, does) = record { left = left_of g c.limit (files t).events (files t).more old new w; recovered = record { reading = w.reading; was = w.was; recovered = w.recovered }; ran = ran; does = does }

    -- to files, unless the disk failed
    runs : (t : g.tells) → r.ending ≢ ends.DiskFault → Went t → RunsTo script c.limit (contents_of d.held) r.ending r.output (files t).events run.is.run.regions (contents_of d.after)
    runs t other (w, does) =
        let flushed = w.flushed other in record {
          left = left_of g c.limit (files t).events (files t).more old new w;
          recovered = record { reading = w.reading; was = w.was; recovered = w.recovered };
          ran = ran;
          does = subst (λ (items : List Item). RunDoes c.limit (left_of g c.limit (files t).events (files t).more old new w) ran (files t).events items) flushed.none does;
          files = flushed.files;
        }

    leads : (e : Ending) → r.ending ≡ e → (t : g.tells) → r.ending ≢ ends.DiskFault → Went t → Leads script c.limit (contents_of d.held) e r.output (files t).events (contents_of d.after)
    leads e same t other w =
        record { regions = run.is.run.regions; runs = subst (λ (y : Ending). RunsTo script c.limit (contents_of d.held) y r.output (files t).events run.is.run.regions (contents_of d.after)) same (runs t other w) }

    own_as : (e : Ending) → r.ending ≡ e → IsOwn e → IsOwn r.ending
    own_as e same own = subst IsOwn (sym same) own

    own_not_disk : IsOwn r.ending → r.ending ≢ ends.DiskFault
    own_not_disk own = λ failed. subst IsOwn failed own

    own_leads : (e : Ending) → r.ending ≡ e → IsOwn e → (t : g.tells) → Leads script c.limit (contents_of d.held) e r.output (files t).events (contents_of d.after)
    own_leads e same own t = let mine = own_as e same own in leads e same t (own_not_disk mine) (went mine t)

    flushed_by : (own : IsOwn r.ending) → (t : g.tells) → IsFlushed g c.limit (files t).events (files t).more old new (left_of g c.limit (files t).events (files t).more old new (went own t).0)
    flushed_by own t = (went own t).0.flushed (own_not_disk own)

    -- ---- it is done

    -- how many results were logged
    count_of : r.ending ≡ ends.Done → (t : g.tells) → r.logged ≡ length (items_by (files t).events)
    count_of same t =
        let w = went (own_as ends.Done same tt) t in
        let nothing = subst (λ (e : Ending). Does script c.limit (left_of g c.limit (files t).events (files t).more old new w.0) ran.count ran.last ran.further.lines ran.further.state e (files t).events (files t).more) same w.1 in
        run.is.run.counted ∙ ap (λ (events : List Event). length (items_by events)) (sym nothing.0)

    has_served : (text : List ℕ) → r.ending ≡ ends.Done → g.faults new ≡ g.faults old → (g.tells → c.says script r.logged r.output (contents_of d.after) text) → HasServed m input d text
    has_served text same quiet says =
        let own : IsOwn r.ending = own_as ends.Done same tt in record {
          good = good;
          welcome = λ t e never away.
              let both = of_one c input (λ s. IsTurnedAway c.limit (files_found d) s e) (λ s. Leads s c.limit (contents_of d.held) ends.Done r.output (files t).events (contents_of d.after)) away (script, is, own_leads ends.Done same tt t) in
              done_welcome (files_found d) both.0 c.limit r.output (files t).events (contents_of d.after) both.2.1 (went own t).0.unwrapped e both.2.0;
          done = λ t. record {
            unwrapped = (went own t).0.unwrapped;
            settled = (flushed_by own t).settled;
            sound = let w = (went own t).0 in run_leaves_sound g c.limit (files t).events (files t).more old new (contents_of (g.held w.middle)) w.reading w.was w.recovered (flushed_by own t);
          };
          says = λ t. (
            script,
            is,
            record { output = r.output; events = (files t).events; leads = own_leads ends.Done same tt t; says = subst (λ (count : ℕ). c.says script count r.output (contents_of d.after) text) (count_of same t) (says t) },
          );
          kept = λ t crash left. (script, is, (r.output, (files t).events, contents_of d.after, own_leads ends.Done same tt t, (flushed_by own t).survive crash left));
          settled = λ t was. (flushed_by own t).settled;
          quiet = quiet;
        }

    -- ---- why it stops

    abbrev StopsWith : Refusal → List ℕ → Type 0
    StopsWith e front = StopCause m input d e × HasWritten c input d e front

    -- with the lines so far; and where recovery had answered the ending is the run's own
    record Stops (e : Refusal) : Type 0 where
      why : StopsWith e (c.front r.output)
      own : HasRecovered (Err e) → IsOwn r.ending

    -- a run that is refused so: what is left, why, and with which lines
    record RanOut (e : Refusal) : Type 0 where
      left : Left m (status_of e) input d
      away : g.tells → OfScript c input (λ s. IsRunRefused c.limit (files_found d) s e)
      lines : g.tells → OfScript c input (λ s. RefusedWith s c.limit d e r.output)
      own : IsOwn r.ending

    ran_out : (ending : Ending) → r.ending ≡ ending → IsOwn ending → (e : Refusal) → IsOfRun e → ending_refusal ending ≡ Some e → RanOut e
    ran_out ending same own e run by =
        let mine : IsOwn r.ending = own_as ending same own in
        let led : (t : g.tells) → Leads script c.limit (contents_of d.held) ending r.output (files t).events (contents_of d.after) = λ t. own_leads ending same own t in record {
          left = record {
            files = inr (script, is, inr (inr (e, run, refl, λ t. (r.output, (ending, (own, by), ((files t).events, led t))))));
            settled = λ other t was. (flushed_by mine t).settled;
          };
          away = λ t. (script, is, ((went mine t).0.unwrapped, ending, (own, by), r.output, (files t).events, contents_of d.after, led t));
          lines = λ t. (script, is, (ending, (own, by), ((files t).events, led t)));
          own = mine;
        }

    -- how it began, where it ended so
    abbrev Begun : Ending → g.tells → Type 0
    Begun e t =
        (IsUnrecovered g old new e × ((files t).events ≡ []) × ((files t).more ≡ []) × (ran.further.lines ≡ 0))
        ⊎ ((w : WentOn g c.limit (files t).events (files t).more old new e) × Does script c.limit (left_of g c.limit (files t).events (files t).more old new w) ran.count ran.last ran.further.lines ran.further.state e (files t).events (files t).more)

    begun_so : (e : Ending) → r.ending ≡ e → (t : g.tells) → Begun e t
    begun_so e same t = subst (λ (x : Ending). Begun x t) same (files t).on.begun

    abbrev Before : Ending → Type 0
    Before e = IsUnrecovered g old new e × (ran.further.lines ≡ 0)

    -- files that are turned away aren't gone on with
    wrapped_before : (file : FileId) → r.ending ≡ ends.Compressed file → g.tells → Before (ends.Compressed file)
    wrapped_before file same t = ⊎_elim (λ n. (n.0, n.3)) (λ w. absurd w.1) (begun_so (ends.Compressed file) same t)

    refused_before : (file : FileId) (at : ℕ) → r.ending ≡ ends.NotArchive file at → g.tells → Before (ends.NotArchive file at)
    refused_before file at same t = ⊎_elim (λ n. (n.0, n.3)) (λ w. absurd w.1) (begun_so (ends.NotArchive file at) same t)

    alone : (e : Refusal) → (g.tells → g.held new ≡ g.held old) → (g.tells → m.turns_away input (files_found d) e) → StopsAt AtFiles m input d e
    alone e still away = ((good, refl), left_alone m (status_of e) input d still, away)

    wrapped_stops : (file : FileId) → r.ending ≡ ends.Compressed file → Stops (Compressed file)
    wrapped_stops file same = record {
      why = (
        alone (Compressed file) (λ t. (wrapped_before file same t).0.1) (λ t. (script, is, (wrapped_before file same t).0.0)),
        (r.output, refl, λ t. (script, is, wrote_as (ends.Compressed file) same ∙ none_yet (wrapped_before file same t).1)),
      );
      own = λ h. absurd h;
    }

    refused_stops : (file : FileId) (at : ℕ) → r.ending ≡ ends.NotArchive file at → Stops (NotArchive file at)
    refused_stops file at same = record {
      why = (
        alone (NotArchive file at) (λ t. (refused_before file at same t).0.1) (λ t. (script, is, (refused_before file at same t).0.0)),
        (r.output, refl, λ t. (script, is, wrote_as (ends.NotArchive file at) same ∙ none_yet (refused_before file at same t).1)),
      );
      own = λ h. absurd h;
    }

    -- where memory ran out: nothing was done, or the files are those of the run
    want_stops : r.ending ≡ ends.NoMemory → Stops NoMemory
    want_stops same =
        let not_disk : r.ending ≢ ends.DiskFault = λ e. let both : ends.NoMemory ≡ ends.DiskFault = sym same ∙ e in cc in
        let kept : (t : g.tells) → IsUnrecovered g old new r.ending → g.held new ≡ g.held old = λ t n. subst (λ (x : Ending). IsUnrecovered g old new x) same n in
        let wants : (t : g.tells) → Went t → WantsWith script c.limit d r.output = λ t w. (ends.NoMemory, ((files t).events, leads ends.NoMemory same t not_disk w)) in record {
          why = (
            record {
              files = inr (script, is, inr (inl (refl, λ t. ⊎_elim (λ n. inl (kept t n.0)) (λ w. inr (r.output, wants t w)) (files t).on.begun)));
              settled = λ other t was. ⊎_elim (λ n. subst IsSettled (sym (kept t n.0)) was) (λ w. (w.0.flushed not_disk).settled) (files t).on.begun;
            },
            inr (r.output, refl, λ t. ⊎_elim (λ n. inl (wrote_as ends.NoMemory same ∙ none_yet n.3)) (λ w. inr (script, is, wants t w)) (files t).on.begun),
          );
          own = λ h. absurd h;
        }

    fault_cause : Rose (g.faults old) (g.faults new) → StopCause m input d DiskFault
    fault_cause rose = ((good, refl), record { files = inr (script, is, inl refl); settled = λ other. absurd (other refl) }, rose)

    -- where the disk failed
    fault_stops : r.ending ≡ ends.DiskFault → Stops DiskFault
    fault_stops same =
        let ended : (t : g.tells) → Went t → StoppedAt script c.limit d DiskFault r.output = λ t w.
        inr ((files t).events, (files t).more, run.is.run.regions, subst (λ (e : Ending). RunsSo script c.limit (contents_of d.held) e r.output (files t).events (files t).more run.is.run.regions) same (so t w)) in record {
          why = (
            fault_cause (subst (λ (x : Ending). MayEnd (g.faults old) (g.faults new) x) same run.cause),
            (r.output, refl, λ t. (script, is, ⊎_elim (λ n. inl (wrote_as ends.DiskFault same ∙ none_yet n.3)) (λ w. ended t w) (files t).on.begun)),
          );
          own = λ h. absurd h;
        }

    -- a run that has no clock doesn't end by one
    clockless : (e : Ending) → r.ending ≡ e → MayEnd (g.faults old) (g.faults new) e
    clockless e same = subst (λ (x : Ending). MayEnd (g.faults old) (g.faults new) x) same run.cause

    abbrev StopsSo : Option Refusal → Type 0
    StopsSo None = Unit {0}
    StopsSo (Some e) = Stops e

    stops : (e : Ending) → r.ending ≡ e → StopsSo (ending_refusal e)
    stops ends.Done same = tt
    stops (ends.Condition line) same = let x = ran_out (ends.Condition line) same tt (Condition line) tt refl in record { why = (((good, refl), x.left, x.away), (r.output, refl, x.lines)); own = λ h. x.own }
    stops (ends.Limit what number) same = let x = ran_out (ends.Limit what number) same tt (Limit what number) tt refl in record { why = (((good, refl), x.left, x.away), (r.output, refl, x.lines)); own = λ h. x.own }
    stops (ends.NotLater last) same = let x = ran_out (ends.NotLater last) same tt (NotLater last) tt refl in record { why = (((good, refl), x.left, x.away), (r.output, refl, x.lines)); own = λ h. x.own }
    stops (ends.Changed pmid) same = let x = ran_out (ends.Changed pmid) same tt (Changed pmid) tt refl in record { why = (((good, refl), x.left, x.away), (r.output, refl, x.lines)); own = λ h. x.own }
    stops (ends.ClockEnd samples) same = absurd (clockless (ends.ClockEnd samples) same)
    stops (ends.ClockFault samples) same = absurd (clockless (ends.ClockFault samples) same)
    stops (ends.Compressed file) same = wrapped_stops file same
    stops (ends.NotArchive file at) same = refused_stops file at same
    stops ends.DiskFault same = fault_stops same
    stops ends.NoMemory same = want_stops same

    -- why what is to be written of a run that is done isn't told
    abbrev Untold : Refusal → Type 0
    Untold e = (e ≡ NoMemory) ⊎ ((e ≡ DiskFault) × Rose (g.faults old) (g.faults new))

    untold_stops : (e : Refusal) → c.front [] ≡ [] → r.ending ≡ ends.Done → Untold e → StopsWith e []
    untold_stops e empty same untold =
        let wants : StopsWith NoMemory [] = (
          record {
            files = inr (script, is, inr (inl (refl, λ t. inr (r.output, (ends.Done, ((files t).events, own_leads ends.Done same tt t))))));
            settled = λ other t was. (flushed_by (own_as ends.Done same tt) t).settled;
          },
          inl refl,
        ) in
        let failed : Rose (g.faults old) (g.faults new) → StopsWith DiskFault [] = λ rose. (fault_cause rose, ([], sym empty, λ t. (script, is, inl refl))) in
        ⊎_elim (λ (memory : e ≡ NoMemory). subst (λ (x : Refusal). StopsWith x []) (sym memory) wants) (λ (disk : (e ≡ DiskFault) × Rose (g.faults old) (g.faults new)). subst (λ (x : Refusal). StopsWith x []) (sym disk.0) (failed disk.1)) untold

    -- ---- each moment

    abbrev items : g.tells → List Item
    items t = items_by (files t).events ++ (files t).more

    logs_first : (t : g.tells) → LogsFirst script c.limit (contents_of (g.held old)) (items t)
    logs_first t = ⊎_elim (λ n. inl (ap (λ (events : List Event). items_by events ++ (files t).more) n.1 ∙ n.2)) (λ w. inr (r.ending, r.output, (files t).events, (files t).more, run.is.run.regions, so t w, refl)) (files t).on.begun

    any_moment : Leaves g old new (MayLeave m input)
    any_moment = λ t.
        weaker g.moment g.left_since g.held old new (MayBeAfter (items t) 0 (g.held old)) (MayLeave m input (g.held old)) (files t).on.any_moment
        (λ crash may. inr (script, is, (items t, logs_first t, may)))

    since : IsOwn r.ending → g.tells → ScriptSince g c input old new
    since own t = let w = went own t in (script, is, (r.ending, r.output, run.is.run.regions, ran, (files t).events, (files t).more, w.0, w.1))

    -- the regions that it leaves
    ran_regions : (front : List ℕ) (answer : Result (List ℕ) Refusal) → AnswersRun c script d r front answer → RanRegions g c input old new opened front answer
    ran_regions front answer answers = subst (λ (x : Option Opened). RanRegions g c input old new x front answer) (sym run.there_is) (
      script,
      is,
      record { run = r; answers = answers; serves = run.serves; passes = run.passes; seats = run.seats; seat = run.seat; seat_is = run.seat_is; seated = run.seated; is = run.is },
    )

    -- ---- each path

    runner_meets : (front : List ℕ) (answer : Result (List ℕ) Refusal) → IfOk answer (λ text. HasServed m input d (front ++ text)) → IfErr answer (λ e. StopsWith e front) → (HasRecovered answer → IsOwn r.ending) → AnswersRun c script d r front answer
        → Meets m input g old new opened front answer
    runner_meets front answer done stops own answers = record {
      done = done;
      stops = stops;
      aside = λ no. let both : true ≡ false = no in cc;
      unread = run.unread;
      any_moment = any_moment;
      taken = λ t. tt;
      since = λ t h. since (own h) t;
      ran = ran_regions front answer answers;
      regions = λ runs. subst (λ (x : Option Opened). HasRegions answer x) (sym run.there_is) (has_regions answer run.there);
      unrun = λ runs none. absurd (none-some run.there (sym none ∙ run.there_is));
    }

    pub runner_done : (text : List ℕ) → ending_refusal r.ending ≡ None → g.faults new ≡ g.faults old → (g.tells → c.says script r.logged r.output (contents_of (g.held new)) text) → Meets m input g old new opened [] (Ok text)
    runner_done text why quiet says = let same = is_done r.ending why in runner_meets [] (Ok text) (has_served text same quiet says) tt (λ h. own_as ends.Done same tt) (same, says)

    pub runner_untold : (e : Refusal) → c.front [] ≡ [] → ending_refusal r.ending ≡ None → c.untold e → Untold e → Meets m input g old new opened [] (Err e)
    runner_untold e empty why left_out untold = let same = is_done r.ending why in runner_meets [] (Err e) tt (untold_stops e empty same untold) (λ h. own_as ends.Done same tt) (inr (same, left_out, refl))

    -- it is told, or why it isn't
    pub runner_told : (answer : Result (List ℕ) Refusal) → c.front [] ≡ [] → ending_refusal r.ending ≡ None → OnOk answer (g.faults new ≡ g.faults old) → (g.tells → IfOk answer (λ text. c.says script r.logged r.output (contents_of (g.held new)) text)) → IfErr answer (λ e. c.untold e × Untold e) → Meets m input g old new opened [] answer
    runner_told (Ok text) empty why quiet says untold = runner_done text why quiet says
    runner_told (Err e) empty why quiet says untold = runner_untold e empty why untold.0 untold.1

    pub runner_stopped : (e : Refusal) → ending_refusal r.ending ≡ Some e → Meets m input g old new opened (c.front r.output) (Err e)
    runner_stopped e why = let s = subst StopsSo why (stops r.ending refl) in runner_meets (c.front r.output) (Err e) tt s.why s.own (inl (why, refl))
