-- A recording once what was logged is flushed.
use Rattle.std.proofs.Common.{◌≡◌, ◌≢◌, ◌⊎◌, inl, inr, ℕ, ◌-◌, ◌≤◌, List, [], length, codes, sym, ap, ◌∙◌, subst, arith}
use Rattle.pcp_base.specs.Time.{Moment}
use Rattle.pcp_model.specs.Disk.{Files, IsSettled, contents_of}
use Rattle.pcp_outside.specs.declared.clocks.Clock.{Ghosts as ClockGhosts}
use Rattle.pcp_outside.specs.declared.disk.Disk.{Ghosts as DiskGhosts}
use Rattle.region_rule.specs.Seats.{Token}
use Rattle.archive_recovery.specs.declared.outcome.Archive.{Archive}
use Rattle.fetch_answers.specs.declared.fetch.Fetched.{Fetched}
use Rattle.fetch_engine.specs.declared.server.Mounted.{Mounted}
use Rattle.logger_core.specs.Reopening.{IsLeft as IsLeftBy}
use Rattle.logging_session.specs.Course.{WentBy}
use Rattle.logging_session.specs.Events.{closing}
use Rattle.logging_session.specs.Keeping.{AreWhole, Carried, held_in}
use Rattle.run_script.specs.declared.script.Script.{Script}
use Rattle.script_runs.specs.declared.ending.Ending.{Ending}
use Rattle.script_runs.specs.declared.ending.Ending.TheVariants as ends
use Rattle.script_runs.specs.Archives.{run_label}
use Rattle.text_lines.specs.Spelling.{one_number}
use Rattle.run_archive.specs.declared.replayed.Replayed.{Replayed}
use Rattle.run_archive.specs.Endings.{EndsAs, before_lost, told_behind}
use Rattle.run_archive.specs.Kept.{HasDone, KeepsRun, OverAny}
use Rattle.run_archive.specs.Outcomes.{HasFinished}
use Rattle.run_archive.proofs.Outcomes.{has_finished}
use Rattle.record_run.specs.Beside.{StopsLogging}
use Rattle.record_run.specs.Halting.{Halts, IsRecorded, Took}
use Rattle.record_run.specs.Recordings.{Counts}
use Rattle.record_run.specs.Stopping.{LoggingDid, LogsResults, OpensForLast}
use Rattle.record_run.proofs.Turning.{did_else, fault_did, last_else, stops_else, took_most}
use Rattle.record_run.proofs.Undone.{is_failing}

-- where nothing is marked nothing is lost
pub unmarked_told : (e : Ending) (marks out output : List ℕ) (logged told lost : ℕ) → marks ≡ [] → out ≡ [] → lost ≤ length marks → told ≡ logged - lost → output ≡ told_behind e (before_lost marks lost out) (logged - lost)
    → (told ≡ logged) × (output ≡ told_behind e [] logged)
unmarked_told e marks out output logged told lost unmarked empty within counted is =
    let few : length marks ≡ 0 = ap (λ (ms : List ℕ). length ms) unmarked in
    let none : logged - lost ≡ logged = omega (arith, within, few) in (
      counted ∙ none,
      is
          ∙ ap (λ (ms : List ℕ). told_behind e (before_lost ms lost out) (logged - lost)) unmarked
          ∙ ap (λ (n : ℕ). told_behind e out n) none
          ∙ ap (λ (lines : List ℕ). told_behind e lines logged) empty,
    )

-- how many there are, and what is told of them
counts_as : (samples : ℕ) (moments : List Moment) (results : List Fetched) (r : Replayed) (e : Ending) (logged : ℕ) → Took samples (length moments) e → r.output ≡ told_behind e [] logged → logged ≡ length results → Counts samples moments results r e
counts_as samples moments results r ends.Done logged took told counted = (took, told ∙ ap (λ (n : ℕ). one_number (codes "logged") n) counted)
counts_as samples moments results r (ends.ClockEnd left) logged took told counted = (took.0, took.1, told)
counts_as samples moments results r (ends.ClockFault left) logged took told counted = (took.0, took.1, told)
counts_as samples moments results r ends.DiskFault logged took told counted = (took, told)
counts_as samples moments results r (ends.Condition line) logged took told counted = (took, told)
counts_as samples moments results r (ends.NotArchive file at) logged took told counted = (took, told)
counts_as samples moments results r (ends.Compressed file) logged took told counted = (took, told)
counts_as samples moments results r (ends.Limit what number) logged took told counted = (took, told)
counts_as samples moments results r ends.NoMemory logged took told counted = (took, told)
counts_as samples moments results r (ends.NotLater last) logged took told counted = (took, told)
counts_as samples moments results r (ends.Changed pmid) logged took told counted = (took, told)

module _ {C D : Type 0} (c : ClockGhosts C) (d : DiskGhosts D) (clock_was clock_is : C) (was is : Carried) (old mid new : D) (script : Script) (limit samples : ℕ) (server : List Mounted) (first final : List Token) (archive : Archive) (e : Ending) (r : Replayed)
    (h : Halts c d clock_was clock_is was is old mid script samples server first final e) (limit_is : was.limit ≡ limit) (limit_same : is.limit ≡ was.limit)
    (keeps : IsLeftBy archive (d.held old) → KeepsRun d (contents_of (d.held old)) [] old was old) where
  abbrev left : Files
  left = contents_of (d.held old)

  abbrev Does : Type 0
  Does = HasDone d left old is mid e (LoggingDid h.beside.sampled limit left e)

  done_over : d.tells → IsLeftBy archive (d.held old) → Does
  done_over tells is_left = subst (λ (n : ℕ). HasDone d left old is mid e (LoggingDid h.beside.sampled n left e)) limit_is (h.told tells left old (keeps is_left))

  none_more : (k : Does) (last : Ending) (stops : StopsLogging last) → LogsResults (stops_else h.beside.sampled last stops) k.events k.more ⊎ OpensForLast (stops_else h.beside.sampled last stops) k.events k.more → k.more ≡ []
  none_more k last stops (inl logs) = logs.1
  none_more k last stops (inr opens) = opens.2

  none_left : (k : Does) → e ≢ ends.DiskFault → k.more ≡ []
  none_left k well = none_more k ends.NoMemory tt (did_else h.beside.sampled ends.NoMemory tt limit left k.events k.more e well k.did)

  module _ (flushed : r.ending ≢ ends.DiskFault → OverAny d is mid (λ left events start.
      (now : Carried) × KeepsRun d left (closing events) start now new × (now.limit ≡ is.limit) × (held_in now.place ≡ 0) × IsSettled (d.held new) × (AreWhole left → AreWhole (contents_of (d.held new)))))
      (fails : e ≢ ends.DiskFault → r.ending ≡ ends.DiskFault → OverAny d is mid (λ left events start. WentBy d run_label is.limit left events [] start new))
      (failed : e ≡ ends.DiskFault → (r.ending ≡ ends.DiskFault) × (new ≡ mid))
      (ends_as : EndsAs e r.ending) (logged : r.logged ≡ is.logged) (output : r.output ≡ told_behind r.ending [] is.logged) where
    finished_over : d.tells → (k : Does) → HasFinished d limit left k.events k.more old new r.ending
    finished_over tells k = has_finished d limit left k.events k.more old tells is mid new e r.ending flushed fails failed (limit_same ∙ limit_is) (none_left k) k.stands

    abbrev Done : Ending → Type 0
    Done x = IsRecorded c d clock_was clock_is archive old new script limit samples server first final r x

    output_as : (last : Ending) → r.ending ≡ last → r.output ≡ told_behind last [] is.logged
    output_as last is_last = subst (λ (x : Ending). r.output ≡ told_behind x [] is.logged) is_last output

    -- it ends as its samples end
    as_it_was : r.ending ≡ e → Done r.ending
    as_it_was same = subst (λ (x : Ending). Done x) (sym same) (record {
      moments = h.moments;
      results = h.results;
      beside = h.beside;
      counted = logged ∙ h.counted;
      counts = counts_as samples h.moments h.results r e is.logged h.took (output_as e same) h.counted;
      at_last = h.at_last;
      clock = h.clock;
      why = h.why;
      told = λ tells is_left.
          let k : Does = done_over tells is_left in
          record { events = k.events; more = k.more; did = k.did; finished = subst (λ (x : Ending). HasFinished d limit left k.events k.more old new x) same (finished_over tells k) };
    })

    -- the disk fails now
    fails_now : e ≢ ends.DiskFault → r.ending ≡ ends.DiskFault → Done r.ending
    fails_now well failing = subst (λ (x : Ending). Done x) (sym failing) (record {
      moments = h.moments;
      results = h.results;
      beside = record { legal = h.beside.legal; writers = tt; loads = h.beside.loads; sampled = stops_else h.beside.sampled ends.DiskFault tt };
      counted = logged ∙ h.counted;
      counts = (took_most samples (length h.moments) e h.took, output_as ends.DiskFault failing);
      at_last = λ all. last_else h.beside.sampled ends.DiskFault tt samples (h.at_last all);
      clock = h.clock;
      why = tt;
      told = λ tells is_left.
          let k : Does = done_over tells is_left in
          record {
            events = k.events;
            more = k.more;
            did = fault_did h.beside.sampled ends.DiskFault tt limit left k.events k.more (did_else h.beside.sampled ends.DiskFault tt limit left k.events k.more e well k.did);
            finished = subst (λ (x : Ending). HasFinished d limit left k.events k.more old new x) failing (finished_over tells k);
          };
    })

    -- memory for what is told was refused
    wants_now : e ≡ ends.Done → r.ending ≡ ends.NoMemory → Done r.ending
    wants_now done wants = subst (λ (x : Ending). Done x) (sym wants) (record {
      moments = h.moments;
      results = h.results;
      beside = record { legal = h.beside.legal; writers = tt; loads = h.beside.loads; sampled = stops_else h.beside.sampled ends.NoMemory tt };
      counted = logged ∙ h.counted;
      counts = (took_most samples (length h.moments) e h.took, output_as ends.NoMemory wants);
      at_last = λ all. last_else h.beside.sampled ends.NoMemory tt samples (h.at_last all);
      clock = h.clock;
      why = tt;
      told = λ tells is_left.
          let k : Does = done_over tells is_left in
          let well : e ≢ ends.DiskFault = λ failing. let no : ends.Done ≡ ends.DiskFault = sym done ∙ failing in cc in
          record {
            events = k.events;
            more = k.more;
            did = did_else h.beside.sampled ends.NoMemory tt limit left k.events k.more e well k.did;
            finished = subst (λ (x : Ending). HasFinished d limit left k.events k.more old new x) wants (finished_over tells k);
          };
    })

    fails_so : r.ending ≡ ends.DiskFault → (e ≡ ends.DiskFault) ⊎ (e ≢ ends.DiskFault) → Done r.ending
    fails_so failing (inl was_failing) = as_it_was (failing ∙ sym was_failing)
    fails_so failing (inr well) = fails_now well failing

    recorded_so : (r.ending ≡ e) ⊎ ((r.ending ≡ ends.DiskFault) ⊎ ((e ≡ ends.Done) × (r.ending ≡ ends.NoMemory))) → Done r.ending
    recorded_so (inl same) = as_it_was same
    recorded_so (inr (inl failing)) = fails_so failing (is_failing e)
    recorded_so (inr (inr (done, wants))) = wants_now done wants

    pub recorded : Done r.ending
    recorded = recorded_so ends_as
