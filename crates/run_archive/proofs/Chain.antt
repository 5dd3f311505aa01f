-- Samples behind samples.
use Rattle.std.proofs.Common.{◌≡◌, inl, inr, ℕ, List, [], ◌∷◌, ◌++◌, sym, ap, ◌∙◌, subst, append_assoc, arith, length-append}
use Rattle.std.proofs.lemmas.List.{map-append}
use Rattle.pcp_base.specs.Time.{Moment}
use Rattle.pcp_outside.specs.declared.clocks.Clock.{Ghosts as ClockGhosts}
use Rattle.pcp_outside.specs.declared.disk.Disk.{Ghosts as DiskGhosts}
use Rattle.region_rule.specs.Seats.{Token}
use Rattle.fetch_answers.specs.declared.fetch.Fetched.{Fetched}
use Rattle.fetch_engine.specs.declared.server.Mounted.{Mounted}
use Rattle.log_schedule.specs.declared.config.Group.{Group}
use Rattle.logging_session.specs.Course.{WentBy}
use Rattle.logging_session.specs.Events.{Event, with_report}
use Rattle.script_runs.specs.Archives.{report_of, run_label}
use Rattle.script_runs.specs.declared.ending.Ending.{Ending}
use Rattle.script_runs.specs.Steps.{fetched_from}
use Rattle.run_archive.specs.Kept.{KeepsRun, LeavesUnlogged, OverAny}
use Rattle.run_archive.specs.declared.sampler.Sampler.{Sampler}
use Rattle.run_archive.specs.Samples.{AreTaken, SampleTaken, stamps_of}
use Rattle.run_archive.specs.Sampling.{GoesOn, StopsSampling}
use Rattle.run_archive.specs.Shown.{AreShown, pmids_by, with_sure_results}
use Rattle.run_archive.proofs.Joined.{results_joined, shown_joined, taken_joined}

-- moments taken one behind another
moments_joined : (xs ys : List SampleTaken) (first middle behind : List Moment) → first ≡ stamps_of xs ++ middle → middle ≡ stamps_of ys ++ behind → first ≡ stamps_of (xs ++ ys) ++ behind
moments_joined xs ys first middle behind one two =
    one ∙ ap (λ (ms : List Moment). stamps_of xs ++ ms) two ∙ sym (append_assoc (stamps_of xs) (stamps_of ys) behind) ∙ ap (λ (ms : List Moment). ms ++ behind) (sym (map-append (λ (s : SampleTaken). s.stamp) xs ys))

module _ {C D : Type 0} (c : ClockGhosts C) (d : DiskGhosts D) (groups : List Group) (server : List Mounted) (first middle last : Sampler) (tokens_first tokens_middle tokens_last : List Token) (clock_first clock_middle clock_last : C) (disk_first disk_middle disk_last : D)
    (xs : List SampleTaken) (one : GoesOn c d groups server first middle tokens_first tokens_middle clock_first clock_middle disk_first disk_middle xs) where
  all_logged : (gs : List Fetched) → OverAny d middle.session disk_middle (λ left events start. KeepsRun d left (with_sure_results events gs) start last.session disk_last)
      → OverAny d first.session disk_first (λ left events start. KeepsRun d left (with_sure_results events (one.results ++ gs)) start last.session disk_last)
  all_logged gs two = λ tells left events start keeps.
      subst (λ (es : List Event). KeepsRun d left es start last.session disk_last) (results_joined events one.results gs)
      (two tells left (with_sure_results events one.results) start (one.logs tells left events start keeps))

  all_but_logged : (gs : List Fetched) (f : Fetched) (ending : Ending) → OverAny d middle.session disk_middle (λ left events start. LeavesUnlogged d left (with_sure_results events gs) start f last.session disk_last ending)
      → OverAny d first.session disk_first (λ left events start. LeavesUnlogged d left (with_sure_results events (one.results ++ gs)) start f last.session disk_last ending)
  all_but_logged gs f ending two = λ tells left events start keeps.
      subst (λ (es : List Event). LeavesUnlogged d left es start f last.session disk_last ending) (results_joined events one.results gs)
      (two tells left (with_sure_results events one.results) start (one.logs tells left events start keeps))

  all_but_sure : (gs : List Fetched) (f : Fetched) (limit : ℕ) → OverAny d middle.session disk_middle (λ left events start. WentBy d run_label limit left (with_report (with_sure_results events gs) (report_of f)) [] start disk_last)
      → OverAny d first.session disk_first (λ left events start. WentBy d run_label limit left (with_report (with_sure_results events (one.results ++ gs)) (report_of f)) [] start disk_last)
  all_but_sure gs f limit two = λ tells left events start keeps.
      subst (λ (es : List Event). WentBy d run_label limit left (with_report es (report_of f)) [] start disk_last) (results_joined events one.results gs)
      (two tells left (with_sure_results events one.results) start (one.logs tells left events start keeps))

  pub goes_joined : (ys : List SampleTaken) → GoesOn c d groups server middle last tokens_middle tokens_last clock_middle clock_last disk_middle disk_last ys → GoesOn c d groups server first last tokens_first tokens_last clock_first clock_last disk_first disk_last (xs ++ ys)
  goes_joined ys two = record {
    taken = taken_joined server xs ys tokens_first tokens_middle tokens_last one.taken two.taken;
    moments = λ tells. moments_joined xs ys (c.left clock_first) (c.left clock_middle) (c.left clock_last) (one.moments tells) (two.moments tells);
    results = one.results ++ two.results;
    shown = shown_joined groups xs ys first.plans middle.plans last.plans one.results two.results one.shown two.shown;
    logs = all_logged two.results two.logs;
    counted = omega (arith, one.counted, two.counted, length-append one.results two.results);
  }

  abbrev Stopped : (ys : List SampleTaken) (left : ℕ) (ending : Ending) → Type 0
  Stopped ys left ending = StopsSampling c d groups server middle last tokens_middle tokens_last clock_middle clock_last disk_middle disk_last ys left ending

  abbrev StoppedAll : (ys : List SampleTaken) (left : ℕ) (ending : Ending) → Type 0
  StoppedAll ys left ending = StopsSampling c d groups server first last tokens_first tokens_last clock_first clock_last disk_first disk_last (xs ++ ys) left ending

  pub stops_joined : (ys : List SampleTaken) (left : ℕ) (ending : Ending) → Stopped ys left ending → StoppedAll ys left ending
  stops_joined ys left ending (inl ends) = inl (record { goes = goes_joined ys ends.goes; why = ends.why })
  stops_joined ys left ending (inr (inl asked)) = inr (inl (record {
    stamp = asked.stamp;
    middle = asked.middle;
    taken = taken_joined server xs ys tokens_first tokens_middle asked.middle one.taken asked.taken;
    loaded = asked.loaded;
    moments = λ tells. moments_joined xs ys (c.left clock_first) (c.left clock_middle) (asked.stamp ∷ c.left clock_last) (one.moments tells) (asked.moments tells);
    results = one.results ++ asked.results;
    plans = asked.plans;
    shown = shown_joined groups xs ys first.plans middle.plans asked.plans one.results asked.results one.shown asked.shown;
    names = asked.names;
    why = asked.why;
    logs = all_logged asked.results asked.logs;
    counted = omega (arith, one.counted, asked.counted, length-append one.results asked.results);
  }))
  stops_joined ys left ending (inr (inr (inl shown))) = inr (inr (inl (record {
    last = shown.last;
    taken = subst (λ (zs : List SampleTaken). AreTaken server tokens_first zs tokens_last) (sym (append_assoc xs ys (shown.last ∷ []))) (taken_joined server xs (ys ++ shown.last ∷ []) tokens_first tokens_middle tokens_last one.taken shown.taken);
    moments = λ tells. moments_joined xs ys (c.left clock_first) (c.left clock_middle) (shown.last.stamp ∷ c.left clock_last) (one.moments tells) (shown.moments tells);
    results = one.results ++ shown.results;
    plans = shown.plans;
    shown = shown_joined groups xs ys first.plans middle.plans shown.plans one.results shown.results one.shown shown.shown;
    some = shown.some;
    few = shown.few;
    why = shown.why;
    logs = all_but_logged shown.results (fetched_from shown.last.values (pmids_by groups shown.plans shown.last.names shown.last.stamp) shown.last.stamp) ending shown.logs;
    counted = omega (arith, one.counted, shown.counted, length-append one.results shown.results);
  })))
  stops_joined ys left ending (inr (inr (inr logged))) = inr (inr (inr (record {
    last = logged.last;
    taken = subst (λ (zs : List SampleTaken). AreTaken server tokens_first zs tokens_last) (sym (append_assoc xs ys (logged.last ∷ []))) (taken_joined server xs (ys ++ logged.last ∷ []) tokens_first tokens_middle tokens_last one.taken logged.taken);
    moments = λ tells. moments_joined xs ys (c.left clock_first) (c.left clock_middle) (logged.last.stamp ∷ c.left clock_last) (one.moments tells) (logged.moments tells);
    results = one.results ++ logged.results;
    unsure = logged.unsure;
    shown = subst (λ (zs : List SampleTaken). AreShown groups first.plans zs ((one.results ++ logged.results) ++ logged.unsure ∷ []) last.plans) (sym (append_assoc xs ys (logged.last ∷ [])))
        (subst (λ (fs : List Fetched). AreShown groups first.plans (xs ++ (ys ++ logged.last ∷ [])) fs last.plans) (sym (append_assoc one.results logged.results (logged.unsure ∷ [])))
        (shown_joined groups xs (ys ++ logged.last ∷ []) first.plans middle.plans last.plans one.results (logged.results ++ logged.unsure ∷ []) one.shown logged.shown));
    why = logged.why;
    logs = all_but_sure logged.results logged.unsure last.session.limit logged.logs;
    counted = omega (arith, one.counted, logged.counted, length-append one.results logged.results);
  })))
