-- A sample at a moment of the clock.
use Rattle.std.proofs.Common.{◌≡◌, ◌⊎◌, inl, inr, ℕ, ◌+◌, List, [], ◌∷◌, ◌++◌, length, Option, refl, sym, ap, ◌∙◌, subst, arith}
use Rattle.pcp_base.specs.Time.{Moment}
use Rattle.pcp_model.specs.Disk.{Files}
use Rattle.pcp_outside.specs.Causes.{Rose}
use Rattle.pcp_outside.specs.declared.clocks.Clock.{Ghosts as ClockGhosts}
use Rattle.pcp_outside.specs.declared.disk.Disk.{Ghosts as DiskGhosts}
use Rattle.region_rule.specs.Seats.{Token}
use Rattle.fetch_answers.specs.declared.fetch.Fetched.{Fetched}
use Rattle.fetch_engine.specs.declared.server.Mounted.{Mounted}
use Rattle.log_schedule.specs.declared.config.Group.{Group}
use Rattle.logging_session.specs.Course.{WentBy}
use Rattle.logging_session.specs.Events.{Event, behind, with_report}
use Rattle.logging_session.specs.Keeping.{Carried}
use Rattle.logging_session.specs.Written.{Report}
use Rattle.script_runs.specs.declared.ending.Ending.{Ending}
use Rattle.script_runs.specs.declared.ending.Ending.TheVariants as ends
use Rattle.script_runs.specs.Archives.{report_of, run_label}
use Rattle.script_runs.specs.Groups.{Plan}
use Rattle.script_runs.specs.Steps.{fetched_from}
use Rattle.run_archive.specs.declared.sampler.Sampler.{Sampler}
use Rattle.run_archive.specs.Kept.{KeepsRun, OverAny}
use Rattle.run_archive.specs.Samples.{SampleTaken}
use Rattle.run_archive.specs.Sampling.{GoesOn, HasEnded, StopsSampling, StopsAt, TakesAt}
use Rattle.run_archive.specs.Shown.{AreShown, pmids_by, result_for, with_result, with_results}
use Rattle.run_archive.proofs.Logged.{keeps_still}

-- ---- what a sample logs

no_metric : (pmids : List ℕ) (f : Fetched) → length pmids ≡ 0 → with_result (result_for pmids f) [] ≡ []
no_metric [] f none = refl
no_metric (pmid ∷ pmids) f none = absurd (omega (arith, none))

some_metric : (pmids : List ℕ) (f : Fetched) → (length pmids ≡ 0 → ⊥) → with_result (result_for pmids f) [] ≡ f ∷ []
some_metric [] f some = absurd (some refl)
some_metric (pmid ∷ pmids) f some = refl

module _ {D : Type 0} (d : DiskGhosts D) (groups : List Group) (server : List Mounted) (was is : Sampler) (seat_was seat_is : List Token) (old new : D) (now : Moment) (count : ℕ) (t : TakesAt d groups server was is seat_was seat_is old new now count) where
  abbrev pmids : List ℕ
  pmids = pmids_by groups was.plans t.sample.names t.sample.stamp

  abbrev shown_at : Fetched
  shown_at = fetched_from t.sample.values pmids t.sample.stamp

  so_many : count ≡ length pmids
  so_many = t.so_many ∙ ap (λ (m : Moment). length (pmids_by groups was.plans t.sample.names m)) (sym t.stamp)

  results_are : t.results ≡ with_result (result_for pmids shown_at) []
  results_are = t.shown.4 ∙ ap (λ (rest : List Fetched). with_result (result_for pmids shown_at) rest) t.shown.5.0

  -- nothing where it asks for no metric
  none_shown : count ≡ 0 → t.results ≡ []
  none_shown none = results_are ∙ no_metric pmids shown_at (sym so_many ∙ none)

  -- and else one result
  one_shown : (count ≡ 0 → ⊥) → t.results ≡ shown_at ∷ []
  one_shown some = results_are ∙ some_metric pmids shown_at (λ none. some (so_many ∙ none))

-- what is logged is there to be made sure
behind_report : (events : List Event) (r : Report) → behind (with_report events r) Event.synced ≡ with_report events r ++ Event.synced ∷ []
behind_report [] r = refl
behind_report (e ∷ events) r = refl

module _ {C D : Type 0} (c : ClockGhosts C) (d : DiskGhosts D) (groups : List Group) (server : List Mounted) where
  no_result : (was is : Sampler) (old new : D) → is.session ≡ was.session → new ≡ old → OverAny d was.session old (λ left events start. KeepsRun d left events start is.session new)
  no_result was is old new same still = λ tells left events start keeps. keeps_still d left events start was.session is.session old new same still keeps

  -- nothing was taken
  pub goes_nowhere : (was is : Sampler) (seat : List Token) (clock_was clock_is : C) (disk : D) → is ≡ was → (c.tells → c.left clock_is ≡ c.left clock_was) → GoesOn c d groups server was is seat seat clock_was clock_is disk disk []
  goes_nowhere was is seat clock_was clock_is disk same still = record {
    taken = refl;
    moments = λ tells. sym (still tells);
    results = [];
    shown = (refl, ap (λ (s : Sampler). s.plans) same);
    logs = no_result was is disk disk (ap (λ (s : Sampler). s.session) same) refl;
    counted = omega (arith, ap (λ (s : Sampler). s.session.logged) same);
  }

  module _ (was is : Sampler) (seat_was seat_is : List Token) (old new : D) (clock_was clock_is : C) (now : Moment) (given : c.tells → c.left clock_was ≡ now ∷ c.left clock_is) where
    -- a sample that asks for no metric logs nothing
    pub takes_none : (count : ℕ) → count ≡ 0 → TakesAt d groups server was is seat_was seat_is old new now count → (s : SampleTaken) × GoesOn c d groups server was is seat_was seat_is clock_was clock_is old new (s ∷ [])
    takes_none count none t =
        let no : t.results ≡ [] = none_shown d groups server was is seat_was seat_is old new now count t none in (
          t.sample,
          record {
            taken = (t.before, t.taken, sym t.after);
            moments = λ tells. given tells ∙ ap (λ (m : Moment). m ∷ c.left clock_is) (sym t.stamp);
            results = [];
            shown = subst (λ (results : List Fetched). AreShown groups was.plans (t.sample ∷ []) results is.plans) no t.shown;
            logs = λ tells left events start keeps. subst (λ (results : List Fetched). KeepsRun d left (with_results events results) start is.session new) no (t.logs tells left events start keeps);
            counted = subst (λ (results : List Fetched). is.session.logged ≡ was.session.logged + length results) no t.counted;
          },
        )

    -- what another one logs is made sure, or the disk fails then
    module _ (mid : Sampler) (middle : D) (count : ℕ) (some : count ≡ 0 → ⊥) (t : TakesAt d groups server was mid seat_was seat_is old middle now count) (plans : is.plans ≡ mid.plans) (same : is.session.logged ≡ mid.session.logged) where
      abbrev logged : Fetched
      logged = shown_at d groups server was mid seat_was seat_is old middle now count t

      one : t.results ≡ logged ∷ []
      one = one_shown d groups server was mid seat_was seat_is old middle now count t some

      shown : AreShown groups was.plans (t.sample ∷ []) (logged ∷ []) is.plans
      shown = subst (λ (p : Option (List Plan)). AreShown groups was.plans (t.sample ∷ []) (logged ∷ []) p) (sym plans) (subst (λ (results : List Fetched). AreShown groups was.plans (t.sample ∷ []) results mid.plans) one t.shown)

      counted : is.session.logged ≡ was.session.logged + 1
      counted = same ∙ t.counted ∙ ap (λ (results : List Fetched). was.session.logged + length results) one

      kept : (tells : d.tells) (left : Files) (events : List Event) (start : D) → KeepsRun d left events start was.session old → KeepsRun d left (with_report events (report_of logged)) start mid.session middle
      kept tells left events start keeps = subst (λ (results : List Fetched). KeepsRun d left (with_results events results) start mid.session middle) one (t.logs tells left events start keeps)

      pub takes_sure : OverAny d mid.session middle (λ left events start. KeepsRun d left (behind events Event.synced) start is.session new) → (s : SampleTaken) × GoesOn c d groups server was is seat_was seat_is clock_was clock_is old new (s ∷ [])
      takes_sure syncs = (
        t.sample,
        record {
          taken = (t.before, t.taken, sym t.after);
          moments = λ tells. given tells ∙ ap (λ (m : Moment). m ∷ c.left clock_is) (sym t.stamp);
          results = logged ∷ [];
          shown = shown;
          logs = λ tells left events start keeps. subst (λ (es : List Event). KeepsRun d left es start is.session new) (behind_report events (report_of logged)) (syncs tells left (with_report events (report_of logged)) start (kept tells left events start keeps));
          counted = counted;
        },
      )

      pub takes_unsure : (left : ℕ) (ending : Ending) → ending ≡ ends.DiskFault → is.session.limit ≡ mid.session.limit → OverAny d mid.session middle (λ left events start. WentBy d run_label mid.session.limit left events [] start new)
          → StopsSampling c d groups server was is seat_was seat_is clock_was clock_is old new [] left ending
      takes_unsure left ending why limit fails = inr (inr (inr (record {
        last = t.sample;
        taken = (t.before, t.taken, sym t.after);
        moments = λ tells. given tells ∙ ap (λ (m : Moment). m ∷ c.left clock_is) (sym t.stamp);
        results = [];
        unsure = logged;
        shown = shown;
        why = why;
        logs = λ tells left events start keeps. subst (λ (n : ℕ). WentBy d run_label n left (with_report events (report_of logged)) [] start new) (sym limit) (fails tells left (with_report events (report_of logged)) start (kept tells left events start keeps));
        counted = omega (arith, counted);
      })))

    pub stops_one : (left : ℕ) (ending : Ending) → StopsAt d groups server was is seat_was seat_is old new now ending → StopsSampling c d groups server was is seat_was seat_is clock_was clock_is old new [] left ending
    stops_one left ending (inl asks) = inr (inl (record {
      stamp = now;
      middle = seat_was;
      taken = refl;
      loaded = asks.loaded;
      moments = given;
      results = [];
      plans = was.plans;
      shown = (refl, refl);
      names = asks.names;
      why = asks.why;
      logs = no_result was is old new asks.session asks.disk;
      counted = omega (arith, ap (λ (a : Carried). a.logged) asks.session);
    }))
    stops_one left ending (inr shows) = inr (inr (inl (record {
      last = shows.sample;
      taken = (shows.before, shows.taken, sym shows.after);
      moments = λ tells. given tells ∙ ap (λ (m : Moment). m ∷ c.left clock_is) (sym shows.stamp);
      results = [];
      plans = was.plans;
      shown = (refl, refl);
      some = shows.some;
      few = shows.few;
      why = shows.why;
      logs = shows.logs;
      counted = omega (arith, shows.counted);
    })))

  -- the clock gave no moment
  no_moment : (clock_was clock_is : C) (left : ℕ) (ending : Ending) → ((ending ≡ ends.ClockEnd left) × HasEnded c clock_is) ⊎ ((ending ≡ ends.ClockFault left) × Rose (c.faults clock_was) (c.faults clock_is)) → (ending ≡ ends.ClockEnd left) ⊎ (ending ≡ ends.ClockFault left)
  no_moment clock_was clock_is left ending (inl (is, ended)) = inl is
  no_moment clock_was clock_is left ending (inr (is, rose)) = inr is

  pub ends_before : (sampler : Sampler) (seat : List Token) (clock_was clock_is : C) (disk : D) (left : ℕ) (ending : Ending) → (c.tells → c.left clock_is ≡ c.left clock_was)
      → ((ending ≡ ends.ClockEnd left) × HasEnded c clock_is) ⊎ ((ending ≡ ends.ClockFault left) × Rose (c.faults clock_was) (c.faults clock_is)) → StopsSampling c d groups server sampler sampler seat seat clock_was clock_is disk disk [] left ending
  ends_before sampler seat clock_was clock_is disk left ending still why = inl (record { goes = goes_nowhere sampler sampler seat clock_was clock_is disk refl still; why = no_moment clock_was clock_is left ending why })
