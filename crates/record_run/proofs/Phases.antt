-- The samples of one stretch of a recording, and how they end; and those of two stretches, one behind another.
use Rattle.std.proofs.Common.{◌≡◌, ◌≢◌, ◌⊎◌, inl, inr, ℕ, ◌+◌, ◌<◌, ◌≤◌, List, [], ◌∷◌, ◌++◌, length, Option, refl, sym, ap, ◌∙◌, subst, arith, append-nil, append_assoc, length-append}
use Rattle.std.proofs.lemmas.List.{map-append}
use Rattle.pcp_base.specs.Time.{Moment}
use Rattle.pcp_outside.specs.declared.clocks.Clock.{Ghosts as ClockGhosts}
use Rattle.pcp_outside.specs.declared.disk.Disk.{Ghosts as DiskGhosts}
use Rattle.region_rule.specs.Seats.{Token}
use Rattle.fetch_answers.specs.declared.fetch.Fetched.{Fetched}
use Rattle.fetch_engine.specs.declared.server.Mounted.{Mounted}
use Rattle.fetch_engine.specs.Visits.{AreLoaded}
use Rattle.log_schedule.specs.declared.config.Group.{Group}
use Rattle.logging_session.specs.Course.{WentBy}
use Rattle.logging_session.specs.Events.{Event, with_report}
use Rattle.logging_session.specs.Keeping.{Carried}
use Rattle.script_runs.specs.declared.ending.Ending.{Ending}
use Rattle.script_runs.specs.declared.ending.Ending.TheVariants as ends
use Rattle.script_runs.specs.declared.ending.LimitKind.TheVariants as kinds
use Rattle.script_runs.specs.Archives.{report_of, run_label}
use Rattle.script_runs.specs.Groups.{Plan}
use Rattle.script_runs.specs.Steps.{fetched_from}
use Rattle.run_archive.specs.declared.sampler.Sampler.{Sampler}
use Rattle.run_archive.specs.Endings.{EndsUnlogged}
use Rattle.run_archive.specs.Kept.{KeepsRun, LeavesUnlogged, OverAny}
use Rattle.run_archive.specs.Samples.{AreTaken, SampleTaken, stamps_of}
use Rattle.run_archive.specs.Sampling.{GoesOn, StopsSampling}
use Rattle.run_archive.specs.Shown.{AreShown, pmids_by, with_sure_results}
use Rattle.run_archive.proofs.Joined.{results_joined, shown_joined}
use Rattle.run_archive.proofs.Loading.{not_loaded}
use Rattle.record_run.specs.Beside.{StopsLogging}
use Rattle.record_run.specs.Halting.{EndsSamples, Took}
use Rattle.record_run.proofs.Stopping.{AsksMany, EndsLogged, asked_why, unlogged_ends}
use Rattle.record_run.proofs.Undone.{logging_undone}

-- What is logged

-- what a sample shows of the metrics that it asks for
abbrev pub shown_at : List Group → Option (List Plan) → SampleTaken → Fetched
shown_at groups plans s = fetched_from s.values (pmids_by groups plans s.names s.stamp) s.stamp

module _ {C D : Type 0} (c : ClockGhosts C) (d : DiskGhosts D) (groups : List Group) (server : List Mounted) (plans : Option (List Plan)) (clock_was clock_is : C) (disk_was disk_is : D) (was is : Carried) where
  -- all that these samples show was logged; at a moment that lacks one, names may have been read from these passes to those
  pub record Went (before after : List Token) (e : Ending) (unlogged : List SampleTaken) (lacking : List Moment) (results : List Fetched) (later : Option (List Plan)) : Type 0 where
    pub none : unlogged ≡ []
    pub lacks : (lacking ≡ []) ⊎ StopsLogging e
    pub why : EndsLogged e ⊎ AsksMany groups server before after e lacking later
    pub logs : OverAny d was disk_was (λ left events start. KeepsRun d left (with_sure_results events results) start is disk_is)

  -- what the last of them shows was not
  pub record Failed (e : Ending) (unlogged : List SampleTaken) (results : List Fetched) (later : Option (List Plan)) : Type 0 where
    pub s : SampleTaken
    pub one : unlogged ≡ s ∷ []
    pub why : EndsUnlogged e
    pub some : 0 < length (pmids_by groups later s.names s.stamp)
    pub few : length (pmids_by groups later s.names s.stamp) ≤ 1024
    pub logs : OverAny d was disk_was (λ left events start. LeavesUnlogged d left (with_sure_results events results) start (shown_at groups later s) is disk_is e)

  -- all was logged, and the disk failed as the last one was to be made sure
  pub record Unsure (e : Ending) (unlogged : List SampleTaken) (lacking : List Moment) (results : List Fetched) : Type 0 where
    pub none : unlogged ≡ []
    pub lacks : lacking ≡ []
    pub why : e ≡ ends.DiskFault
    pub sure : List Fetched
    pub unsure : Fetched
    pub are : results ≡ sure ++ unsure ∷ []
    pub logs : OverAny d was disk_was (λ left events start. WentBy d run_label is.limit left (with_report (with_sure_results events sure) (report_of unsure)) [] start disk_is)

  pub record Yields (before after : List Token) (e : Ending) (samples : List SampleTaken) (lacking : List Moment) : Type 0 where
    pub logged : List SampleTaken
    pub unlogged : List SampleTaken
    pub are : samples ≡ logged ++ unlogged
    pub one : length unlogged + length lacking ≤ 1
    pub moments : c.tells → c.left clock_was ≡ stamps_of samples ++ lacking ++ c.left clock_is
    pub results : List Fetched
    pub later : Option (List Plan)
    pub shown : AreShown groups plans logged results later
    pub how : Went before after e unlogged lacking results later ⊎ (Failed e unlogged results later ⊎ Unsure e unlogged lacking results)
    pub counted : is.logged ≡ was.logged + length results

-- moments taken one behind another
moments_joined : (xs ys : List SampleTaken) (lacking first middle behind : List Moment) → first ≡ stamps_of xs ++ middle → middle ≡ stamps_of ys ++ lacking ++ behind → first ≡ stamps_of (xs ++ ys) ++ lacking ++ behind
moments_joined xs ys lacking first middle behind one two =
    one ∙ ap (λ (ms : List Moment). stamps_of xs ++ ms) two ∙ sym (append_assoc (stamps_of xs) (stamps_of ys ++ lacking) behind)
    ∙ ap (λ (ms : List Moment). ms ++ behind) (sym (append_assoc (stamps_of xs) (stamps_of ys) lacking) ∙ ap (λ (ms : List Moment). ms ++ lacking) (sym (map-append (λ (s : SampleTaken). s.stamp) xs ys)))

module _ {C D : Type 0} (c : ClockGhosts C) (d : DiskGhosts D) (groups : List Group) (server : List Mounted) (first middle last : Sampler) (tokens_first tokens_middle : List Token) (clock_first clock_middle clock_last : C) (disk_first disk_middle disk_last : D)
    (xs : List SampleTaken) (one : GoesOn c d groups server first middle tokens_first tokens_middle clock_first clock_middle disk_first disk_middle xs) where
  went_joined : (gs : List Fetched) → OverAny d middle.session disk_middle (λ left events start. KeepsRun d left (with_sure_results events gs) start last.session disk_last)
      → OverAny d first.session disk_first (λ left events start. KeepsRun d left (with_sure_results events (one.results ++ gs)) start last.session disk_last)
  went_joined gs two = λ tells left events start keeps.
      subst (λ (es : List Event). KeepsRun d left es start last.session disk_last) (results_joined events one.results gs)
      (two tells left (with_sure_results events one.results) start (one.logs tells left events start keeps))

  failed_joined : (gs : List Fetched) (f : Fetched) (e : Ending) → OverAny d middle.session disk_middle (λ left events start. LeavesUnlogged d left (with_sure_results events gs) start f last.session disk_last e)
      → OverAny d first.session disk_first (λ left events start. LeavesUnlogged d left (with_sure_results events (one.results ++ gs)) start f last.session disk_last e)
  failed_joined gs f e two = λ tells left events start keeps.
      subst (λ (es : List Event). LeavesUnlogged d left es start f last.session disk_last e) (results_joined events one.results gs)
      (two tells left (with_sure_results events one.results) start (one.logs tells left events start keeps))

  unsure_joined : (gs : List Fetched) (f : Fetched) (limit : ℕ) → OverAny d middle.session disk_middle (λ left events start. WentBy d run_label limit left (with_report (with_sure_results events gs) (report_of f)) [] start disk_last)
      → OverAny d first.session disk_first (λ left events start. WentBy d run_label limit left (with_report (with_sure_results events (one.results ++ gs)) (report_of f)) [] start disk_last)
  unsure_joined gs f limit two = λ tells left events start keeps.
      subst (λ (es : List Event). WentBy d run_label limit left (with_report es (report_of f)) [] start disk_last) (results_joined events one.results gs)
      (two tells left (with_sure_results events one.results) start (one.logs tells left events start keeps))

  module _ (before after : List Token) (e : Ending) (unlogged : List SampleTaken) (lacking : List Moment) (gs : List Fetched) (later : Option (List Plan)) where
    abbrev HowLast : Type 0
    HowLast = Went c d groups server middle.plans clock_middle clock_last disk_middle disk_last middle.session last.session before after e unlogged lacking gs later
        ⊎ (Failed c d groups server middle.plans clock_middle clock_last disk_middle disk_last middle.session last.session e unlogged gs later
        ⊎ Unsure c d groups server middle.plans clock_middle clock_last disk_middle disk_last middle.session last.session e unlogged lacking gs)

    abbrev HowAll : Type 0
    HowAll = Went c d groups server first.plans clock_first clock_last disk_first disk_last first.session last.session before after e unlogged lacking (one.results ++ gs) later
        ⊎ (Failed c d groups server first.plans clock_first clock_last disk_first disk_last first.session last.session e unlogged (one.results ++ gs) later
        ⊎ Unsure c d groups server first.plans clock_first clock_last disk_first disk_last first.session last.session e unlogged lacking (one.results ++ gs))

    how_joined : HowLast → HowAll
    how_joined (inl w) = inl (record { none = w.none; lacks = w.lacks; why = w.why; logs = went_joined gs w.logs })
    how_joined (inr (inl w)) = inr (inl (record { s = w.s; one = w.one; why = w.why; some = w.some; few = w.few; logs = failed_joined gs (shown_at groups later w.s) e w.logs }))
    how_joined (inr (inr w)) = inr (inr (record {
      none = w.none;
      lacks = w.lacks;
      why = w.why;
      sure = one.results ++ w.sure;
      unsure = w.unsure;
      are = ap (λ (fs : List Fetched). one.results ++ fs) w.are ∙ sym (append_assoc one.results w.sure (w.unsure ∷ []));
      logs = unsure_joined w.sure w.unsure last.session.limit w.logs;
    }))

  pub yields_joined : (before after : List Token) (e : Ending) (ys : List SampleTaken) (lacking : List Moment) → Yields c d groups server middle.plans clock_middle clock_last disk_middle disk_last middle.session last.session before after e ys lacking
      → Yields c d groups server first.plans clock_first clock_last disk_first disk_last first.session last.session before after e (xs ++ ys) lacking
  yields_joined before after e ys lacking y = record {
    logged = xs ++ y.logged;
    unlogged = y.unlogged;
    are = ap (λ (zs : List SampleTaken). xs ++ zs) y.are ∙ sym (append_assoc xs y.logged y.unlogged);
    one = y.one;
    moments = λ tells. moments_joined xs ys lacking (c.left clock_first) (c.left clock_middle) (c.left clock_last) (one.moments tells) (y.moments tells);
    results = one.results ++ y.results;
    later = y.later;
    shown = shown_joined groups xs y.logged first.plans middle.plans y.later one.results y.results one.shown y.shown;
    how = how_joined before after e y.unlogged lacking y.results y.later y.how;
    counted = omega (arith, one.counted, y.counted, length-append one.results y.results);
  }

-- One stretch

module _ {C D : Type 0} (c : ClockGhosts C) (d : DiskGhosts D) (groups : List Group) (server : List Mounted) (was is : Sampler) (seat_was seat_is : List Token) (clock_was clock_is : C) (disk_was disk_is : D) where
  -- It ends so, when it was to take so many samples, and so many are left of all; of moments it took no more than these.
  pub record Phase (e : Ending) (most left highest : ℕ) : Type 0 where
    pub samples : List SampleTaken
    pub middle : List Token
    pub taken : AreTaken server seat_was samples middle
    pub loaded : AreLoaded middle seat_is
    pub lacking : List Moment
    pub few : length samples + length lacking ≤ highest
    pub so_ends : EndsSamples e
    pub took : (before all : ℕ) → before + most + left ≡ all → Took all (before + (length samples + length lacking)) e
    pub yields : Yields c d groups server was.plans clock_was clock_is disk_was disk_is was.session is.session middle seat_is e samples lacking

  pub goes_yields : (before after : List Token) (e : Ending) (samples : List SampleTaken) → EndsLogged e → GoesOn c d groups server was is seat_was seat_is clock_was clock_is disk_was disk_is samples
      → Yields c d groups server was.plans clock_was clock_is disk_was disk_is was.session is.session before after e samples []
  goes_yields before after e samples all goes = record {
    logged = samples;
    unlogged = [];
    are = sym (append-nil samples);
    one = omega arith;
    moments = λ tells. goes.moments tells ∙ ap (λ (ms : List Moment). ms ++ c.left clock_is) (sym (append-nil (stamps_of samples)));
    results = goes.results;
    later = is.plans;
    shown = goes.shown;
    how = inl (record { none = refl; lacks = inl refl; why = inl all; logs = goes.logs });
    counted = goes.counted;
  }

  pub goes_phase : (e : Ending) (samples : List SampleTaken) (most left : ℕ) → length samples ≡ most → EndsSamples e → EndsLogged e → ((before all : ℕ) → before + most + left ≡ all → Took all (before + (length samples + 0)) e)
      → GoesOn c d groups server was is seat_was seat_is clock_was clock_is disk_was disk_is samples → Phase e most left most
  goes_phase e samples most left many own all took goes = record {
    samples = samples;
    middle = seat_is;
    taken = goes.taken;
    loaded = not_loaded seat_is;
    lacking = [];
    few = omega (arith, many);
    so_ends = own;
    took = took;
    yields = goes_yields seat_is seat_is e samples all goes;
  }

  at_most : (e : Ending) (most left highest higher : ℕ) → highest ≤ higher → Phase e most left highest → Phase e most left higher
  at_most e most left highest higher less p = record {
    samples = p.samples;
    middle = p.middle;
    taken = p.taken;
    loaded = p.loaded;
    lacking = p.lacking;
    few = omega (arith, p.few, less);
    so_ends = p.so_ends;
    took = p.took;
    yields = p.yields;
  }

  before_end : (e : Ending) (left : ℕ) → (e ≡ ends.ClockEnd left) ⊎ (e ≡ ends.ClockFault left) → 0 < left → (samples : List SampleTaken) (before all : ℕ) → before + length samples + left ≡ all → EndsSamples e × EndsLogged e × Took all (before + (length samples + 0)) e
  before_end e left (inl is_end) some samples before all sum = subst (λ (x : Ending). EndsSamples x × EndsLogged x × Took all (before + (length samples + 0)) x) (sym is_end) (tt, tt, (omega (arith, sum), some))
  before_end e left (inr is_end) some samples before all sum = subst (λ (x : Ending). EndsSamples x × EndsLogged x × Took all (before + (length samples + 0)) x) (sym is_end) (tt, tt, (omega (arith, sum), some))

  asked : {A B : Type 0} (e : Ending) {many : ℕ} → (e ≡ ends.NoMemory) ⊎ (A × B × (e ≡ ends.Limit kinds.Sets many)) → StopsLogging e × EndsSamples e × ((samples count : ℕ) → count ≤ samples → Took samples count e)
  asked {A} {B} e {many} (inl is_end) = subst (λ (x : Ending). StopsLogging x × EndsSamples x × ((samples count : ℕ) → count ≤ samples → Took samples count x)) (sym is_end) (tt, tt, λ samples count most. most)
  asked {A} {B} e {many} (inr (a, b, is_end)) = subst (λ (x : Ending). StopsLogging x × EndsSamples x × ((samples count : ℕ) → count ≤ samples → Took samples count x)) (sym is_end) (tt, tt, λ samples count most. most)

  pub stops_phase : (e : Ending) (samples : List SampleTaken) (left : ℕ) → 0 < left → StopsSampling c d groups server was is seat_was seat_is clock_was clock_is disk_was disk_is samples left e → Phase e (length samples) left (length samples + 1)
  stops_phase e samples left some (inl b) =
      let ends_so : EndsSamples e × EndsLogged e × Took (0 + length samples + left) (0 + (length samples + 0)) e = before_end e left b.why some samples 0 (0 + length samples + left) refl in
      at_most e (length samples) left (length samples) (length samples + 1) (omega arith) (goes_phase e samples (length samples) left refl ends_so.0 ends_so.1 (λ before all sum. (before_end e left b.why some samples before all sum).2) b.goes)
  stops_phase e samples left some (inr (inl a)) = record {
    samples = samples;
    middle = a.middle;
    taken = a.taken;
    loaded = a.loaded;
    lacking = a.stamp ∷ [];
    few = omega arith;
    so_ends = (asked e a.why).1;
    took = λ before all sum. (asked e a.why).2 all (before + (length samples + 1)) (omega (arith, some, sum));
    yields = record {
      logged = samples;
      unlogged = [];
      are = sym (append-nil samples);
      one = omega arith;
      moments = λ tells. a.moments tells ∙ sym (append_assoc (stamps_of samples) (a.stamp ∷ []) (c.left clock_is));
      results = a.results;
      later = a.plans;
      shown = a.shown;
      how = inl (record { none = refl; lacks = inr (asked e a.why).0; why = asked_why groups server a.middle seat_is e a.stamp a.names a.plans a.why; logs = a.logs });
      counted = a.counted;
    };
  }
  stops_phase e samples left some (inr (inr (inl s))) =
      let t : StopsLogging e × EndsSamples e × ((samples count : ℕ) → count ≤ samples → Took samples count e) = unlogged_ends e s.why in
      record {
        samples = samples ++ s.last ∷ [];
        middle = seat_is;
        taken = s.taken;
        loaded = not_loaded seat_is;
        lacking = [];
        few = omega (arith, length-append samples (s.last ∷ []));
        so_ends = t.1;
        took = λ before all sum. t.2 all (before + (length (samples ++ s.last ∷ []) + 0)) (omega (arith, some, sum, length-append samples (s.last ∷ [])));
        yields = record {
          logged = samples;
          unlogged = s.last ∷ [];
          are = refl;
          one = omega arith;
          moments = λ tells.
              s.moments tells ∙ sym (append_assoc (stamps_of samples) (s.last.stamp ∷ []) (c.left clock_is))
              ∙ ap (λ (ms : List Moment). ms ++ c.left clock_is) (sym (map-append (λ (x : SampleTaken). x.stamp) samples (s.last ∷ [])) ∙ sym (append-nil (stamps_of (samples ++ s.last ∷ []))));
          results = s.results;
          later = s.plans;
          shown = s.shown;
          how = inr (inl (record { s = s.last; one = refl; why = s.why; some = s.some; few = s.few; logs = s.logs }));
          counted = s.counted;
        };
      }
  stops_phase e samples left some (inr (inr (inr u))) = record {
    samples = samples ++ u.last ∷ [];
    middle = seat_is;
    taken = u.taken;
    loaded = not_loaded seat_is;
    lacking = [];
    few = omega (arith, length-append samples (u.last ∷ []));
    so_ends = subst EndsSamples (sym u.why) tt;
    took = λ before all sum. subst (λ (x : Ending). Took all (before + (length (samples ++ u.last ∷ []) + 0)) x) (sym u.why) (omega (arith, some, sum, length-append samples (u.last ∷ [])));
    yields = record {
      logged = samples ++ u.last ∷ [];
      unlogged = [];
      are = sym (append-nil (samples ++ u.last ∷ []));
      one = omega arith;
      moments = λ tells.
          u.moments tells ∙ sym (append_assoc (stamps_of samples) (u.last.stamp ∷ []) (c.left clock_is))
          ∙ ap (λ (ms : List Moment). ms ++ c.left clock_is) (sym (map-append (λ (x : SampleTaken). x.stamp) samples (u.last ∷ [])) ∙ sym (append-nil (stamps_of (samples ++ u.last ∷ []))));
      results = u.results ++ u.unsure ∷ [];
      later = is.plans;
      shown = u.shown;
      how = inr (inr (record { none = refl; lacks = refl; why = u.why; sure = u.results; unsure = u.unsure; are = refl; logs = u.logs }));
      counted = omega (arith, u.counted, length-append u.results (u.unsure ∷ []));
    };
  }

  by_clock : (e : Ending) (left : ℕ) → (e ≡ ends.ClockEnd left) ⊎ (e ≡ ends.ClockFault left) → e ≢ ends.Done
  by_clock e left (inl ended) = λ done. let no : ends.ClockEnd left ≡ ends.Done = sym ended ∙ done in cc
  by_clock e left (inr failed) = λ done. let no : ends.ClockFault left ≡ ends.Done = sym failed ∙ done in cc

  -- what stops them isn't their end
  pub stops_undone : (e : Ending) (taken : List SampleTaken) (left : ℕ) → StopsSampling c d groups server was is seat_was seat_is clock_was clock_is disk_was disk_is taken left e → e ≢ ends.Done
  stops_undone e taken left (inl b) = by_clock e left b.why
  stops_undone e taken left (inr (inl a)) = logging_undone e (asked e a.why).0
  stops_undone e taken left (inr (inr (inl s))) = logging_undone e (unlogged_ends e s.why).0
  stops_undone e taken left (inr (inr (inr u))) = logging_undone e (subst StopsLogging (sym u.why) tt)
