-- A tick is that of the run as a fold.
use Rattle.std.proofs.Common.{◌≡◌, inl, inr, ℕ, ◌+◌, ◌<◌, ◌≤◌, List, [], ◌∷◌, ◌++◌, codes, length, length-append, Option, Some, refl, sym, ap, ◌∙◌, subst, arith}
use Rattle.pcp_base.specs.Time.{Moment}
use Rattle.pcp_base.specs.declared.result.Item.TheVariants.{Sample}
use Rattle.pcp_outside.specs.declared.disk.Disk.{Ghosts as DiskGhosts}
use Rattle.pmns_core.specs.Pairs.{Pair}
use Rattle.region_rule.specs.Seats.{Token}
use Rattle.fetch_answers.specs.declared.fetch.Fetched.{Fetched}
use Rattle.fetch_answers.specs.Names.{names_of}
use Rattle.fetch_answers.specs.Readings.{RegionReading}
use Rattle.fetch_engine.specs.Visits.{names_in}
use Rattle.fetch_engine.specs.declared.server.Mounted.{Mounted}
use Rattle.logging_session.specs.Events.{Event, items_by, with_report}
use Rattle.run_script.specs.declared.script.Line.TheVariants.{Tick}
use Rattle.run_script.specs.declared.script.Script.{Script}
use Rattle.run_passes.specs.declared.running.Running.{Running}
use Rattle.run_passes.specs.Crews.{Alone, Follows, IsManned}
use Rattle.script_runs.specs.Archives.{report_of}
use Rattle.script_runs.specs.Groups.{Plan, asked_for, asking, shots_of}
use Rattle.script_runs.specs.Steps.{PassesForEach, RunState, asking_at, fetched_at, fetched_from, plans_at, pmids_at, with_shown}
use Rattle.script_runs.proofs.Going.{with_report_items}
use Rattle.text_lines.specs.Spelling.{one_number}
use Rattle.run_archive.specs.Kept.{KeepsRun}
use Rattle.run_archive.specs.Samples.{SampleTaken}
use Rattle.run_archive.specs.Sampling.{TakesAt}
use Rattle.run_archive.specs.Shown.{AreShown, asking_by, pmids_by, result_for, with_result, with_results}
use Rattle.record_run.specs.declared.run.Run.{Run}
use Rattle.record_run.specs.States.{GoOn, GoesTo, Stands}
use Rattle.record_run.proofs.MarkPut.{Puts}
use Rattle.record_run.proofs.SampleReads.{Reads, sample_reads}

module _ (script : Script) (s : RunState) (now : Moment) where
  -- what is asked for
  module _ (plans : Option (List Plan)) (names : List RegionReading) (same_plans : plans ≡ s.plans) (same_names : names_in names ≡ names_of (shots_of s.regions)) where
    asking_same : asking_by script.config.groups plans names now ≡ asking_at script s now
    asking_same =
        ap (λ (pairs : List Pair). asking pairs now (plans_at script.config.groups plans now)) same_names
        ∙ ap (λ (p : Option (List Plan)). asking (names_of (shots_of s.regions)) now (plans_at script.config.groups p now)) same_plans

    pub pmids_same : pmids_by script.config.groups plans names now ≡ pmids_at script s now
    pmids_same = ap (λ (p : List Plan). asked_for now p) asking_same

  -- and what is logged of it
  abbrev results_of : List ℕ → List Fetched
  results_of pmids = with_result (result_for pmids (fetched_at s pmids now)) []

  shown_events : (pmids : List ℕ) → with_results s.events (results_of pmids) ≡ with_shown s now pmids
  shown_events [] = refl
  shown_events (pmid ∷ pmids) = refl

  shown_none : (pmids : List ℕ) → length pmids ≡ 0 → with_shown s now pmids ≡ s.events
  shown_none [] none = refl
  shown_none (pmid ∷ pmids) none = absurd (omega (arith, none))

  shown_one : (pmids : List ℕ) → 0 < length pmids → with_shown s now pmids ≡ with_report s.events (report_of (fetched_at s pmids now))
  shown_one [] some = absurd (omega (arith, some))
  shown_one (pmid ∷ pmids) some = refl

  shown_many : (pmids : List ℕ) → length (items_by (with_shown s now pmids)) ≡ length (items_by s.events) + length (results_of pmids)
  shown_many [] = omega arith
  shown_many (pmid ∷ pmids) =
      let f : Fetched = fetched_at s (pmid ∷ pmids) now in
      ap length (with_report_items s.events (report_of f)) ∙ length-append (items_by s.events) (Sample f.result ∷ [])

module _ {D : Type 0} (d : DiskGhosts D) (script : Script) (server : List Mounted) (s : RunState) (was is : Run) (before after : List Token) (old new : D) (now : Moment)
    (manned : IsManned server was.running before) (same_running : is.running ≡ was.running) (alone : Alone was.running after) (stands : Stands script server was before s) where
  module _ (count : ℕ) (x : TakesAt d script.config.groups server was.sampler is.sampler before after old new now count) where
    abbrev sample : SampleTaken
    sample = record x.sample { stamp = now }

    abbrev pmids : List ℕ
    pmids = pmids_by script.config.groups was.sampler.plans x.sample.names now

    moved : x.sample ≡ sample
    moved = λ i. record x.sample { stamp = x.stamp i }

    reads : Reads script server was.running after s.regions x.sample.names x.sample.values
    reads = sample_reads script server was.running before after s.regions x.sample x.before x.after x.taken manned alone stands.follow.follows

    shown : AreShown script.config.groups was.sampler.plans (sample ∷ []) x.results is.sampler.plans
    shown = subst (λ (t : SampleTaken). AreShown script.config.groups was.sampler.plans (t ∷ []) x.results is.sampler.plans) moved x.shown

    same : pmids ≡ pmids_at script s now
    same = pmids_same script s now was.sampler.plans x.sample.names stands.plans reads.names_read.names

    results_same : x.results ≡ results_of script s now (pmids_at script s now)
    results_same =
        shown.4
        ∙ ap (λ (rest : List Fetched). with_result (result_for pmids (fetched_from x.sample.values pmids now)) rest) shown.5.0
        ∙ ap (λ (f : Fetched). with_result (result_for pmids f) []) (reads.values_read.fetched pmids now)
        ∙ ap (λ (ps : List ℕ). results_of script s now ps) same

    abbrev next : RunState
    next = record {
      regions = s.regions;
      plans = Some shown.0;
      events = with_shown s now (pmids_at script s now);
      output = s.output ++ one_number (codes "tick") (length (pmids_at script s now));
    }

    counted : is.sampler.session.logged ≡ length (items_by next.events)
    counted =
        x.counted
        ∙ ap (λ (n : ℕ). n + length x.results) stands.follow.counted
        ∙ ap (λ (results : List Fetched). length (items_by s.events) + length results) results_same
        ∙ sym (shown_many script s now (pmids_at script s now))

    so_many : count ≡ length (pmids_at script s now)
    so_many = x.so_many ∙ ap (λ (ps : List ℕ). length ps) same

    few : length (pmids_at script s now) ≤ 1024
    few = subst (λ (ps : List ℕ). length ps ≤ 1024) same shown.2

    -- what is logged is marked where the line begins
    marks_go : Puts count (length was.out.items) was.marks.items is.marks.items → GoOn script s (Tick now) next was.marks.items is.marks.items
    marks_go (inl (none, kept)) = inr (inl (shown_none script s now (pmids_at script s now) (sym so_many ∙ none), kept))
    marks_go (inr (some, others, kept, put)) =
        let many : 0 < length (pmids_at script s now) = subst (λ (n : ℕ). 0 < n) so_many some in
        inr (inr (record {
          x = record { now = now; is = refl; some = many; few = few };
          logged = shown_one script s now (pmids_at script s now) many;
          others = others;
          kept = kept;
          marks = put ∙ ap (λ (output : List ℕ). others ++ length output ∷ []) stands.follow.output;
        }))

    pub tick_goes : Puts count (length was.out.items) was.marks.items is.marks.items → is.out.items ≡ was.out.items ++ one_number (codes "tick") count → GoesTo d script server s was is after old new (Tick now)
    tick_goes marks written = record {
      next = next;
      goes = record {
        few = few;
        later = shown.0;
        passed = subst (λ (plans : List Plan). PassesForEach now plans shown.0) (asking_same script s now was.sampler.plans x.sample.names stands.plans reads.names_read.names) shown.3;
        after = refl;
      };
      stands = record {
        follow = record {
          follows = subst (λ (r : Running). Follows script server r after s.regions) (sym same_running) reads.follows;
          output =
              written
              ∙ ap (λ (output : List ℕ). output ++ one_number (codes "tick") count) stands.follow.output
              ∙ ap (λ (n : ℕ). s.output ++ one_number (codes "tick") n) so_many;
          counted = counted;
        };
        plans = shown.5.1;
      };
      marks = marks_go marks;
      kept = λ tells left start k.
          subst (λ (events : List Event). KeepsRun d left events start is.sampler.session new) (ap (λ (results : List Fetched). with_results s.events results) results_same ∙ shown_events script s now (pmids_at script s now))
          (x.logs tells left s.events start k);
    }
