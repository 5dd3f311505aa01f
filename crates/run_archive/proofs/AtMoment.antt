-- What groups ask for at a moment, and what is shown of it, is a sample.
use Rattle.std.proofs.Common.{◌≡◌, inl, inr, ℕ, ◌+◌, ◌≤◌, ◌<◌, List, [], length, Option, Some, Result, refl, sym, ap, ◌∙◌, subst}
use Rattle.std.specs.Result.{IfErr, IsErrAnd}
use Rattle.std.proofs.lemmas.Result.{err_from_is_err_and}
use Rattle.pcp_base.specs.Time.{Moment}
use Rattle.pcp_outside.specs.declared.disk.Disk.{Ghosts as DiskGhosts}
use Rattle.region_rule.specs.Seats.{Token}
use Rattle.fetch_engine.specs.declared.server.Mounted.{Mounted}
use Rattle.fetch_answers.specs.Readings.{RegionReading}
use Rattle.fetch_engine.specs.Visits.{AreLoaded, AreRead, names_in}
use Rattle.log_schedule.specs.declared.config.Group.{Group}
use Rattle.script_runs.specs.declared.ending.Ending.{Ending}
use Rattle.script_runs.specs.declared.ending.Ending.TheVariants as ends
use Rattle.script_runs.specs.declared.ending.LimitKind.TheVariants as kinds
use Rattle.script_runs.specs.Groups.{Plan, asked_for, asking}
use Rattle.script_runs.specs.Steps.{PassesForEach, fetched_from, plans_at}
use Rattle.run_archive.specs.declared.sampler.Sampler.{Sampler}
use Rattle.run_archive.specs.Kept.{KeepsRun, LeavesUnlogged, OverAny}
use Rattle.run_archive.specs.Logging.{Hides, LogsOne, StopsOne}
use Rattle.run_archive.specs.Samples.{SampleTaken}
use Rattle.run_archive.specs.Sampling.{AsksInVain, StopsAt, TakesAt}
use Rattle.run_archive.specs.Shown.{asking_by, pmids_by, result_for, with_result, with_results}

module _ {D : Type 0} (d : DiskGhosts D) (groups : List Group) (server : List Mounted) (was : Sampler) (seat_was : List Token) (old : D) (now : Moment) where
  -- the groups start at the first moment
  pub starts_by : (plans : Option (List Plan)) (first : List Plan) → plans ≡ was.plans → first ≡ plans_at groups plans now → first ≡ plans_at groups was.plans now
  starts_by plans first same starts = starts ∙ ap (λ (p : Option (List Plan)). plans_at groups p now) same

  -- memory was refused before anything was shown
  pub wants : (is : Sampler) (seat_is : List Token) → AreLoaded seat_was seat_is → is.session ≡ was.session → StopsAt d groups server was is seat_was seat_is old old now ends.NoMemory
  wants is seat_is loaded same = inl (record { loaded = loaded; names = []; why = inl refl; session = same; disk = refl })

  module _ (names : List RegionReading) (middle : List Token) (named : AreRead server seat_was names middle) (first asked : List Plan) (pmids : List ℕ) (starts : first ≡ plans_at groups was.plans now) (asks : asked ≡ asking (names_in names) now first) (are : pmids ≡ asked_for now asked)
      (is : Sampler) (seat_is : List Token) (new : D) where
    abbrev asked_now : List Plan
    asked_now = asking_by groups was.plans names now

    abbrev pmids_now : List ℕ
    pmids_now = pmids_by groups was.plans names now

    asked_is : asked ≡ asked_now
    asked_is = asks ∙ ap (λ (plans : List Plan). asking (names_in names) now plans) starts

    pmids_are : pmids ≡ pmids_now
    pmids_are = are ∙ ap (λ (plans : List Plan). asked_for now plans) asked_is

    abbrev taken_by : List RegionReading → SampleTaken
    taken_by values = record { stamp = now; before = seat_was; names = names; between = middle; values = values; after = seat_is }

    pub takes : (later : List Plan) (count : ℕ) → PassesForEach now asked later → is.plans ≡ Some later → count ≡ length pmids → LogsOne d server middle pmids now was.session old is.session new seat_is → TakesAt d groups server was is seat_was seat_is old new now count
    takes later count passed plans_are many l = record {
      sample = taken_by l.values;
      stamp = refl;
      before = refl;
      after = refl;
      taken = record { named = named; read = l.read };
      results = with_result (result_for pmids_now (fetched_from l.values pmids_now now)) [];
      shown = (
        later,
        [],
        subst (λ (ps : List ℕ). length ps ≤ 1024) pmids_are l.few,
        subst (λ (plans : List Plan). PassesForEach now plans later) asked_is passed,
        refl,
        (refl, plans_are),
      );
      so_many = many ∙ ap (λ (ps : List ℕ). length ps) pmids_are;
      logs = subst
          (λ (ps : List ℕ). OverAny d was.session old (λ left events start. KeepsRun d left (with_results events (with_result (result_for ps (fetched_from l.values ps now)) [])) start is.session new))
          pmids_are l.logs;
      counted = subst (λ (ps : List ℕ). is.session.logged ≡ was.session.logged + length (with_result (result_for ps (fetched_from l.values ps now)) [])) pmids_are l.counted;
    }

    hides : (ending : Ending) → AreLoaded seat_was seat_is → Hides middle pmids ending seat_is → is.session ≡ was.session → new ≡ old → AsksInVain d groups server was is seat_was seat_is old new now ending
    hides ending loaded (inl (many, stays, why)) same still = record {
      loaded = loaded;
      names = names;
      why = inr (
        subst (λ (t : List Token). AreRead server seat_was names t) (sym stays) named,
        subst (λ (ps : List ℕ). 1024 < length ps) pmids_are many,
        subst (λ (ps : List ℕ). ending ≡ ends.Limit kinds.Sets (length ps)) pmids_are why,
      );
      session = same;
      disk = still;
    }
    hides ending loaded (inr why) same still = record { loaded = loaded; names = names; why = inl why; session = same; disk = still }

    pub stops : (ending : Ending) → AreLoaded seat_was seat_is → StopsOne d server middle pmids now was.session old is.session new seat_is ending → StopsAt d groups server was is seat_was seat_is old new now ending
    stops ending loaded (inl h) = inl (hides ending loaded h.hides h.archive h.disk)
    stops ending loaded (inr r) = inr (record {
      sample = taken_by r.values;
      stamp = refl;
      before = refl;
      after = refl;
      taken = record { named = named; read = r.read };
      some = subst (λ (ps : List ℕ). 0 < length ps) pmids_are r.some;
      few = subst (λ (ps : List ℕ). length ps ≤ 1024) pmids_are r.few;
      why = r.why;
      logs = subst
          (λ (ps : List ℕ). OverAny d was.session old (λ left events start. LeavesUnlogged d left events start (fetched_from r.values ps now) is.session new ending))
          pmids_are r.logs;
      counted = r.counted;
    })

-- an ending that is handed on
pub err_handed : {T : Type 0} (r : Result T Ending) (e : Ending) (P : Ending → Type 0) → IsErrAnd r (λ y. y ≡ e) → P e → IfErr r P
err_handed r e P was h = let p = err_from_is_err_and r was in subst (λ x. IfErr x P) (sym p.1) (subst P (sym p.2) h)
