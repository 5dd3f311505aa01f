-- What the samples of a recording leave, however it ends then.
use Rattle.std.proofs.Common.{◌≡◌, ◌⊎◌, inl, inr, ℕ, ◌+◌, List, [], ◌∷◌, ◌++◌, length, Option, None, refl, sym, ◌∙◌, subst, arith}
use Rattle.pcp_base.specs.Time.{Moment}
use Rattle.pcp_model.specs.Disk.{Files}
use Rattle.pcp_outside.specs.declared.clocks.Clock.{Ghosts as ClockGhosts}
use Rattle.pcp_outside.specs.declared.disk.Disk.{Ghosts as DiskGhosts}
use Rattle.region_rule.specs.Seats.{Token}
use Rattle.fetch_answers.specs.declared.fetch.Fetched.{Fetched}
use Rattle.fetch_engine.specs.declared.server.Mounted.{Mounted}
use Rattle.logging_session.specs.Keeping.{Carried}
use Rattle.run_script.specs.declared.script.Script.{Script}
use Rattle.script_runs.specs.declared.ending.Ending.{Ending}
use Rattle.script_runs.specs.declared.ending.Ending.TheVariants as ends
use Rattle.script_runs.specs.Groups.{Plan}
use Rattle.run_archive.specs.declared.sampler.Sampler.{Sampler}
use Rattle.run_archive.specs.Kept.{HasDone, KeepsRun}
use Rattle.run_archive.specs.Samples.{SampleTaken, stamps_of}
use Rattle.run_archive.specs.Shown.{AreShown}
use Rattle.record_run.specs.Beside.{EndsBy, IsFinishedUnlessWanting, IsSampled, SeesOn, StandsBehind, StopsLogging}
use Rattle.record_run.specs.Halting.{EndsSamples, Took}
use Rattle.record_run.specs.Recordings.{LastIsBehind}
use Rattle.record_run.specs.Stopping.{LoggingDid, ShowsLast, WhyStopped}
use Rattle.record_run.proofs.Phases.{Failed, Unsure, Went}
use Rattle.record_run.proofs.Stopping.{AsksMany, EndsLogged, logged_done, logged_why, many_done, shown_why, unlogged_done, unlogged_ends, unsure_done}
use Rattle.record_run.proofs.Stretches.{Whole}

pub finished_all : (own : Ending) (P : Type 0) → P → IsFinishedUnlessWanting own P
finished_all ends.Done P p = p
finished_all ends.DiskFault P p = tt
finished_all (ends.Condition line) P p = p
finished_all (ends.NotArchive file at) P p = p
finished_all (ends.Compressed file) P p = p
finished_all (ends.Limit what number) P p = p
finished_all (ends.ClockEnd samples) P p = p
finished_all (ends.ClockFault samples) P p = p
finished_all ends.NoMemory P p = tt
finished_all (ends.NotLater last) P p = p
finished_all (ends.Changed pmid) P p = p

pub unfinished : (ending : Ending) (P : Type 0) → EndsBy ends.NoMemory ending → IsFinishedUnlessWanting ending P
unfinished ending P (inl want) = subst (λ (e : Ending). IsFinishedUnlessWanting e P) (sym want) tt
unfinished ending P (inr failing) = subst (λ (e : Ending). IsFinishedUnlessWanting e P) (sym failing) tt

stamps_many : (xs : List SampleTaken) (lacking : List Moment) → length (stamps_of xs ++ lacking) ≡ length xs + length lacking
stamps_many [] lacking = omega arith
stamps_many (x ∷ xs) lacking = let rest = stamps_many xs lacking in omega (arith, rest)

-- how they end, but for the writers
module _ {C D : Type 0} (c : ClockGhosts C) (d : DiskGhosts D) (clock_was clock_is : C) (was is : Carried) (old new : D) where
  pub record Settled (script : Script) (samples : ℕ) (server : List Mounted) (first final : List Token) (ending : Ending) : Type 0 where
    pub moments : List Moment
    pub results : List Fetched
    pub sampled : IsSampled script server first final ending moments results
    pub took : Took samples (length moments) ending
    pub at_last : length moments ≡ samples → LastIsBehind samples sampled
    pub so_ends : EndsSamples ending
    pub clock : c.tells → c.left clock_was ≡ moments ++ c.left clock_is
    pub counted : is.logged ≡ length results
    pub why : WhyStopped sampled ending
    pub told : d.tells → (left : Files) (start : D) → KeepsRun d left [] start was old → HasDone d left start is new ending (LoggingDid sampled was.limit left ending)

module _ {C D : Type 0} (c : ClockGhosts C) (d : DiskGhosts D) (script : Script) (server : List Mounted) (first waiting gathered final : List Token) (was is : Sampler) (clock_was clock_is : C) (disk_was disk_is : D) (samples : ℕ) (e : Ending)
    (w : Whole c d script.config.groups server first waiting gathered final was is clock_was clock_is disk_was disk_is e samples) (limit_same : is.session.limit ≡ was.session.limit) (none : was.session.logged ≡ 0) (unstarted : was.plans ≡ None)
    (later : SeesOn waiting gathered) (stands : StandsBehind script server gathered final) where
  abbrev moments : List Moment
  moments = stamps_of (w.beside ++ w.behind) ++ w.lacking

  abbrev unlogged : List SampleTaken
  unlogged = w.yields.unlogged

  abbrev AllWent : Type 0
  AllWent = Went c d script.config.groups server was.plans clock_was clock_is disk_was disk_is was.session is.session w.before w.after e unlogged w.lacking w.yields.results w.yields.later

  abbrev LastFailed : Type 0
  LastFailed = Failed c d script.config.groups server was.plans clock_was clock_is disk_was disk_is was.session is.session e unlogged w.yields.results w.yields.later

  abbrev LastUnsure : Type 0
  LastUnsure = Unsure c d script.config.groups server was.plans clock_was clock_is disk_was disk_is was.session is.session e unlogged w.lacking w.yields.results

  stops_lack : unlogged ≡ [] → (w.lacking ≡ []) ⊎ StopsLogging e → ((unlogged ≡ []) × (w.lacking ≡ [])) ⊎ StopsLogging e
  stops_lack all (inl has) = inl (all, has)
  stops_lack all (inr stops) = inr stops

  stops_so : AllWent ⊎ (LastFailed ⊎ LastUnsure) → ((unlogged ≡ []) × (w.lacking ≡ [])) ⊎ StopsLogging e
  stops_so (inl went) = stops_lack went.none went.lacks
  stops_so (inr (inl failed)) = inr (unlogged_ends e failed.why).0
  stops_so (inr (inr unsure)) = inl (unsure.none, unsure.lacks)

  abbrev sampled : IsSampled script server first final e moments w.yields.results
  sampled = record {
    beside = w.beside;
    middle = w.middle;
    taken = w.taken;
    waiting = waiting;
    loaded = w.loaded;
    gathered = gathered;
    later = later;
    stands = stands;
    behind = w.behind;
    last = w.last;
    taken_behind = w.taken_behind;
    loaded_behind = w.loaded_behind;
    lacking = w.lacking;
    few = w.few;
    last_behind = w.last_behind;
    moments_are = refl;
    logged = w.yields.logged;
    unlogged = unlogged;
    are = w.yields.are;
    one = w.yields.one;
    stops = stops_so w.yields.how;
    plans = w.yields.later;
    shown = subst (λ (p : Option (List Plan)). AreShown script.config.groups p w.yields.logged w.yields.results w.yields.later) unstarted w.yields.shown;
  }

  -- ---- why

  many_why : EndsLogged e ⊎ AsksMany script.config.groups server w.before w.after e w.lacking w.yields.later → WhyStopped sampled e
  many_why (inl all) = logged_why sampled e all
  many_why (inr a) = subst (λ (x : Ending). WhyStopped sampled x) (sym a.is)
      (record { stamp = a.stamp; lacks = a.lacks; before = w.before; after = w.after; names = a.names; read = a.read; place = w.place; many = a.many; number_is = refl })

  abbrev shows_last : LastFailed → ShowsLast sampled
  shows_last failed = record { sample = failed.s; one = failed.one; some = failed.some; few = failed.few }

  why : AllWent ⊎ (LastFailed ⊎ LastUnsure) → WhyStopped sampled e
  why (inl went) = many_why went.why
  why (inr (inl failed)) = shown_why sampled e failed.why (shows_last failed)
  why (inr (inr unsure)) = subst (λ (x : Ending). WhyStopped sampled x) (sym unsure.why) tt

  -- ---- what was done to the archive

  module _ (left : Files) (start : D) (keeps : KeepsRun d left [] start was.session disk_was) where
    abbrev Did : Ending → Type 0
    Did x = HasDone d left start is.session disk_is x (LoggingDid sampled was.session.limit left x)

    many_did : d.tells → (went : AllWent) → EndsLogged e ⊎ AsksMany script.config.groups server w.before w.after e w.lacking w.yields.later → Did e
    many_did tells went (inl all) = logged_done sampled d was.session.limit left start is.session disk_is e all (went.logs tells left [] start keeps)
    many_did tells went (inr a) = subst (λ (x : Ending). Did x) (sym a.is) (many_done sampled d was.session.limit left start is.session disk_is _ (went.logs tells left [] start keeps))

    did : d.tells → AllWent ⊎ (LastFailed ⊎ LastUnsure) → Did e
    did tells (inl went) = many_did tells went went.why
    did tells (inr (inl failed)) = unlogged_done sampled d was.session.limit left start is.session disk_is (shows_last failed) limit_same e failed.why (failed.logs tells left [] start keeps)
    did tells (inr (inr unsure)) = subst (λ (x : Ending). Did x) (sym unsure.why) (unsure_done sampled d was.session.limit left start is.session disk_is unsure.sure unsure.unsure unsure.are (unsure.logs tells left [] start keeps))

  pub settled : Settled c d clock_was clock_is was.session is.session disk_was disk_is script samples server first final e
  settled = record {
    moments = moments;
    results = w.yields.results;
    sampled = sampled;
    took = subst (λ (n : ℕ). Took samples n e) (sym (stamps_many (w.beside ++ w.behind) w.lacking)) w.took;
    at_last = λ all. let l : (length w.beside + 1 ≡ samples) × (waiting ≡ w.middle) = w.at_last (sym (stamps_many (w.beside ++ w.behind) w.lacking) ∙ all) in record { others = l.0; still = l.1 };
    so_ends = w.so_ends;
    clock = w.yields.moments;
    counted = omega (arith, none, w.yields.counted);
    why = why w.yields.how;
    told = λ tells left start keeps. did left start keeps tells w.yields.how;
  }
