-- The ways in which a recording comes to its last flush.
use Rattle.std.proofs.Common.{◌≡◌, inl, ℕ, ◌+◌, ◌<◌, List, [], ◌∷◌, length, None, Result, Ok, Err, refl, ◌∙◌, subst}
use Rattle.std.specs.Global.{Vec}
use Rattle.std.specs.Result.{IfErr, IfOk, OnOk}
use Rattle.pcp_outside.specs.declared.clocks.Clock.{Ghosts as ClockGhosts}
use Rattle.pcp_outside.specs.declared.disk.Disk.{Ghosts as DiskGhosts}
use Rattle.region_rule.specs.Seats.{Token}
use Rattle.fetch_engine.specs.declared.server.Mounted.{Mounted}
use Rattle.fetch_engine.specs.Servers.{Seated}
use Rattle.fetch_engine.specs.Visits.{AreLoaded}
use Rattle.run_script.specs.Rules.{KeepsRules}
use Rattle.run_script.specs.declared.script.Script.{Script}
use Rattle.run_passes.specs.Openings.{AreMade}
use Rattle.script_runs.specs.declared.ending.Ending.{Ending}
use Rattle.script_runs.specs.declared.ending.Ending.TheVariants as ends
use Rattle.run_archive.specs.declared.sampler.Sampler.{Sampler}
use Rattle.run_archive.specs.Samples.{SampleTaken}
use Rattle.run_archive.specs.Sampling.{GoesOn, StopsSampling}
use Rattle.run_archive.proofs.Loading.{not_loaded}
use Rattle.run_passes.specs.Written.{HaveWritten}
use Rattle.record_run.specs.Gathered.{HaveGathered}
use Rattle.record_run.specs.Halting.{Halts, RefusedBy}
use Rattle.record_run.specs.Pictured.{AreImages}
use Rattle.record_run.proofs.Running.{all_journals, halts_refused, halts_written, refused_by, refused_settled}
use Rattle.record_run.proofs.Settling.{Settled, settled}
use Rattle.record_run.proofs.Stretches.{Whole, done_behind, sees_same, stands_same, stopped_behind, stopped_whole, wanted_whole}

module _ (script : Script) (server : List Mounted) (passes : List (Vec Token)) (first : Seated) (keeps : KeepsRules script) (made : AreMade script server passes (first ∷ [])) where
  module _ {C D : Type 0} (c : ClockGhosts C) (d : DiskGhosts D) (waiting : List Token) (was mid : Sampler) (clock_was clock_mid : C) (disk_was disk_mid : D) (samples : ℕ) (limit_same : mid.session.limit ≡ was.session.limit) (none : was.session.logged ≡ 0) (unstarted : was.plans ≡ None) (loaded : AreLoaded first.tokens waiting) where
    abbrev Beside : Ending → Type 0
    Beside e = (taken : List SampleTaken) × (still : ℕ) × (length taken + still ≡ samples) × (length taken + 1 < samples) × StopsSampling c d script.config.groups server was mid first.tokens waiting clock_was clock_mid disk_was disk_mid taken still e

    abbrev Went : Type 0
    Went = (taken : List SampleTaken) × (length taken + 1 ≡ samples) × GoesOn c d script.config.groups server was mid first.tokens waiting clock_was clock_mid disk_was disk_mid taken

    abbrev WholeBeside : List Token → Ending → Type 0
    WholeBeside gathered e = Whole c d script.config.groups server first.tokens waiting gathered gathered was mid clock_was clock_mid disk_was disk_mid e samples

    whole_beside : (gathered : List Token) (e : Ending) → Beside e → WholeBeside gathered e
    whole_beside gathered e (taken, still, sum, early, stops) = stopped_whole c d script.config.groups server first.tokens waiting gathered was mid clock_was clock_mid disk_was disk_mid e taken still samples sum early stops

    -- no writer acted
    still_settled : (e : Ending) → WholeBeside waiting e → Settled c d clock_was clock_mid was.session mid.session disk_was disk_mid script samples server first.tokens waiting e
    still_settled e w = settled c d script server first.tokens waiting waiting waiting was mid clock_was clock_mid disk_was disk_mid samples e w limit_same none unstarted (sees_same waiting) (stands_same script server waiting)

    -- writers were refused memory
    pub run_wanted : AreImages script → Went → Halts c d clock_was clock_mid was.session mid.session disk_was disk_mid script samples server first.tokens waiting ends.NoMemory
    run_wanted images (taken, sum, goes) =
        halts_refused script server passes first keeps made c d clock_was clock_mid was.session mid.session disk_was disk_mid samples waiting loaded images ends.NoMemory (inl refl)
        (still_settled ends.NoMemory (wanted_whole c d script.config.groups server first.tokens waiting waiting was mid clock_was clock_mid disk_was disk_mid taken samples sum goes))

    pub run_refused : AreImages script → (e ending : Ending) → RefusedBy e ending → Beside e → Halts c d clock_was clock_mid was.session mid.session disk_was disk_mid script samples server first.tokens waiting ending
    run_refused images e ending by beside =
        halts_refused script server passes first keeps made c d clock_was clock_mid was.session mid.session disk_was disk_mid samples waiting loaded images ending (refused_by e ending by)
        (refused_settled c d clock_was clock_mid was.session mid.session disk_was disk_mid script samples server first.tokens waiting e ending by (still_settled e (whole_beside waiting e beside)))

    module _ (done : List (Vec Token)) (gathered : List Token) (written : HaveWritten script server passes done) (gathers : HaveGathered done waiting gathered) where
      -- sampling stopped beside them
      pub run_stopped : (e : Ending) → Beside e → Halts c d clock_was clock_mid was.session mid.session disk_was disk_mid script samples server first.tokens gathered e
      run_stopped e beside =
          let j = all_journals script server passes first keeps made c d clock_was clock_mid was.session mid.session disk_was disk_mid samples waiting loaded done gathered gathered written gathers (not_loaded gathered) in
          halts_written script server passes first keeps made c d clock_was clock_mid was.session mid.session disk_was disk_mid samples waiting loaded done gathered gathered written gathers (not_loaded gathered) e
          (settled c d script server first.tokens waiting gathered gathered was mid clock_was clock_mid disk_was disk_mid samples e (whole_beside gathered e beside) limit_same none unstarted j.3 j.4)

      module _ (final : List Token) (is : Sampler) (clock_is : C) (disk_is : D) (behind : AreLoaded gathered final) (limit_last : is.session.limit ≡ mid.session.limit) where
        whole_halts : (e : Ending) → Whole c d script.config.groups server first.tokens waiting gathered final was is clock_was clock_is disk_was disk_is e samples → Halts c d clock_was clock_is was.session is.session disk_was disk_is script samples server first.tokens final e
        whole_halts e w =
            let j = all_journals script server passes first keeps made c d clock_was clock_is was.session is.session disk_was disk_is samples waiting loaded done gathered final written gathers behind in
            halts_written script server passes first keeps made c d clock_was clock_is was.session is.session disk_was disk_is samples waiting loaded done gathered final written gathers behind e
            (settled c d script server first.tokens waiting gathered final was is clock_was clock_is disk_was disk_is samples e w (limit_last ∙ limit_same) none unstarted j.3 j.4)

        -- or at the last sample
        pub run_last : (e : Ending) → Went → StopsSampling c d script.config.groups server mid is gathered final clock_mid clock_is disk_mid disk_is [] 1 e → Halts c d clock_was clock_is was.session is.session disk_was disk_is script samples server first.tokens final e
        run_last e (taken, sum, goes) stops = whole_halts e (stopped_behind c d script.config.groups server first.tokens waiting gathered final was mid is clock_was clock_mid clock_is disk_was disk_mid disk_is taken samples sum goes e stops)

        -- or all were taken
        pub run_done : Went → (s : SampleTaken) × GoesOn c d script.config.groups server mid is gathered final clock_mid clock_is disk_mid disk_is (s ∷ []) → Halts c d clock_was clock_is was.session is.session disk_was disk_is script samples server first.tokens final ends.Done
        run_done (taken, sum, goes) (s, more) = whole_halts ends.Done (done_behind c d script.config.groups server first.tokens waiting gathered final was mid is clock_was clock_mid clock_is disk_was disk_mid disk_is taken samples sum goes s more)

-- What is told of an answer

pub ok_told : {T E : Type 0} (r : Result T E) (x : T) (P : T → Type 0) → r ≡ Ok x → IfOk r P → P x
ok_told r x P is h = subst (λ r. IfOk r P) is h

pub err_told : {T E : Type 0} (r : Result T E) (e : E) (P : E → Type 0) → r ≡ Err e → IfErr r P → P e
err_told r e P is h = subst (λ r. IfErr r P) is h

pub ok_so : {T E : Type 0} {P : Type 0} (r : Result T E) (x : T) → r ≡ Ok x → OnOk r P → P
ok_so {T} {E} {P} r x is h = subst (λ r. OnOk r P) is h
