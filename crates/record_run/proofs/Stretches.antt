-- The samples beside the writers, and the one behind them.
use Rattle.std.proofs.Common.{◌≡◌, ◌≢◌, ◌⊎◌, inl, inr, ℕ, ◌+◌, ◌<◌, ◌≤◌, List, [], ◌∷◌, ◌++◌, length, refl, sym, ap, ◌∙◌, subst, arith, append-nil, length-append}
use Rattle.std.proofs.lemmas.Option.{same_Some}
use Rattle.pcp_base.specs.Time.{Moment}
use Rattle.pcp_outside.specs.declared.clocks.Clock.{Ghosts as ClockGhosts}
use Rattle.pcp_outside.specs.declared.disk.Disk.{Ghosts as DiskGhosts}
use Rattle.region_rule.specs.Seats.{Token}
use Rattle.fetch_engine.specs.declared.server.Mounted.{Mounted}
use Rattle.fetch_engine.specs.Visits.{AreLoaded}
use Rattle.log_schedule.specs.declared.config.Group.{Group}
use Rattle.run_script.specs.declared.script.Script.{Script}
use Rattle.script_runs.specs.declared.ending.Ending.{Ending}
use Rattle.script_runs.specs.declared.ending.Ending.TheVariants as ends
use Rattle.run_archive.specs.declared.sampler.Sampler.{Sampler}
use Rattle.run_archive.specs.Samples.{AreTaken, SampleTaken}
use Rattle.run_archive.specs.Sampling.{GoesOn, StopsSampling}
use Rattle.run_archive.proofs.Loading.{not_loaded}
use Rattle.record_run.specs.Beside.{SeesOn, StandsBehind}
use Rattle.record_run.specs.Halting.{EndsSamples, Took}
use Rattle.record_run.proofs.Phases.{Phase, Yields, goes_phase, goes_yields, stops_phase, stops_undone, yields_joined}

-- where nobody acted
pub sees_same : (tokens : List Token) → SeesOn tokens tokens
sees_same tokens = (refl, λ j before after was is. ([], ap (λ (t : Token). t.view.seen) (sym (same_Some before after (sym was ∙ is))) ∙ sym (append-nil before.view.seen)))

pub stands_same : (script : Script) (server : List Mounted) (tokens : List Token) → StandsBehind script server tokens tokens
stands_same script server tokens = λ i j at before after was is. ([], ap (λ (t : Token). t.view.seen) (sym (same_Some before after (sym was ∙ is))) ∙ sym (append-nil before.view.seen), λ k own. refl)

module _ {C D : Type 0} (c : ClockGhosts C) (d : DiskGhosts D) (groups : List Group) (server : List Mounted) (first waiting gathered final : List Token) (was is : Sampler) (clock_was clock_is : C) (disk_was disk_is : D) where
  pub record Whole (e : Ending) (samples : ℕ) : Type 0 where
    pub beside : List SampleTaken
    pub middle : List Token
    pub taken : AreTaken server first beside middle
    pub loaded : AreLoaded middle waiting
    pub behind : List SampleTaken
    pub last : List Token
    pub taken_behind : AreTaken server gathered behind last
    pub loaded_behind : AreLoaded last final
    pub lacking : List Moment
    pub few : length behind + length lacking ≤ 1
    pub before : List Token
    pub after : List Token
    pub place : ((before ≡ middle) × (after ≡ waiting)) ⊎ ((before ≡ last) × (after ≡ final))
    pub last_behind : e ≡ ends.Done → length behind ≡ 1
    pub so_ends : EndsSamples e
    pub took : Took samples (length (beside ++ behind) + length lacking) e
    -- where all moments were taken the last one was taken behind the writers
    pub at_last : length (beside ++ behind) + length lacking ≡ samples → (length beside + 1 ≡ samples) × (waiting ≡ middle)
    pub yields : Yields c d groups server was.plans clock_was clock_is disk_was disk_is was.session is.session before after e (beside ++ behind) lacking

module _ {C D : Type 0} (c : ClockGhosts C) (d : DiskGhosts D) (groups : List Group) (server : List Mounted) (first waiting gathered : List Token) (was is : Sampler) (clock_was clock_is : C) (disk_was disk_is : D) where
  -- no sample stands behind the writers
  whole_of : (e : Ending) (most left highest samples : ℕ) → most + left ≡ samples → highest < samples → Phase c d groups server was is first waiting clock_was clock_is disk_was disk_is e most left highest → e ≢ ends.Done → Whole c d groups server first waiting gathered gathered was is clock_was clock_is disk_was disk_is e samples
  whole_of e most left highest samples sum early p undone = record {
    beside = p.samples;
    middle = p.middle;
    taken = p.taken;
    loaded = p.loaded;
    behind = [];
    last = gathered;
    taken_behind = refl;
    loaded_behind = not_loaded gathered;
    lacking = p.lacking;
    few = omega (arith, p.yields.one);
    before = p.middle;
    after = waiting;
    place = inl (refl, refl);
    last_behind = λ done. absurd (undone done);
    so_ends = p.so_ends;
    took = subst (λ (n : ℕ). Took samples n e) (omega (arith, length-append p.samples [])) (p.took 0 samples (omega (arith, sum)));
    at_last = λ all. absurd (omega (arith, all, early, p.few, length-append p.samples []));
    yields = subst (λ (xs : List SampleTaken). Yields c d groups server was.plans clock_was clock_is disk_was disk_is was.session is.session p.middle waiting e xs p.lacking) (sym (append-nil p.samples)) p.yields;
  }

  -- sampling stopped beside them
  pub stopped_whole : (e : Ending) (taken : List SampleTaken) (left samples : ℕ) → length taken + left ≡ samples → length taken + 1 < samples → StopsSampling c d groups server was is first waiting clock_was clock_is disk_was disk_is taken left e
      → Whole c d groups server first waiting gathered gathered was is clock_was clock_is disk_was disk_is e samples
  stopped_whole e taken left samples sum early stops =
      whole_of e (length taken) left (length taken + 1) samples sum early (stops_phase c d groups server was is first waiting clock_was clock_is disk_was disk_is e taken left (omega (arith, sum, early)) stops)
      (stops_undone c d groups server was is first waiting clock_was clock_is disk_was disk_is e taken left stops)

  -- memory was refused to the writers
  pub wanted_whole : (taken : List SampleTaken) (samples : ℕ) → length taken + 1 ≡ samples → GoesOn c d groups server was is first waiting clock_was clock_is disk_was disk_is taken
      → Whole c d groups server first waiting gathered gathered was is clock_was clock_is disk_was disk_is ends.NoMemory samples
  wanted_whole taken samples sum goes =
      whole_of ends.NoMemory (length taken) 1 (length taken) samples sum (omega (arith, sum)) (goes_phase c d groups server was is first waiting clock_was clock_is disk_was disk_is ends.NoMemory taken (length taken) 1 refl tt tt (λ before all many. omega (arith, many)) goes) (λ done. cc)

module _ {C D : Type 0} (c : ClockGhosts C) (d : DiskGhosts D) (groups : List Group) (server : List Mounted) (first waiting gathered final : List Token) (was mid is : Sampler) (clock_was clock_mid clock_is : C) (disk_was disk_mid disk_is : D)
    (taken : List SampleTaken) (samples : ℕ) (sum : length taken + 1 ≡ samples) (goes : GoesOn c d groups server was mid first waiting clock_was clock_mid disk_was disk_mid taken) where
  abbrev Behind : Ending → Type 0
  Behind e = Whole c d groups server first waiting gathered final was is clock_was clock_is disk_was disk_is e samples

  joined_whole : (e : Ending) (behind : List SampleTaken) (last : List Token) (lacking : List Moment) → AreTaken server gathered behind last → AreLoaded last final → length behind + length lacking ≤ 1 → (e ≡ ends.Done → length behind ≡ 1) → EndsSamples e → Took samples (length taken + (length behind + length lacking)) e
      → Yields c d groups server mid.plans clock_mid clock_is disk_mid disk_is mid.session is.session last final e behind lacking → Behind e
  joined_whole e behind last lacking taken_behind loaded few last_behind own took yields = record {
    beside = taken;
    middle = waiting;
    taken = goes.taken;
    loaded = not_loaded waiting;
    behind = behind;
    last = last;
    taken_behind = taken_behind;
    loaded_behind = loaded;
    lacking = lacking;
    few = few;
    before = last;
    after = final;
    place = inr (refl, refl);
    last_behind = last_behind;
    so_ends = own;
    took = subst (λ (n : ℕ). Took samples n e) (omega (arith, length-append taken behind)) took;
    at_last = λ all. (sum, refl);
    yields = yields_joined c d groups server was mid is first waiting clock_was clock_mid clock_is disk_was disk_mid disk_is taken goes last final e behind lacking yields;
  }

  -- and it stopped behind them
  pub stopped_behind : (e : Ending) → StopsSampling c d groups server mid is gathered final clock_mid clock_is disk_mid disk_is [] 1 e → Behind e
  stopped_behind e stops =
      let p : Phase c d groups server mid is gathered final clock_mid clock_is disk_mid disk_is e 0 1 1 = stops_phase c d groups server mid is gathered final clock_mid clock_is disk_mid disk_is e [] 1 (omega arith) stops in
      joined_whole e p.samples p.middle p.lacking p.taken p.loaded p.few (λ done. absurd (stops_undone c d groups server mid is gathered final clock_mid clock_is disk_mid disk_is e [] 1 stops done)) p.so_ends (p.took (length taken) samples (omega (arith, sum))) p.yields

  -- or the last one was taken
  pub done_behind : (s : SampleTaken) → GoesOn c d groups server mid is gathered final clock_mid clock_is disk_mid disk_is (s ∷ []) → Behind ends.Done
  done_behind s more =
      joined_whole ends.Done (s ∷ []) final [] more.taken (not_loaded final) (omega arith) (λ done. refl) tt (omega (arith, sum)) (goes_yields c d groups server mid is gathered final clock_mid clock_is disk_mid disk_is final final ends.Done (s ∷ []) tt more)
