-- A line of a pass is that of the run as a fold.
use Rattle.std.proofs.Common.{◌≡◌, ◌⊎◌, inl, inr, ℕ, true, false, List, [], ◌++◌, Option, None, Some, refl, sym, ap, ◌∙◌, subst}
use Rattle.arrayvec.specs.ArrayVec.{ArrayVec}
use Rattle.pcp_base.specs.Time.{Moment}
use Rattle.pcp_model.specs.Disk.{Files}
use Rattle.pcp_outside.specs.declared.disk.Disk.{Ghosts as DiskGhosts}
use Rattle.region_rule.specs.Seats.{Token}
use Rattle.fetch_engine.specs.declared.server.Mounted.{Mounted}
use Rattle.logging_session.specs.declared.place.Place.{Place}
use Rattle.logging_session.specs.declared.place.Place.TheVariants as places
use Rattle.logging_session.specs.Keeping.{Carried, HasFailed, HasFound, HasLogger, IsFailed, IsWorking}
use Rattle.run_script.specs.declared.script.Line.{Line}
use Rattle.run_script.specs.declared.script.Line.TheVariants as lines
use Rattle.run_script.specs.declared.script.Script.{Script}
use Rattle.run_passes.specs.Crews.{Follows}
use Rattle.run_passes.specs.Runs.{HasRun, WasCut}
use Rattle.script_runs.specs.declared.ending.Ending.{Ending}
use Rattle.script_runs.specs.declared.ending.Ending.TheVariants as ends
use Rattle.script_runs.specs.Regions.{ScriptRegion}
use Rattle.script_runs.specs.Steps.{GoesOn, PassGoes, Regions, RunState, pass_step}
use Rattle.run_archive.specs.declared.sampler.Sampler.{Sampler}
use Rattle.run_archive.specs.Endings.{MayEnd}
use Rattle.run_archive.specs.Kept.{KeepsRun}
use Rattle.record_run.specs.declared.run.Run.{Run}
use Rattle.record_run.specs.States.{Follow, GoesTo, HaltsAt, Stands}
use Rattle.record_run.proofs.Leading.{kept_leads}

-- a line that is neither a tick nor a flush
abbrev pub IsOfPass : Line → Type 0
IsOfPass (lines.Tick now) = ⊥
IsOfPass lines.Flush = ⊥
IsOfPass line = Unit {0}

pub of_pass : (line : Line) → ((now : Moment) → line ≡ lines.Tick now → ⊥) → (line ≡ lines.Flush → ⊥) → IsOfPass line
of_pass (lines.Attach region pass) tick flush = tt
of_pass (lines.Detach region pass) tick flush = tt
of_pass (lines.Swap region pass item instance value) tick flush = tt
of_pass (lines.Add region pass item instance number) tick flush = tt
of_pass (lines.Begin region pass image moment) tick flush = tt
of_pass (lines.Step region pass) tick flush = tt
of_pass (lines.Finish region pass) tick flush = tt
of_pass (lines.Load region pass) tick flush = tt
of_pass (lines.Word region pass index) tick flush = tt
of_pass (lines.Done region pass) tick flush = tt
of_pass (lines.Tick now) tick flush = tick now refl
of_pass lines.Flush tick flush = flush refl

pass_goes_on : (script : Script) (s t : RunState) (line : Line) → IsOfPass line → PassGoes script s line t → GoesOn script s line t
pass_goes_on script s t (lines.Attach region pass) of g = g
pass_goes_on script s t (lines.Detach region pass) of g = g
pass_goes_on script s t (lines.Swap region pass item instance value) of g = g
pass_goes_on script s t (lines.Add region pass item instance number) of g = g
pass_goes_on script s t (lines.Begin region pass image moment) of g = g
pass_goes_on script s t (lines.Step region pass) of g = g
pass_goes_on script s t (lines.Finish region pass) of g = g
pass_goes_on script s t (lines.Load region pass) of g = g
pass_goes_on script s t (lines.Word region pass index) of g = g
pass_goes_on script s t (lines.Done region pass) of g = g
pass_goes_on script s t (lines.Tick now) of g = absurd of
pass_goes_on script s t lines.Flush of g = absurd of

found_of : (S : List ScriptRegion → Type 0) (regions : List ScriptRegion) (old new : List ℕ) (o : Option Regions) → HasRun S regions old new o true → (found : Regions) × (o ≡ Some found) × S found.0 × (new ≡ old ++ found.1)
found_of S regions old new None run = absurd run
found_of S regions old new (Some found) run = (found, refl, run.0, run.1)

none_of : (S : List ScriptRegion → Type 0) (regions : List ScriptRegion) (old new : List ℕ) (o : Option Regions) → HasRun S regions old new o false → (o ≡ None) × S regions × (new ≡ old)
none_of S regions old new None run = (refl, run.0, run.1)
none_of S regions old new (Some found) run = absurd run

module _ {D : Type 0} (d : DiskGhosts D) (script : Script) (server : List Mounted) (s : RunState) (was is : Run) (before after : List Token) (disk : D) (line : Line) (stands : Stands script server was before s) (same : is.sampler ≡ was.sampler) where
  abbrev Now : List ScriptRegion → Type 0
  Now regions = Follows script server is.running after regions

  same_session : is.sampler.session ≡ was.sampler.session
  same_session = ap (λ (sampler : Sampler). sampler.session) same

  same_logged : is.sampler.session.logged ≡ was.sampler.session.logged
  same_logged = ap (λ (c : Carried). c.logged) same_session

  kept_so : (left : Files) (start : D) → KeepsRun d left s.events start was.sampler.session disk → KeepsRun d left s.events start is.sampler.session disk
  kept_so left start k = subst (λ (c : Carried). KeepsRun d left s.events start c disk) (sym same_session) k

  pub pass_goes : is.marks ≡ was.marks → IsOfPass line → HasRun Now s.regions was.out.items is.out.items (pass_step script s.regions line) true → GoesTo d script server s was is after disk disk line
  pass_goes same_marks of run =
      let f : (found : Regions) × (pass_step script s.regions line ≡ Some found) × Now found.0 × (is.out.items ≡ was.out.items ++ found.1) = found_of Now s.regions was.out.items is.out.items (pass_step script s.regions line) run in
      let next : RunState = record s { regions = f.0.0; output = s.output ++ f.0.1 } in
      record {
        next = next;
        goes = pass_goes_on script s next line of (record { found = f.0; is = f.1; after = refl });
        stands = record {
          follow = record {
            follows = f.2;
            output = f.3 ∙ ap (λ (output : List ℕ). output ++ f.0.1) stands.follow.output;
            counted = same_logged ∙ stands.follow.counted;
          };
          plans = ap (λ (sampler : Sampler). sampler.plans) same ∙ stands.plans;
        };
        marks = inr (inl (refl, ap (λ (marks : ArrayVec ℕ). marks.items) same_marks));
        kept = λ tells left start k. kept_so left start k;
      }

  module _ (number : ℕ) where
    abbrev Halting : Ending → Type 0
    Halting e = HaltsAt d script server s was is after disk disk number line e

    followed : Now s.regions → is.out.items ≡ was.out.items → Follow script server is after s
    followed follows written = record { follows = follows; output = written ∙ stands.follow.output; counted = same_logged ∙ stands.follow.counted }

    fails : HasRun Now s.regions was.out.items is.out.items (pass_step script s.regions line) false → Halting (ends.Condition number)
    fails run =
        let f : (pass_step script s.regions line ≡ None) × Now s.regions × (is.out.items ≡ was.out.items) = none_of Now s.regions was.out.items is.out.items (pass_step script s.regions line) run in
        record {
          stands = followed f.1 f.2;
          why = (refl, f.0);
          told = λ tells left start k. record { events = s.events; more = []; did = ((refl, refl), kept_leads d left s.events start was.sampler.session disk k); stands = kept_so left start k };
        }

    wants : WasCut Now s.regions was.out.items is.out.items → Halting ends.NoMemory
    wants cut = record {
      stands = followed cut.1 cut.0;
      why = tt;
      told = λ tells left start k. record { events = s.events; more = []; did = (inl (refl, refl), kept_leads d left s.events start was.sampler.session disk k); stands = kept_so left start k };
    }

    pub pass_halts : (e : Ending) → ((e ≡ ends.Condition number) × HasRun Now s.regions was.out.items is.out.items (pass_step script s.regions line) false) ⊎ ((e ≡ ends.NoMemory) × WasCut Now s.regions was.out.items is.out.items) → Halting e
    pass_halts e (inl (failed, run)) = subst Halting (sym failed) (fails run)
    pass_halts e (inr (refused, cut)) = subst Halting (sym refused) (wants cut)

-- what a line of a pass ends by
pub pass_ends : (before after number : ℕ) (e : Ending) → (e ≡ ends.Condition number) ⊎ (e ≡ ends.NoMemory) → MayEnd before after e
pass_ends before after number e (inl failed) = subst (λ (x : Ending). MayEnd before after x) (sym failed) tt
pass_ends before after number e (inr refused) = subst (λ (x : Ending). MayEnd before after x) (sym refused) tt

-- a session that works has not failed
place_unfailed : (place : Place) → HasFound place ⊎ HasLogger place → HasFailed place → ⊥
place_unfailed (places.Found archive) working failed = failed
place_unfailed (places.Open b) working failed = failed
place_unfailed places.Lost working failed = failed
place_unfailed (places.Failed lost) (inl found) failed = found
place_unfailed (places.Failed lost) (inr open_) failed = open_

pub working_unfailed : (s : Carried) → IsWorking s → IsFailed s → ⊥
working_unfailed s working failed = place_unfailed s.place working failed
