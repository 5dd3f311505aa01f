-- A flush between lines is that of the run as a fold.
use Rattle.std.proofs.Common.{◌≡◌, ◌⊎◌, inl, inr, ℕ, List, [], ◌∷◌, length, refl, sym, ap, ◌∙◌, subst}
use Rattle.pcp_base.specs.declared.result.Item.{Item}
use Rattle.pcp_outside.specs.declared.disk.Disk.{Ghosts as DiskGhosts}
use Rattle.region_rule.specs.Seats.{Token}
use Rattle.fetch_engine.specs.declared.server.Mounted.{Mounted}
use Rattle.logging_session.specs.Course.{WentBy}
use Rattle.logging_session.specs.Events.{Event, flushed_behind, items_by}
use Rattle.logging_session.specs.Keeping.{Carried}
use Rattle.run_script.specs.declared.script.Line.TheVariants.{Flush}
use Rattle.run_script.specs.declared.script.Script.{Script}
use Rattle.run_passes.specs.declared.running.Running.{Running}
use Rattle.run_passes.specs.Crews.{Follows}
use Rattle.script_runs.specs.declared.ending.Ending.{Ending}
use Rattle.script_runs.specs.declared.ending.Ending.TheVariants as ends
use Rattle.script_runs.specs.Archives.{run_label}
use Rattle.script_runs.specs.Regions.{ScriptRegion}
use Rattle.script_runs.specs.Steps.{RunState, flushing}
use Rattle.script_runs.proofs.Going.{flushing_items}
use Rattle.run_archive.specs.Endings.{flushed_line}
use Rattle.run_archive.specs.Kept.{KeepsRun, OverAny}
use Rattle.record_run.specs.declared.run.Run.{Run}
use Rattle.record_run.specs.States.{Follow, GoesTo, HaltsAt, Stands}
use Rattle.record_run.proofs.Leading.{kept_leads}

flushing_regions : (items : List Item) (s : RunState) → (flushing items s).regions ≡ s.regions
flushing_regions [] s = refl
flushing_regions (item ∷ items) s = refl

flushing_plans : (items : List Item) (s : RunState) → (flushing items s).plans ≡ s.plans
flushing_plans [] s = refl
flushing_plans (item ∷ items) s = refl

flushing_events : (items : List Item) (s : RunState) → (flushing items s).events ≡ flushed_behind items s.events
flushing_events [] s = refl
flushing_events (item ∷ items) s = refl

flushing_output : (items : List Item) (s : RunState) → (flushing items s).output ≡ flushed_line s.output (length items)
flushing_output [] s = refl
flushing_output (item ∷ items) s = refl

module _ {D : Type 0} (d : DiskGhosts D) (script : Script) (server : List Mounted) (s : RunState) (was is : Run) (seat : List Token) (old new : D) (same_running : is.running ≡ was.running) (stands : Stands script server was seat s)
    (same_logged : is.sampler.session.logged ≡ was.sampler.session.logged) where
  followed : Follows script server is.running seat s.regions
  followed = subst (λ (r : Running). Follows script server r seat s.regions) (sym same_running) stands.follow.follows

  pub flush_goes : is.marks.items ≡ [] → is.sampler.plans ≡ was.sampler.plans → is.out.items ≡ flushed_line was.out.items was.sampler.session.logged
      → OverAny d was.sampler.session old (λ left events start. KeepsRun d left (flushed_behind (items_by events) events) start is.sampler.session new) → GoesTo d script server s was is seat old new Flush
  flush_goes unmarked same_plans written flushes =
      let items : List Item = items_by s.events in
      record {
        next = flushing items s;
        goes = refl;
        stands = record {
          follow = record {
            follows = subst (λ (regions : List ScriptRegion). Follows script server is.running seat regions) (sym (flushing_regions items s)) followed;
            output = written ∙ ap (λ (output : List ℕ). flushed_line output was.sampler.session.logged) stands.follow.output ∙ ap (λ (n : ℕ). flushed_line s.output n) stands.follow.counted ∙ sym (flushing_output items s);
            counted = same_logged ∙ stands.follow.counted ∙ ap (λ (xs : List Item). length xs) (sym (flushing_items items s));
          };
          plans = same_plans ∙ stands.plans ∙ sym (flushing_plans items s);
        };
        marks = inl unmarked;
        kept = λ tells left start k.
            subst (λ (events : List Event). KeepsRun d left events start is.sampler.session new) (sym (flushing_events items s)) (flushes tells left s.events start k);
      }

  -- where it ends the run nothing was written
  module _ (number : ℕ) (written : is.out.items ≡ was.out.items) where
    abbrev Halting : Ending → Type 0
    Halting e = HaltsAt d script server s was is seat old new number Flush e

    here : Follow script server is seat s
    here = record { follows = followed; output = written ∙ stands.follow.output; counted = same_logged ∙ stands.follow.counted }

    wants : is.sampler.session ≡ was.sampler.session → new ≡ old → Halting ends.NoMemory
    wants session disk = record {
      stands = here;
      why = tt;
      told = λ tells left start k. record {
        events = s.events;
        more = [];
        did = (inl (refl, refl), kept_leads d left s.events start was.sampler.session old k);
        stands = subst (λ (c : Carried). KeepsRun d left s.events start c new) (sym session) (subst (λ (disk_now : D). KeepsRun d left s.events start was.sampler.session disk_now) (sym disk) k);
      };
    }

    fails : is.sampler.session.limit ≡ was.sampler.session.limit → OverAny d was.sampler.session old (λ left events start. WentBy d run_label was.sampler.session.limit left events [] start new) → Halting ends.DiskFault
    fails same_limit went = record {
      stands = here;
      why = tt;
      told = λ tells left start k. record {
        events = s.events;
        more = [];
        did = (inl (refl, refl), kept_leads d left s.events start was.sampler.session old k);
        stands = subst (λ (limit : ℕ). WentBy d run_label limit left s.events [] start new) (sym same_limit) (went tells left s.events start k);
      };
    }

    pub flush_halts : is.sampler.session.limit ≡ was.sampler.session.limit → (e : Ending) → (e ≡ ends.DiskFault) ⊎ ((e ≡ ends.NoMemory) × (is.sampler.session ≡ was.sampler.session) × (new ≡ old))
        → (e ≡ ends.DiskFault → OverAny d was.sampler.session old (λ left events start. WentBy d run_label was.sampler.session.limit left events [] start new)) → Halting e
    flush_halts same_limit e (inl failing) went = subst Halting (sym failing) (fails same_limit (went failing))
    flush_halts same_limit e (inr (refused, session, disk)) went = subst Halting (sym refused) (wants session disk)
