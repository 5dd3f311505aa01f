-- Lines that are run one after another, up to the end of a run.
use Rattle.std.proofs.Common.{◌≡◌, ◌⊎◌, inl, inr, ℕ, zero, suc, ◌+◌, ◌≤◌, List, [], ◌∷◌, length, Some, refl, sym, ap, ◌∙◌, subst, arith}
use Rattle.std.specs.Prelude.{slice_get}
use Rattle.std.proofs.lemmas.Option.{none-some, same_Some}
use Rattle.pcp_base.specs.declared.result.Item.{Item}
use Rattle.pcp_model.specs.Disk.{Files}
use Rattle.pcp_outside.specs.declared.disk.Disk.{Ghosts as DiskGhosts}
use Rattle.region_rule.specs.Seats.{Token}
use Rattle.fetch_engine.specs.declared.server.Mounted.{Mounted}
use Rattle.arrayvec.specs.ArrayVec.{ArrayVec}
use Rattle.logging_session.specs.Course.{WentBy}
use Rattle.logging_session.specs.Events.{Event}
use Rattle.logging_session.specs.Written.{Report}
use Rattle.run_script.specs.declared.script.Line.{Line}
use Rattle.run_script.specs.declared.script.Script.{Script}
use Rattle.script_runs.specs.declared.ending.Ending.{Ending}
use Rattle.script_runs.specs.declared.ending.Ending.TheVariants as ends
use Rattle.script_runs.specs.Archives.{run_label}
use Rattle.script_runs.specs.Runs.{EndsLine, Halts, LineDoes, RanFirst, line_behind, run_start}
use Rattle.script_runs.specs.Steps.{RunState}
use Rattle.script_runs.proofs.Going.{goes_next, ran_none}
use Rattle.run_archive.specs.Kept.{HasDone, IsLeft, KeepsRun, OverAny}
use Rattle.record_run.specs.declared.run.Run.{Run}
use Rattle.record_run.specs.Replays.{EndsIdle}
use Rattle.run_passes.specs.declared.running.Running.{Running}
use Rattle.run_passes.specs.Crews.{Follows}
use Rattle.record_run.specs.States.{AreMarked, CameTo, DoesBehind, Follow, GoesTo, HaltsAt, Leads, Marks, Stands}
use Rattle.record_run.proofs.Leading.{kept_leads}
use Rattle.record_run.proofs.Marks.{marks_go}

-- ---- the line behind the last

pub behind_is : (steps : List (ℕ × Line)) (k : ℕ) (x : ℕ × Line) → length steps ≤ k + 1 → slice_get steps k ≡ Some x → line_behind steps ≡ x.0 + 1
behind_is [] k x last there = absurd (none-some x there)
behind_is (y ∷ []) zero x last there = ap (λ (z : ℕ × Line). z.0 + 1) (same_Some y x there)
behind_is (y ∷ []) (suc k) x last there = absurd (none-some x there)
behind_is (y ∷ z ∷ steps) zero x last there = absurd (omega (arith, last))
behind_is (y ∷ z ∷ steps) (suc k) x last there = behind_is (z ∷ steps) k x (omega (arith, last)) there

-- ---- the next line

module _ (script : Script) (count : ℕ) (s : RunState) (number : ℕ) (line : Line) (there : slice_get script.steps count ≡ Some (number, line)) where
  -- why it ends the run is why the run ends there
  next_halts : (e : Ending) → EndsLine script s number line e → Halts script count s e
  next_halts (ends.Condition at) why = inl (number, line, there, why)
  next_halts (ends.Limit what n) why = (number, line, there, why)
  next_halts (ends.NotLater last) why = (number, line, there, why)
  next_halts (ends.Changed pmid) why = (number, line, there, why)
  next_halts ends.NoMemory why = tt
  next_halts ends.DiskFault why = tt
  next_halts ends.Done why = absurd why
  next_halts (ends.NotArchive file at) why = absurd why
  next_halts (ends.Compressed file) why = absurd why
  next_halts (ends.ClockEnd samples) why = absurd why
  next_halts (ends.ClockFault samples) why = absurd why

  -- and what it did is what the run did
  next_does : (limit : ℕ) (left : Files) (e : Ending) (events : List Event) (more : List Item) → EndsLine script s number line e → LineDoes script limit left s line e events more → DoesBehind script limit left count s e events more
  next_does limit left (ends.Limit what n) events more why did = (number, line, there, did)
  next_does limit left (ends.NotLater last) events more why did = (number, line, there, did)
  next_does limit left (ends.Changed pmid) events more why did = (number, line, there, did)
  next_does limit left ends.NoMemory events more why did = inr (number, line, there, did)
  next_does limit left ends.DiskFault events more why (inl (is, none)) = (inl is, none)
  next_does limit left ends.DiskFault events more why (inr (x, is, none)) = (inr (number, line, there, (x, is)), none)
  next_does limit left (ends.Condition at) events more why did = did
  next_does limit left ends.Done events more why did = absurd why
  next_does limit left (ends.NotArchive file at) events more why did = absurd why
  next_does limit left (ends.Compressed file) events more why did = absurd why
  next_does limit left (ends.ClockEnd samples) events more why did = absurd why
  next_does limit left (ends.ClockFault samples) events more why did = absurd why

-- ---- line after line

module _ {D : Type 0} (d : DiskGhosts D) (script : Script) (server : List Mounted) (first : Run) (begun : D) where
  -- where the first lines, so many, led the run
  pub record Stood (run : Run) (seat : List Token) (disk : D) (count : ℕ) : Type 0 where
    pub s : RunState
    pub ran : RanFirst script count s
    pub stands : Stands script server run seat s
    pub marks : Marks script run count s
    pub told : d.tells → (left : Files) (start : D) → KeepsRun d left [] start first.sampler.session begun → KeepsRun d left s.events start run.sampler.session disk

  pub stood_none : (seat : List Token) → first.marks.items ≡ [] → Stands script server first seat (run_start script) → Stood first seat begun 0
  stood_none seat unmarked stands = record {
    s = run_start script;
    ran = ran_none script;
    stands = stands;
    marks = record { reports = []; are = subst (λ (marks : List ℕ). AreMarked script 0 (run_start script) marks []) (sym unmarked) refl };
    told = λ tells left start k. k;
  }

  module _ (run next : Run) (seat later : List Token) (old new : D) (count : ℕ) (step : ℕ × Line) (there : slice_get script.steps count ≡ Some step) (at : Stood run seat old count) where
    pub stood_more : GoesTo d script server at.s run next later old new step.1 → Stood next later new (count + 1)
    stood_more g = record {
      s = g.next;
      ran = goes_next script count step at.s g.next at.ran there g.goes;
      stands = g.stands;
      marks = let more : (reports : List Report) × AreMarked script (count + 1) g.next next.marks.items reports = marks_go script count step.0 step.1 there at.s g.next at.ran g.goes run.marks.items next.marks.items at.marks.reports at.marks.are g.marks in record { reports = more.0; are = more.1 };
      told = λ tells left start k. g.kept tells left start (at.told tells left start k);
    }

    pub stood_halts : next.marks ≡ run.marks → run.sampler.session.limit ≡ first.sampler.session.limit → (e : Ending) → HaltsAt d script server at.s run next later old new step.0 step.1 e → CameTo d script server first next later begun new e
    stood_halts same_marks same_limit e h = record {
      count = count;
      last = at.s;
      ran = at.ran;
      halts = next_halts script count at.s step.0 step.1 there e h.why;
      stands = h.stands;
      marks = record { reports = at.marks.reports; are = subst (λ (marks : ArrayVec ℕ). AreMarked script count at.s marks.items at.marks.reports) (sym same_marks) at.marks.are };
      told = λ tells left start k.
          let done : HasDone d left start next.sampler.session new e (λ events more. LineDoes script run.sampler.session.limit left at.s step.1 e events more × Leads run.sampler.session.limit left events) = h.told tells left start (at.told tells left start k) in
          record {
            events = done.events;
            more = done.more;
            did = (
              next_does script count at.s step.0 step.1 there first.sampler.session.limit left e done.events done.more h.why
                  (subst (λ (limit : ℕ). LineDoes script limit left at.s step.1 e done.events done.more) same_limit done.did.0),
              subst (λ (limit : ℕ). Leads limit left done.events) same_limit done.did.1,
            );
            stands = done.stands;
          };
    }

  -- what was held was to be written
  module _ (run next : Run) (seat : List Token) (old new : D) (count : ℕ) (at : Stood run seat old count) (same_running : next.running ≡ run.running) (same_out : next.out.items ≡ run.out.items)
      (same_logged : next.sampler.session.logged ≡ run.sampler.session.logged) where
    follows_on : Follow script server next seat at.s
    follows_on = record {
      follows = subst (λ (r : Running). Follows script server r seat at.s.regions) (sym same_running) at.stands.follow.follows;
      output = same_out ∙ at.stands.follow.output;
      counted = same_logged ∙ at.stands.follow.counted;
    }

    marks_or_none : (next.marks ≡ run.marks) ⊎ (next.marks.items ≡ []) → Marks script next count at.s
    marks_or_none (inl same) = record { reports = at.marks.reports; are = subst (λ (marks : ArrayVec ℕ). AreMarked script count at.s marks.items at.marks.reports) (sym same) at.marks.are }
    marks_or_none (inr none) = record { reports = []; are = subst (λ (marks : List ℕ). AreMarked script count at.s marks []) (sym none) refl }

    pub stood_on : next.sampler.plans ≡ run.sampler.plans → (next.marks ≡ run.marks) ⊎ (next.marks.items ≡ []) → OverAny d run.sampler.session old (λ left events start. KeepsRun d left events start next.sampler.session new) → Stood next seat new count
    stood_on same_plans marks keeps = record {
      s = at.s;
      ran = at.ran;
      stands = record { follow = follows_on; plans = same_plans ∙ at.stands.plans };
      marks = marks_or_none marks;
      told = λ tells left start k. keeps tells left at.s.events start (at.told tells left start k);
    }

    -- the disk failed in it, behind the line
    pub stood_fails : next.marks ≡ run.marks → run.sampler.session.limit ≡ first.sampler.session.limit → next.sampler.session.limit ≡ run.sampler.session.limit
        → OverAny d run.sampler.session old (λ left events start. WentBy d run_label run.sampler.session.limit left events [] start new) → (e : Ending) → e ≡ ends.DiskFault → CameTo d script server first next seat begun new e
    stood_fails same_marks first_limit same_limit went e failing = subst (λ (x : Ending). CameTo d script server first next seat begun new x) (sym failing) (record {
      count = count;
      last = at.s;
      ran = at.ran;
      halts = tt;
      stands = follows_on;
      marks = marks_or_none (inl same_marks);
      told = λ tells left start k.
          let keeps : KeepsRun d left at.s.events start run.sampler.session old = at.told tells left start k in
          record {
            events = at.s.events;
            more = [];
            did = ((inl refl, refl), subst (λ (limit : ℕ). Leads limit left at.s.events) first_limit (kept_leads d left at.s.events start run.sampler.session old keeps));
            stands = subst (λ (limit : ℕ). WentBy d run_label limit left at.s.events [] start new) (sym same_limit) (went tells left at.s.events start keeps);
          };
    })

  -- all lines were run
  module _ (run : Run) (seat : List Token) (disk : D) (count : ℕ) (all : length script.steps ≤ count) (at : Stood run seat disk count) (same_limit : run.sampler.session.limit ≡ first.sampler.session.limit) where
    abbrev Came : Ending → Type 0
    Came e = CameTo d script server first run seat begun disk e

    so_many : count ≡ length script.steps
    so_many = omega (arith, all, at.ran.within)

    came : (e : Ending) → Halts script count at.s e → ((left : Files) → DoesBehind script first.sampler.session.limit left count at.s e at.s.events [])
        → ((left : Files) (start : D) → KeepsRun d left at.s.events start run.sampler.session disk → IsLeft d left start run.sampler.session disk at.s.events [] e) → Came e
    came e halts did stands = record {
      count = count;
      last = at.s;
      ran = at.ran;
      halts = halts;
      stands = at.stands.follow;
      marks = at.marks;
      told = λ tells left start k.
          let keeps : KeepsRun d left at.s.events start run.sampler.session disk = at.told tells left start k in
          record {
            events = at.s.events;
            more = [];
            did = (did left, subst (λ (limit : ℕ). Leads limit left at.s.events) same_limit (kept_leads d left at.s.events start run.sampler.session disk keeps));
            stands = stands left start keeps;
          };
    }

    pub stood_ends : (e : Ending) → EndsIdle script at.s.regions e → Came e
    stood_ends e (inl (idle, done)) =
        subst Came (sym done) (came ends.Done (record { all = so_many; idle_is = idle }) (λ left. (refl, refl)) (λ left start k. k))
    stood_ends e (inr (inl (busy, failed))) =
        subst Came (sym failed) (came (ends.Condition (line_behind script.steps)) (inr (record { all = so_many; idle_is = busy }, refl)) (λ left. (refl, refl)) (λ left start k. k))
    stood_ends e (inr (inr refused)) = subst Came (sym refused) (came ends.NoMemory tt (λ left. inl (refl, refl)) (λ left start k. k))
