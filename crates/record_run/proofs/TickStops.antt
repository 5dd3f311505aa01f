-- A tick that ends a run.
use Rattle.std.proofs.Common.{◌≡◌, ⊎_elim, inl, inr, ℕ, ◌<◌, ◌≤◌, List, [], length, refl, sym, ap, ◌∙◌, subst}
use Rattle.pcp_base.specs.Time.{Moment}
use Rattle.pcp_base.specs.declared.result.Item.{Item}
use Rattle.pcp_model.specs.Disk.{Files}
use Rattle.pcp_outside.specs.declared.disk.Disk.{Ghosts as DiskGhosts}
use Rattle.region_rule.specs.Seats.{Token}
use Rattle.fetch_answers.specs.declared.fetch.Fetched.{Fetched}
use Rattle.fetch_answers.specs.Readings.{RegionReading}
use Rattle.fetch_engine.specs.Visits.{AreLoaded, AreRead}
use Rattle.fetch_engine.specs.declared.server.Mounted.{Mounted}
use Rattle.logging_session.specs.Events.{Event, opening}
use Rattle.logging_session.specs.Keeping.{Carried}
use Rattle.run_script.specs.declared.script.Line.TheVariants.{Tick}
use Rattle.run_script.specs.declared.script.Script.{Script}
use Rattle.run_passes.specs.declared.running.Running.{Running}
use Rattle.run_passes.specs.Crews.{Alone, Follows, IsManned}
use Rattle.run_passes.proofs.ReadingRuns.{readings_are_states}
use Rattle.script_runs.specs.declared.ending.Ending.{Ending}
use Rattle.script_runs.specs.declared.ending.Ending.TheVariants as ends
use Rattle.script_runs.specs.declared.ending.LimitKind.TheVariants as kinds
use Rattle.script_runs.specs.Runs.{EndsLine, LineDoes, Shows, shown}
use Rattle.script_runs.specs.Steps.{RunState, fetched_at, fetched_from, pmids_at}
use Rattle.run_archive.specs.Endings.{EndsUnlogged, MayEnd}
use Rattle.run_archive.specs.Kept.{HasDone, KeepsRun, LeavesUnlogged}
use Rattle.run_archive.specs.Sampling.{AsksInVain, MayRefuse, ShowsInVain, StopsAt}
use Rattle.run_archive.specs.Shown.{pmids_by}
use Rattle.record_run.specs.declared.run.Run.{Run}
use Rattle.record_run.specs.States.{Follow, HaltsAt, Leads, Stands}
use Rattle.record_run.proofs.Leading.{kept_leads}
use Rattle.record_run.proofs.SampleReads.{Reads, sample_reads}
use Rattle.record_run.proofs.TickGoes.{pmids_same}

-- it ends the run as lines tell
pub may_end : (before after : ℕ) (e : Ending) → MayRefuse before after e → MayEnd before after e
may_end before after ends.DiskFault may = may
may_end before after ends.Done may = absurd may
may_end before after (ends.Condition line) may = absurd may
may_end before after (ends.NotArchive file at) may = absurd may
may_end before after (ends.Compressed file) may = absurd may
may_end before after (ends.Limit what number) may = tt
may_end before after (ends.ClockEnd samples) may = absurd may
may_end before after (ends.ClockFault samples) may = absurd may
may_end before after ends.NoMemory may = tt
may_end before after (ends.NotLater last) may = tt
may_end before after (ends.Changed pmid) may = tt

-- what it shows is not logged
module _ {D : Type 0} (d : DiskGhosts D) (script : Script) (s : RunState) (now : Moment) (x : Shows script s (Tick now)) where
  shows_why : (number : ℕ) (e : Ending) → EndsUnlogged e → EndsLine script s number (Tick now) e
  shows_why number (ends.Limit kinds.Sets count) u = absurd u
  shows_why number (ends.Limit kinds.Record count) u = x
  shows_why number (ends.Limit kinds.Meta count) u = x
  shows_why number (ends.Limit kinds.Index count) u = x
  shows_why number (ends.Limit kinds.Volume count) u = x
  shows_why number (ends.NotLater last) u = x
  shows_why number (ends.Changed pmid) u = x
  shows_why number ends.NoMemory u = tt
  shows_why number ends.DiskFault u = tt
  shows_why number ends.Done u = absurd u
  shows_why number (ends.Condition line) u = absurd u
  shows_why number (ends.NotArchive file at) u = absurd u
  shows_why number (ends.Compressed file) u = absurd u
  shows_why number (ends.ClockEnd samples) u = absurd u
  shows_why number (ends.ClockFault samples) u = absurd u

  module _ (left : Files) (start : D) (session : Carried) (disk : D) where
    abbrev Did : Ending → List Event → List Item → Type 0
    Did e events more = LineDoes script session.limit left s (Tick now) e events more × Leads session.limit left events

    abbrev Done : Ending → Type 0
    Done e = HasDone d left start session disk e (Did e)

    abbrev so : (events : List Event) → KeepsRun d left events start session disk → Leads session.limit left events
    so events k = kept_leads d left events start session disk k

    shows_does : (e : Ending) → EndsUnlogged e → Leads session.limit left s.events → LeavesUnlogged d left s.events start (shown x) session disk e → Done e
    shows_does (ends.Limit kinds.Sets count) u before leaves = absurd u
    shows_does (ends.Limit kinds.Record count) u before leaves = record { events = opening x.now s.events; more = []; did = ((x, leaves.away, refl, refl), so (opening x.now s.events) leaves.kept); stands = leaves.kept }
    shows_does (ends.Limit kinds.Meta count) u before leaves = record { events = opening x.now s.events; more = []; did = ((x, leaves.away, refl, refl), so (opening x.now s.events) leaves.kept); stands = leaves.kept }
    shows_does (ends.Limit kinds.Index count) u before leaves = record { events = opening x.now s.events; more = []; did = ((x, leaves.away, refl, refl), so (opening x.now s.events) leaves.kept); stands = leaves.kept }
    shows_does (ends.Limit kinds.Volume count) u before leaves = record { events = opening x.now s.events; more = []; did = ((x, leaves.away, refl, refl), so (opening x.now s.events) leaves.kept); stands = leaves.kept }
    shows_does (ends.NotLater last) u before leaves = record { events = opening x.now s.events; more = []; did = ((x, leaves.away, refl, refl), so (opening x.now s.events) leaves.kept); stands = leaves.kept }
    shows_does (ends.Changed pmid) u before leaves = record { events = opening x.now s.events; more = []; did = ((x, leaves.away, refl, refl), so (opening x.now s.events) leaves.kept); stands = leaves.kept }
    shows_does ends.NoMemory u before (inl kept) = record { events = s.events; more = []; did = (inl (refl, refl), before); stands = kept }
    shows_does ends.NoMemory u before (inr kept) = record { events = opening x.now s.events; more = []; did = (inr (x, refl, refl), so (opening x.now s.events) kept); stands = kept }
    shows_does ends.DiskFault u before went = record { events = s.events; more = []; did = (inl (refl, refl), before); stands = went }
    shows_does ends.Done u before leaves = absurd u
    shows_does (ends.Condition line) u before leaves = absurd u
    shows_does (ends.NotArchive file at) u before leaves = absurd u
    shows_does (ends.Compressed file) u before leaves = absurd u
    shows_does (ends.ClockEnd samples) u before leaves = absurd u
    shows_does (ends.ClockFault samples) u before leaves = absurd u

module _ {D : Type 0} (d : DiskGhosts D) (script : Script) (server : List Mounted) (s : RunState) (was is : Run) (before after : List Token) (old new : D) (now : Moment) (number : ℕ)
    (manned : IsManned server was.running before) (same_running : is.running ≡ was.running) (alone : Alone was.running after) (stands : Stands script server was before s) (written : is.out.items ≡ was.out.items) where
  abbrev Halting : Ending → Type 0
  Halting e = HaltsAt d script server s was is after old new number (Tick now) e

  followed : Follows script server was.running after s.regions → is.sampler.session.logged ≡ was.sampler.session.logged → Follow script server is after s
  followed follows counted = record {
    follows = subst (λ (r : Running). Follows script server r after s.regions) (sym same_running) follows;
    output = written ∙ stands.follow.output;
    counted = counted ∙ stands.follow.counted;
  }

  -- nothing was done in it
  module _ (loaded : AreLoaded before after) (session : is.sampler.session ≡ was.sampler.session) (disk : new ≡ old) where
    kept_so : (left : Files) (start : D) → KeepsRun d left s.events start was.sampler.session old → KeepsRun d left s.events start is.sampler.session new
    kept_so left start k = subst (λ (c : Carried). KeepsRun d left s.events start c new) (sym session) (subst (λ (disk_now : D). KeepsRun d left s.events start was.sampler.session disk_now) (sym disk) k)

    here : Follow script server is after s
    here = followed (readings_are_states script server was.running before after s.regions manned loaded alone stands.follow.follows).0 (ap (λ (c : Carried). c.logged) session)

    pub tick_wants : Halting ends.NoMemory
    tick_wants = record { stands = here; why = tt; told = λ tells left start k. record { events = s.events; more = []; did = (inl (refl, refl), kept_leads d left s.events start was.sampler.session old k); stands = kept_so left start k } }

    asks_too_many : (names : List RegionReading) → AreRead server before names after → 1024 < length (pmids_by script.config.groups was.sampler.plans names now)
        → Halting (ends.Limit kinds.Sets (length (pmids_by script.config.groups was.sampler.plans names now)))
    asks_too_many names read many =
        let there = readings_are_states script server was.running before after s.regions manned loaded alone stands.follow.follows in
        let same : pmids_by script.config.groups was.sampler.plans names now ≡ pmids_at script s now = pmids_same script s now was.sampler.plans names stands.plans (there.1 names read).names in
        record {
          stands = here;
          why = record { now = now; is = refl; many = subst (λ (ps : List ℕ). 1024 < length ps) same many; are = ap (λ (ps : List ℕ). length ps) same };
          told = λ tells left start k. record { events = s.events; more = []; did = ((refl, refl), kept_leads d left s.events start was.sampler.session old k); stands = kept_so left start k };
        }

  asks_in_vain : (e : Ending) → AsksInVain d script.config.groups server was.sampler is.sampler before after old new now e → Halting e
  asks_in_vain e a =
      ⊎_elim (λ (is_memory : e ≡ ends.NoMemory). subst Halting (sym is_memory) (tick_wants a.loaded a.session a.disk))
      (λ (many : AreRead server before a.names after × (1024 < length (pmids_by script.config.groups was.sampler.plans a.names now)) × (e ≡ ends.Limit kinds.Sets (length (pmids_by script.config.groups was.sampler.plans a.names now)))).
      subst Halting (sym many.2) (asks_too_many a.loaded a.session a.disk a.names many.0 many.1))
      a.why

  module _ (same_limit : is.sampler.session.limit ≡ was.sampler.session.limit) (e : Ending) (v : ShowsInVain d script.config.groups server was.sampler is.sampler before after old new now e) where
    abbrev pmids : Moment → List ℕ
    pmids moment = pmids_by script.config.groups was.sampler.plans v.sample.names moment

    reads : Reads script server was.running after s.regions v.sample.names v.sample.values
    reads = sample_reads script server was.running before after s.regions v.sample v.before v.after v.taken manned alone stands.follow.follows

    same : pmids now ≡ pmids_at script s now
    same = pmids_same script s now was.sampler.plans v.sample.names stands.plans reads.names_read.names

    abbrev x : Shows script s (Tick now)
    x = record {
      now = now;
      is = refl;
      some = subst (λ (ps : List ℕ). 0 < length ps) same (subst (λ (moment : Moment). 0 < length (pmids moment)) v.stamp v.some);
      few = subst (λ (ps : List ℕ). length ps ≤ 1024) same (subst (λ (moment : Moment). length (pmids moment) ≤ 1024) v.stamp v.few);
    }

    shows_so : fetched_from v.sample.values (pmids v.sample.stamp) v.sample.stamp ≡ fetched_at s (pmids_at script s now) now
    shows_so =
        ap (λ (moment : Moment). fetched_from v.sample.values (pmids moment) moment) v.stamp
        ∙ reads.values_read.fetched (pmids now) now
        ∙ ap (λ (ps : List ℕ). fetched_at s ps now) same

    shows_in_vain : Halting e
    shows_in_vain = record {
      stands = followed reads.follows v.counted;
      why = shows_why d script s now x number e v.why;
      told = λ tells left start k.
          subst (λ (limit : ℕ). HasDone d left start is.sampler.session new e (λ events more. LineDoes script limit left s (Tick now) e events more × Leads limit left events)) same_limit
          (shows_does d script s now x left start is.sampler.session new e v.why (subst (λ (limit : ℕ). Leads limit left s.events) (sym same_limit) (kept_leads d left s.events start was.sampler.session old k))
          (subst (λ (f : Fetched). LeavesUnlogged d left s.events start f is.sampler.session new e) shows_so (v.logs tells left s.events start k)));
    }

  pub tick_halts : is.sampler.session.limit ≡ was.sampler.session.limit → (e : Ending) → StopsAt d script.config.groups server was.sampler is.sampler before after old new now e → Halting e
  tick_halts same_limit e (inl a) = asks_in_vain e a
  tick_halts same_limit e (inr v) = shows_in_vain same_limit e v
