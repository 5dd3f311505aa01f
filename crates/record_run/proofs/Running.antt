-- The writers of a recording and its samples, by how both end.
use Rattle.std.proofs.Common.{◌≢◌, inl, inr, ℕ, List, [], ◌∷◌, length, None, refl, sym, ◌∙◌, subst, arith}
use Rattle.std.specs.Global.{Vec}
use Rattle.pcp_base.specs.declared.result.Item.{Item}
use Rattle.pcp_model.specs.Disk.{Files}
use Rattle.pcp_outside.specs.declared.clocks.Clock.{Ghosts as ClockGhosts}
use Rattle.pcp_outside.specs.declared.disk.Disk.{Ghosts as DiskGhosts}
use Rattle.region_rule.specs.Seats.{Token}
use Rattle.fetch_engine.specs.declared.server.Mounted.{Mounted}
use Rattle.fetch_engine.specs.Servers.{IsSeated, Seated}
use Rattle.fetch_engine.specs.Visits.{AreLoaded}
use Rattle.logging_session.specs.Events.{Event}
use Rattle.logging_session.specs.Keeping.{Carried}
use Rattle.run_script.specs.Rules.{KeepsRules}
use Rattle.run_script.specs.declared.script.Script.{Script}
use Rattle.run_passes.specs.Openings.{AreMade}
use Rattle.script_runs.specs.declared.ending.Ending.{Ending}
use Rattle.script_runs.specs.declared.ending.Ending.TheVariants as ends
use Rattle.run_archive.specs.Endings.{EndsAs}
use Rattle.run_archive.specs.Kept.{HasDone, IsLeft, KeepsRun}
use Rattle.run_archive.proofs.Loading.{not_loaded}
use Rattle.run_passes.specs.Written.{HaveWritten}
use Rattle.record_run.specs.Beside.{AtJournals, Beside, EndsBy, IsFinishedUnlessWanting, IsLegal, LoggerLoads, IsSampled, SeesOn, StandsBehind, TellWriters, WritersRan}
use Rattle.record_run.specs.Gathered.{AreUsedUp, HaveGathered}
use Rattle.record_run.specs.Halting.{Halts, RefusedBy}
use Rattle.record_run.specs.Pictured.{AreImages}
use Rattle.record_run.specs.Stopping.{LoggingDid}
use Rattle.record_run.proofs.Journals.{all_last, journals, unwritten}
use Rattle.record_run.proofs.Settling.{Settled, finished_all, unfinished}
use Rattle.record_run.proofs.Stretches.{sees_same, stands_same}
use Rattle.record_run.proofs.Turning.{did_else, last_else, stops_else, took_most}
use Rattle.record_run.proofs.Undone.{want_undone}

-- a recording that want of memory ended is still told so behind its flush
ends_on : (ending last : Ending) → EndsBy ends.NoMemory ending → EndsAs ending last → EndsBy ends.NoMemory last
ends_on ending last by (inl same) = subst (λ (e : Ending). EndsBy ends.NoMemory e) (sym same) by
ends_on ending last by (inr (inl failing)) = inr failing
ends_on ending last by (inr (inr want)) = inl want.1

pub told_on : (script : Script) (server : List Mounted) (final : List Token) (left : List (Vec Token)) (ending last : Ending) → TellWriters script server final left ending → EndsAs ending last → TellWriters script server final left last
told_on script server final left ending last (inl ended) after = inl ended
told_on script server final left ending last (inr (none, by)) after = inr (none, ends_on ending last by after)

-- what was refused memory ends by it
pub refused_by : (e ending : Ending) → RefusedBy e ending → EndsBy ends.NoMemory ending
refused_by e ending (inl (is, same)) = inr (same ∙ is)
refused_by e ending (inr (other, is)) = inl is

-- the session is kept unless the disk failed
module _ {D : Type 0} (d : DiskGhosts D) (left : Files) (start : D) (s : Carried) (disk : D) (events : List Event) (more : List Item) where
  pub left_kept : (e : Ending) → e ≢ ends.DiskFault → IsLeft d left start s disk events more e → KeepsRun d left events start s disk
  left_kept ends.Done well kept = kept
  left_kept ends.DiskFault well kept = absurd (well refl)
  left_kept (ends.Condition line) well kept = kept
  left_kept (ends.NotArchive file at) well kept = kept
  left_kept (ends.Compressed file) well kept = kept
  left_kept (ends.Limit what number) well kept = kept
  left_kept (ends.ClockEnd samples) well kept = kept
  left_kept (ends.ClockFault samples) well kept = kept
  left_kept ends.NoMemory well kept = kept
  left_kept (ends.NotLater stamp) well kept = kept
  left_kept (ends.Changed pmid) well kept = kept

module _ {C D : Type 0} (c : ClockGhosts C) (d : DiskGhosts D) (clock_was clock_is : C) (was is : Carried) (old new : D) (script : Script) (samples : ℕ) (server : List Mounted) (first final : List Token) where
  abbrev SoSettled : Ending → Type 0
  SoSettled e = Settled c d clock_was clock_is was is old new script samples server first final e

  want_done : (e : Ending) (s : SoSettled e) → e ≢ ends.DiskFault → (left : Files) (start : D) → HasDone d left start is new e (LoggingDid s.sampled was.limit left e)
      → HasDone d left start is new ends.NoMemory (LoggingDid (stops_else s.sampled ends.NoMemory tt) was.limit left ends.NoMemory)
  want_done e s well left start h = record {
    events = h.events;
    more = h.more;
    did = did_else s.sampled ends.NoMemory tt was.limit left h.events h.more e well h.did;
    stands = left_kept d left start is new h.events h.more e well h.stands;
  }

  -- memory was refused to the writers
  want_settled : (e : Ending) → e ≢ ends.DiskFault → SoSettled e → SoSettled ends.NoMemory
  want_settled e well s = record {
    moments = s.moments;
    results = s.results;
    sampled = stops_else s.sampled ends.NoMemory tt;
    took = took_most samples (length s.moments) e s.took;
    at_last = λ all. last_else s.sampled ends.NoMemory tt samples (s.at_last all);
    so_ends = tt;
    clock = s.clock;
    counted = s.counted;
    why = tt;
    told = λ tells left start keeps. want_done e s well left start (s.told tells left start keeps);
  }

  pub refused_settled : (e ending : Ending) → RefusedBy e ending → SoSettled e → SoSettled ending
  refused_settled e ending (inl (is_fault, same)) s = subst (λ (x : Ending). SoSettled x) (sym same) s
  refused_settled e ending (inr (other, wants)) s = subst (λ (x : Ending). SoSettled x) (sym wants) (want_settled e other s)

  pub halts : (e : Ending) → AtJournals IsLegal script server final → IsFinishedUnlessWanting e (AtJournals WritersRan script server final) → AtJournals LoggerLoads script server final → SoSettled e
      → Halts c d clock_was clock_is was is old new script samples server first final e
  halts e legal writers loads s = record {
    moments = s.moments;
    results = s.results;
    beside = record { legal = legal; writers = writers; loads = loads; sampled = s.sampled };
    took = s.took;
    at_last = s.at_last;
    so_ends = s.so_ends;
    clock = s.clock;
    counted = s.counted;
    why = s.why;
    told = s.told;
  }

module _ (script : Script) (server : List Mounted) (passes : List (Vec Token)) (first : Seated) (keeps : KeepsRules script) (made : AreMade script server passes (first ∷ [])) where
  module _ {C D : Type 0} (c : ClockGhosts C) (d : DiskGhosts D) (clock_was clock_is : C) (was is : Carried) (old new : D) (samples : ℕ) (waiting : List Token) (loaded : AreLoaded first.tokens waiting) where
    -- writers were refused memory
    pub halts_refused : AreImages script → (ending : Ending) → EndsBy ends.NoMemory ending → Settled c d clock_was clock_is was is old new script samples server first.tokens waiting ending
        → Halts c d clock_was clock_is was is old new script samples server first.tokens waiting ending
    halts_refused images ending by s =
        let u : AtJournals IsLegal script server waiting × AtJournals LoggerLoads script server waiting = unwritten script server passes first keeps made images waiting loaded in
        halts c d clock_was clock_is was is old new script samples server first.tokens waiting ending u.0 (unfinished ending (AtJournals WritersRan script server waiting) by) u.1 s

    -- writers have ended
    module _ (done : List (Vec Token)) (gathered final : List Token) (written : HaveWritten script server passes done) (gathers : HaveGathered done waiting gathered) (behind : AreLoaded gathered final) where
      abbrev Journals : Type 0
      Journals = AtJournals IsLegal script server final × AtJournals WritersRan script server final × AtJournals LoggerLoads script server final × SeesOn waiting gathered × StandsBehind script server gathered final

      pub all_journals : Journals
      all_journals = journals script server passes first keeps made done waiting gathered final written loaded gathers behind

      pub halts_written : (e : Ending) → Settled c d clock_was clock_is was is old new script samples server first.tokens final e → Halts c d clock_was clock_is was is old new script samples server first.tokens final e
      halts_written e s =
          let j : Journals = all_journals in
          halts c d clock_was clock_is was is old new script samples server first.tokens final e j.0 (finished_all e (AtJournals WritersRan script server final) j.1) j.2 s

  -- nothing is sampled
  none_sampled : (gathered : List Token) (e : Ending) → e ≢ ends.Done → SeesOn first.tokens gathered → StandsBehind script server gathered gathered → IsSampled script server first.tokens gathered e [] []
  none_sampled gathered e undone later stands = record {
    beside = [];
    middle = first.tokens;
    taken = refl;
    waiting = first.tokens;
    loaded = not_loaded first.tokens;
    gathered = gathered;
    later = later;
    stands = stands;
    behind = [];
    last = gathered;
    taken_behind = refl;
    loaded_behind = not_loaded gathered;
    lacking = [];
    few = omega arith;
    last_behind = λ done. absurd (undone done);
    moments_are = refl;
    logged = [];
    unlogged = [];
    are = refl;
    one = omega arith;
    stops = inl (refl, refl);
    plans = None;
    shown = (refl, refl);
  }

  pub beside_written : (done : List (Vec Token)) (gathered : List Token) (e : Ending) → e ≢ ends.Done → HaveWritten script server passes done → HaveGathered done first.tokens gathered → Beside script server first.tokens gathered e [] []
  beside_written done gathered e undone written gathers =
      let j : AtJournals IsLegal script server gathered × AtJournals WritersRan script server gathered × AtJournals LoggerLoads script server gathered × SeesOn first.tokens gathered × StandsBehind script server gathered gathered =
      journals script server passes first keeps made done first.tokens gathered gathered written (not_loaded first.tokens) gathers (not_loaded gathered) in
      record { legal = j.0; writers = finished_all e (AtJournals WritersRan script server gathered) j.1; loads = j.2; sampled = none_sampled gathered e undone j.3 j.4 }

  pub beside_refused : AreImages script → (ending : Ending) → EndsBy ends.NoMemory ending → Beside script server first.tokens first.tokens ending [] []
  beside_refused images ending by =
      let u : AtJournals IsLegal script server first.tokens × AtJournals LoggerLoads script server first.tokens = unwritten script server passes first keeps made images first.tokens (not_loaded first.tokens) in
      record { legal = u.0; writers = unfinished ending (AtJournals WritersRan script server first.tokens) by; loads = u.1; sampled = none_sampled first.tokens ending (want_undone ending by) (sees_same first.tokens) (stands_same script server first.tokens) }

  -- What is left of the passes

  pub written_told : (done left : List (Vec Token)) (waiting gathered final : List Token) (e : Ending) → AreLoaded first.tokens waiting → HaveWritten script server passes done → HaveGathered done waiting gathered → AreLoaded gathered final → AreUsedUp server left → IsSeated server final → TellWriters script server final left e
  written_told done left waiting gathered final e loaded written gathers behind used seated =
      let j : AtJournals IsLegal script server final × AtJournals WritersRan script server final × AtJournals LoggerLoads script server final × SeesOn waiting gathered × StandsBehind script server gathered final =
      journals script server passes first keeps made done waiting gathered final written loaded gathers behind in
      inl (record { used = used; ran = j.1; last = all_last script server passes first keeps made done waiting gathered final written loaded gathers behind seated })
