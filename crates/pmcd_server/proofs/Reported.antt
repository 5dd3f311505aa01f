-- What a session's clauses say of its objects, its report says.
use Rattle.std.proofs.Common.{ℕ, List, ◌∙◌, subst, arith}
use Rattle.fetch_engine.specs.declared.server.Mounted.{Mounted}
use Rattle.pcp_outside.specs.Causes.{Rose}
use Rattle.pcp_outside.specs.Doors.{IsFresh}
use Rattle.pcp_outside.specs.declared.doors.SessionEnd.{SessionEnd}
use Rattle.pcp_outside.specs.declared.doors.SessionEnd.TheVariants as ends
use Rattle.fetch_engine.specs.Servers.{Seated}
use Rattle.pmcd_session.specs.Agents.{LoadsRegions, ReadsRegions}
use Rattle.pmcd_session.specs.Sessions.{Completes, IsCaused, OthersStand, Runs, NoneFailed, WritesBy}
use Rattle.pcp_outside.specs.Sides.{SourceSide, SinkSide, ClockSide}
use Rattle.pmcd_server.specs.Turns.{Turn, source_of, sink_of, clock_of, IsSession}

-- the objects as the session found and left them
abbrev found_source : Type 0 → ℕ → Turn → SourceSide
found_source tells faults t = record { tells = tells; left = t.connection.0; after = t.report.bytes_left; faults = faults; faults_after = t.report.source_faults }

abbrev found_sink : Type 0 → List ℕ → ℕ → Turn → SinkSide
found_sink tells written faults t = record { tells = tells; written = written; after = t.report.written; faults = faults; faults_after = t.report.sink_faults }

abbrev found_clock : Type 0 → ℕ → Turn → ClockSide
found_clock tells faults t = record { tells = tells; left = t.connection.1; after = t.report.moments_left; faults = faults; faults_after = t.report.clock_faults }

module _ (tells S O C : Type 0) (told : tells → S × O × C) (i o c : ℕ) (w : List ℕ) (fresh : IsFresh i o c w) (t : Turn) where
  caused : (end : SessionEnd) → IsCaused (found_source S i t) (found_sink O w o t) (found_clock C c t) end → IsCaused (source_of tells t) (sink_of tells t) (clock_of tells t) end
  caused ends.Closed cause = λ h. cause (told h).0
  caused (ends.Torn n) cause = λ h. cause (told h).0
  caused (ends.BadLength n) cause = tt
  caused ends.ReadFault cause = subst (λ (n : ℕ). Rose n t.report.source_faults) fresh.source cause
  caused ends.WriteFault cause = subst (λ (n : ℕ). Rose n t.report.sink_faults) fresh.sink cause
  caused ends.ClockFault cause = subst (λ (n : ℕ). Rose n t.report.clock_faults) fresh.clock cause
  caused ends.ClockEnd cause = λ h. cause (told h).2
  caused ends.Spent cause = tt
  caused ends.NoMemory cause = tt

  none_failed : NoneFailed (source_of tells t) (sink_of tells t) (clock_of tells t) → NoneFailed (found_source S i t) (found_sink O w o t) (found_clock C c t)
  none_failed none = record {
    source_well = λ rose. none.source_well (subst (λ (n : ℕ). Rose n t.report.source_faults) fresh.source rose);
    sink_well = λ rose. none.sink_well (subst (λ (n : ℕ). Rose n t.report.sink_faults) fresh.sink rose);
    clock_well = λ rose. none.clock_well (subst (λ (n : ℕ). Rose n t.report.clock_faults) fresh.clock rose);
  }

  pub is_reported : (rows : List Mounted) (first last : Seated)
      → Runs (ReadsRegions rows) LoadsRegions first last (found_source S i t) (found_sink O w o t) (found_clock C c t) t.report.session_end
      → IsCaused (found_source S i t) (found_sink O w o t) (found_clock C c t) t.report.session_end
      → Completes (found_source S i t) (found_sink O w o t) (found_clock C c t) t.report.session_end
      → OthersStand (found_source S i t) (found_sink O w o t) (found_clock C c t) t.report.session_end
      → IsSession rows tells t first last
  is_reported rows first last runs cause completes others = record {
    runs = record {
      history = runs.history;
      took = λ h. runs.took (told h).0;
      few = runs.few;
      asked = λ h. runs.asked (told h).2;
      wrote = λ h. subst (λ (bytes : List ℕ). WritesBy t.report.session_end bytes t.report.written runs.history.bytes) fresh.nothing_written (runs.wrote (told h).1);
      ends = runs.ends;
    };
    cause = caused t.report.session_end cause;
    completes = λ a b answerable none. completes (told a).0 (told b).2 answerable (none_failed none);
    others = record {
      source_still = λ other. others.source_still other ∙ fresh.source;
      sink_still = λ other. others.sink_still other ∙ fresh.sink;
      clock_still = λ other. others.clock_still other ∙ fresh.clock;
    };
    later = record { source_on = omega arith; sink_on = omega arith; clock_on = omega arith };
  }
