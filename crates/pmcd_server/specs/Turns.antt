-- Sessions that were served, each over a connection of one door.
use Rattle.std.specs.Prelude.{◌≡◌, List, [], ◌∷◌}
use Rattle.fetch_engine.specs.declared.server.Mounted.{Mounted}
use Rattle.pcp_outside.specs.Doors.{Connection, Report}
use Rattle.fetch_engine.specs.Servers.{Seated}
use Rattle.pmcd_session.specs.Agents.{LoadsRegions, ReadsRegions}
use Rattle.pmcd_session.specs.Sessions.{Completes, CountsOn, IsCaused, OthersStand, Runs}
use Rattle.pcp_outside.specs.Sides.{SourceSide, SinkSide, ClockSide}

-- What came over a connection, and what is reported of it. Of a door that doesn't tell, the end and the counts of faults alone
-- mean something.
pub record Turn : Type 0 where
  pub connection : Connection
  pub report : Report

-- The objects of a connection, as its report leaves them. They begin without a fault, and the sink without a byte.
abbrev pub source_of : Type 0 → Turn → SourceSide
source_of tells t = record { tells = tells; left = t.connection.0; after = t.report.bytes_left; faults = 0; faults_after = t.report.source_faults }

abbrev pub sink_of : Type 0 → Turn → SinkSide
sink_of tells t = record { tells = tells; written = []; after = t.report.written; faults = 0; faults_after = t.report.sink_faults }

abbrev pub clock_of : Type 0 → Turn → ClockSide
clock_of tells t = record { tells = tells; left = t.connection.1; after = t.report.moments_left; faults = 0; faults_after = t.report.clock_faults }

-- The report is that of a session at these regions, over what came with its connection. It leads from one seat to another.
pub record IsSession (rows : List Mounted) (tells : Type 0) (t : Turn) (first last : Seated) : Type 0 where
  pub runs : Runs (ReadsRegions rows) LoadsRegions first last (source_of tells t) (sink_of tells t) (clock_of tells t) t.report.session_end
  pub cause : IsCaused (source_of tells t) (sink_of tells t) (clock_of tells t) t.report.session_end
  pub completes : Completes (source_of tells t) (sink_of tells t) (clock_of tells t) t.report.session_end
  pub others : OthersStand (source_of tells t) (sink_of tells t) (clock_of tells t) t.report.session_end
  pub later : CountsOn (source_of tells t) (sink_of tells t) (clock_of tells t)

-- sessions one after another on one seat
abbrev pub Follow : List Mounted → Type 0 → Seated → List Turn → Seated → Type 0
Follow rows tells first [] last = first ≡ last
Follow rows tells first (t ∷ ts) last = (between : Seated) × IsSession rows tells t first between × Follow rows tells between ts last
