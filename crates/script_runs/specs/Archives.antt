-- The archive of a run (pmlogger(1), LOGARCHIVE(5)): its label, what is logged of a fetch, and why it turns a result away.
use Rattle.std.specs.Prelude.{◌≡◌, ℕ, List, codes, Option, Some, None}
use Rattle.pcp_base.specs.declared.file.FileId.{FileId}
use Rattle.pcp_base.specs.declared.file.FileId.TheVariants as files
use Rattle.pcp_model.specs.Archive.{ArchiveReading, Reads}
use Rattle.pcp_model.specs.Disk.{Files}
use Rattle.pcp_model.specs.LabelFields.{LabelFields}
use Rattle.pcp_model.specs.Recovered.{Recovers}
use Rattle.fetch_answers.specs.declared.fetch.Fetched.{Fetched}
use Rattle.logger_core.specs.declared.fault.LogFault.{LogFault}
use Rattle.logger_core.specs.declared.fault.LogFault.TheVariants as faults
use Rattle.logging_session.specs.Events.{Event, LeadFrom, opening}
use Rattle.logging_session.specs.Written.{Refuses, Report, Stand, Written}
use Rattle.script_runs.specs.declared.ending.Ending.{Ending}
use Rattle.script_runs.specs.declared.ending.Ending.TheVariants as ends
use Rattle.script_runs.specs.declared.ending.LimitKind.TheVariants as kinds

-- the label of a new archive, but for its moment, which is that of its first result
abbrev pub run_label : LabelFields
run_label = record { pid = 1; start = record { sec = 0; usec = 0 }; host = codes "localhost"; zone = codes "UTC" }

-- the files at the start, and what recovery leaves of them
pub record IsRecovered (start left : Files) : Type 0 where
  pub reading : ArchiveReading
  pub was : Reads start reading
  pub recovered : Recovers start reading left

-- what is logged of a fetch
abbrev pub report_of : Fetched → Report
report_of f = record { result = f.result; facts = f.facts }

abbrev pub full_of : FileId → ℕ → Ending
full_of files.Meta bytes = ends.Limit kinds.Meta bytes
full_of files.Index bytes = ends.Limit kinds.Index bytes
full_of (files.Volume n) bytes = ends.Limit kinds.Volume bytes

-- how a run ends whose result is refused so
abbrev pub ending_of : LogFault → Option Ending
ending_of (faults.Large bytes) = Some (ends.Limit kinds.Record bytes)
ending_of (faults.NotLater last) = Some (ends.NotLater last)
ending_of (faults.Changed pmid) = Some (ends.Changed pmid)
ending_of (faults.Full file bytes) = Some (full_of file bytes)
ending_of faults.Closed = None
ending_of (faults.Live volume) = None
ending_of faults.NoMemory = None
ending_of faults.DiskFault = None

-- The archive that these events left, opened for the result if it wasn't, doesn't take it, and so the run ends.
pub record IsTurnedAway (limit : ℕ) (left : Files) (events : List Event) (f : Fetched) (ending : Ending) : Type 0 where
  pub w : Written
  pub lead : LeadFrom run_label limit left (opening f.result.stamp events) (Stand.opened w)
  pub fault : LogFault
  pub refuses : Refuses limit (report_of f) w fault
  pub ends : ending_of fault ≡ Some ending
