-- Why a result isn't logged, over any disk.
use Rattle.std.specs.Prelude.{ℕ}
use Rattle.pcp_outside.specs.Causes.{Rose}
use Rattle.logger_core.specs.declared.fault.LogFault.{LogFault}
use Rattle.logger_core.specs.declared.fault.LogFault.TheVariants as logs
use Rattle.logging_session.specs.Answers.{IsFor}
use Rattle.logging_session.specs.Keeping.{Carried}
use Rattle.logging_session.specs.Written.{Report}
use Rattle.logging_run.specs.declared.fault.RunFault.{RunFault}
use Rattle.logging_run.specs.declared.fault.RunFault.TheVariants as faults

-- What turns a result away has its cause in the logger that then stands; a fault of the disk comes only where its count rose. Memory may always
-- be refused.
abbrev pub MayRefuse : Report → Carried → ℕ → ℕ → RunFault → Type 0
MayRefuse r run before after (faults.Large bytes) = IsFor run.place r (logs.Large bytes)
MayRefuse r run before after (faults.NotLater last) = IsFor run.place r (logs.NotLater last)
MayRefuse r run before after (faults.Changed pmid) = IsFor run.place r (logs.Changed pmid)
MayRefuse r run before after (faults.Full file bytes) = IsFor run.place r (logs.Full file bytes)
MayRefuse r run before after faults.NoMemory = Unit {0}
MayRefuse r run before after faults.DiskFault = Rose before after
MayRefuse r run before after (faults.Compressed file) = ⊥
MayRefuse r run before after (faults.NotArchive file at) = ⊥

-- why a session refuses what it is handed
abbrev pub refusal_of : LogFault → RunFault
refusal_of (logs.Large bytes) = faults.Large bytes
refusal_of (logs.NotLater last) = faults.NotLater last
refusal_of (logs.Changed pmid) = faults.Changed pmid
refusal_of (logs.Full file bytes) = faults.Full file bytes
refusal_of logs.NoMemory = faults.NoMemory
refusal_of fault = faults.DiskFault
