-- What is told of an extract that ended before all was merged.
use Rattle.std.specs.Prelude.{ℕ, nat_eq, if◌then◌else◌, List, [], codes}
use Rattle.archive_check.specs.declared.fault.CheckFault.{CheckFault}
use Rattle.archive_check.specs.declared.fault.CheckFault.TheVariants as checks
use Rattle.archive_merge.specs.declared.fault.MergeFault.{MergeFault}
use Rattle.archive_merge.specs.declared.fault.MergeFault.TheVariants as merges
use Rattle.archive_reader.specs.declared.fault.ReaderFault.TheVariants as reads
use Rattle.logger_core.specs.declared.fault.LogFault.{LogFault}
use Rattle.logger_core.specs.declared.fault.LogFault.TheVariants as logs
use Rattle.log_extract.specs.declared.fault.ExtractFault.{ExtractFault}
use Rattle.log_extract.specs.declared.fault.ExtractFault.TheVariants.{Archive, Merge, Source as Unread}
use Rattle.pm_words.specs.declared.refusal.Refusal.{Refusal}
use Rattle.pm_words.specs.declared.refusal.Refusal.TheVariants as refusals
use Rattle.pm_words.specs.Refusals.{check_refusal, run_refusal}

-- ---- the refusal

-- why an item can't be described
abbrev pub merge_refusal : MergeFault → Refusal
merge_refusal (merges.Lacks source pmid) = refusals.Lacks source pmid
merge_refusal (merges.Clashes pmid) = refusals.Clashes pmid
merge_refusal merges.NoMemory = refusals.NoMemory

abbrev pub fault_refusal : ExtractFault → Refusal
fault_refusal (Unread number fault) = check_refusal fault
fault_refusal (Merge fault) = merge_refusal fault
fault_refusal (Archive fault) = run_refusal fault

-- ---- the line before it

-- the line that names a source
abbrev pub source_line : ℕ → List ℕ
source_line number = if nat_eq number 1 then codes "source 1\n" else codes "source 2\n"

-- a source that isn't passed is named, but where memory was refused for it
abbrev pub source_front : ℕ → CheckFault → List ℕ
source_front number (checks.Items first second) = source_line number
source_front number (checks.Boundary at file below above) = source_line number
source_front number (checks.Late at stamp) = source_line number
source_front number (checks.Reader (reads.Compressed file)) = source_line number
source_front number (checks.Reader (reads.NotArchive file at)) = source_line number
source_front number (checks.Reader reads.DiskFault) = source_line number
source_front number (checks.Reader reads.NoMemory) = []

abbrev pub front_of : ExtractFault → List ℕ
front_of (Unread number fault) = source_front number fault
front_of (Merge fault) = []
front_of (Archive fault) = []

-- ---- statuses

-- where the archive doesn't take an item: its record or a file would be too long, but for these
abbrev pub away_status : LogFault → ℕ
away_status (logs.NotLater last) = 12
away_status (logs.Changed pmid) = 13
away_status fault = 7

-- where an item can't be described
abbrev pub misfit_status : MergeFault → ℕ
misfit_status (merges.Lacks source pmid) = 18
misfit_status (merges.Clashes pmid) = 19
misfit_status merges.NoMemory = 9
