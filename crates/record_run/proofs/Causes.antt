-- Only a disk whose count of faults rose makes a run end by its fault.
use Rattle.std.proofs.Common.{inl, inr, ℕ, ◌≤◌, arith, ◌≡◌, ◌≢◌, refl}
use Rattle.pcp_outside.specs.Causes.{Rose}
use Rattle.archive_recovery.specs.declared.outcome.RecoverFault.{RecoverFault}
use Rattle.archive_recovery.specs.declared.outcome.RecoverFault.TheVariants as recovery
use Rattle.script_runs.specs.declared.ending.Ending.{Ending}
use Rattle.script_runs.specs.declared.ending.Ending.TheVariants as ends
use Rattle.run_archive.specs.Outcomes.{ended_by}
use Rattle.run_archive.specs.Endings.{MayEnd, LeavesCount}

rose_earlier : (before mid after : ℕ) → before ≤ mid → Rose mid after → Rose before after
rose_earlier before mid after later (inl rose) = inl (omega (arith, later, rose))
rose_earlier before mid after later (inr full) = inr full

pub may_end_earlier : (before mid after : ℕ) (e : Ending) → before ≤ mid → MayEnd mid after e → MayEnd before after e
may_end_earlier before mid after ends.DiskFault later may = rose_earlier before mid after later may
may_end_earlier before mid after ends.Done later may = tt
may_end_earlier before mid after (ends.Condition line) later may = tt
may_end_earlier before mid after (ends.NotArchive file at) later may = tt
may_end_earlier before mid after (ends.Compressed file) later may = tt
may_end_earlier before mid after (ends.Limit what number) later may = tt
may_end_earlier before mid after (ends.ClockEnd samples) later may = may
may_end_earlier before mid after (ends.ClockFault samples) later may = may
may_end_earlier before mid after ends.NoMemory later may = tt
may_end_earlier before mid after (ends.NotLater last) later may = tt
may_end_earlier before mid after (ends.Changed pmid) later may = tt

-- ---- no call of the disk has failed

pub leaves_count : (before after : ℕ) (e : Ending) → (e ≢ ends.DiskFault → after ≡ before) → LeavesCount before after e
leaves_count before after ends.DiskFault quiet = tt
leaves_count before after ends.NoMemory quiet = tt
leaves_count before after (ends.NotArchive file at) quiet = tt
leaves_count before after (ends.Compressed file) quiet = tt
leaves_count before after ends.Done quiet = quiet (λ is. cc)
leaves_count before after (ends.Condition line) quiet = quiet (λ is. cc)
leaves_count before after (ends.Limit what number) quiet = quiet (λ is. cc)
leaves_count before after (ends.ClockEnd samples) quiet = quiet (λ is. cc)
leaves_count before after (ends.ClockFault samples) quiet = quiet (λ is. cc)
leaves_count before after (ends.NotLater last) quiet = quiet (λ is. cc)
leaves_count before after (ends.Changed pmid) quiet = quiet (λ is. cc)

-- before the first line it isn't said
pub unrecovered_leaves : (before after : ℕ) (fault : RecoverFault) → LeavesCount before after (ended_by fault)
unrecovered_leaves before after (recovery.Compressed file) = tt
unrecovered_leaves before after (recovery.NotArchive file at) = tt
unrecovered_leaves before after recovery.DiskFault = tt
unrecovered_leaves before after recovery.NoMemory = tt
