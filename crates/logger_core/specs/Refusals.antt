-- Which refusals a logger's calls answer, and why.
use Rattle.std.specs.Prelude.{◌≡◌, ℕ, true, false}
use Rattle.pcp_outside.specs.Causes.{Rose}
use Rattle.logger_core.specs.declared.fault.LogFault.{LogFault}
use Rattle.logger_core.specs.declared.fault.LogFault.TheVariants.{Closed, Live, Large, NotLater, Changed, Full, NoMemory, DiskFault}
use Rattle.logger_core.specs.Meant.{Kept}

abbrev pub closed_copy : Kept → Kept
closed_copy l = record { label = l.label; records = l.records; ends = l.ends; limit = l.limit; closed = true }

-- a creation is refused for want of memory, or by the disk
abbrev pub CreateMayAnswer : ℕ → ℕ → LogFault → Type 0
CreateMayAnswer before after Closed = ⊥
CreateMayAnswer before after (Live volume) = ⊥
CreateMayAnswer before after (Large bytes) = ⊥
CreateMayAnswer before after (NotLater last) = ⊥
CreateMayAnswer before after (Changed pmid) = ⊥
CreateMayAnswer before after (Full file bytes) = ⊥
CreateMayAnswer before after NoMemory = Unit {0}
CreateMayAnswer before after DiskFault = Rose before after

-- a flush or a sync is refused where the logger is closed, or by the disk, which closes it
abbrev pub FlushMayAnswer : Kept → Kept → ℕ → ℕ → LogFault → Type 0
FlushMayAnswer old new before after Closed = (old.closed ≡ true) × (new ≡ old)
FlushMayAnswer old new before after (Live volume) = ⊥
FlushMayAnswer old new before after (Large bytes) = ⊥
FlushMayAnswer old new before after (NotLater last) = ⊥
FlushMayAnswer old new before after (Changed pmid) = ⊥
FlushMayAnswer old new before after (Full file bytes) = ⊥
FlushMayAnswer old new before after NoMemory = ⊥
FlushMayAnswer old new before after DiskFault = (old.closed ≡ false) × (new ≡ closed_copy old) × Rose before after
