-- What holds of breaches.
use Rattle.std.specs.Prelude.{◌≡◌, ◌⊎◌}
use Rattle.pcp_model.specs.Archive.{ArchiveReading, Reads}
use Rattle.pcp_model.specs.Disk.{Files}
use Rattle.pcp_model.specs.Sound.{IsSound}
use Rattle.archive_check.specs.Breaches.{IsBreach}
use Rattle.archive_check.specs.declared.fault.CheckFault.{CheckFault}

-- A readable archive is sound, or it has a breach; it has one at most, and a sound one has none.
pub record IsJudged (files : Files) (reading : ArchiveReading) : Type 0 where
  pub either : IsSound files reading ⊎ ((fault : CheckFault) × IsBreach files reading fault)
  pub one : (a b : CheckFault) → IsBreach files reading a → IsBreach files reading b → a ≡ b
  pub none : (fault : CheckFault) → IsBreach files reading fault → IsSound files reading → ⊥

abbrev pub ReadableIsJudged : Type 0
ReadableIsJudged = (files : Files) (reading : ArchiveReading) → Reads files reading → IsJudged files reading
