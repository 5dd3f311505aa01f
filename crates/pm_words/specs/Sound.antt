-- The files that a command leaves which writes an archive: whole, and sound where those that recovery left were so.
use Rattle.pcp_model.specs.Archive.{ArchiveReading, Reads}
use Rattle.pcp_model.specs.Disk.{Files}
use Rattle.pcp_model.specs.Recovered.{Recovers, recovered_reading}
use Rattle.pcp_model.specs.Sound.{IsSound}

-- What recovery leaves of files is sound. So it is where there is no archive.
abbrev pub RecoversSound : Files → Type 0
RecoversSound start = (reading : ArchiveReading) → Reads start reading → (left : Files) → Recovers start reading left → IsSound left (recovered_reading start reading)

-- recovery of what is left changes nothing, and it is sound where what recovery left at the start was so
pub record LeavesSound (start after : Files) : Type 0 where
  pub reading : ArchiveReading
  pub reads : Reads after reading
  pub whole : Recovers after reading after
  pub sound : RecoversSound start → IsSound after reading
