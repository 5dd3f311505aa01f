-- Each refusal by itself.
use Rattle.std.specs.Prelude.{◌≡◌, ℕ, ◌+◌, ◌<◌, ◌≤◌, List, min, Option, Some}
use Rattle.pcp_base.specs.Time.{Moment, microseconds}
use Rattle.pcp_base.specs.declared.result.PmResult.{PmResult}
use Rattle.pcp_model.specs.declared.records.MetaRecord.{MetaRecord}
use Rattle.pcp_model.specs.Payload.{payload_length}
use Rattle.archive_meta.specs.declared.facts.Changed.{Changed as Change}
use Rattle.archive_meta.specs.declared.facts.Facts.{Facts}
use Rattle.archive_meta.specs.declared.facts.RecordsFault.TheVariants.{Large as TooLarge}
use Rattle.archive_meta.specs.Facts.{IsFirstChange}
use Rattle.archive_meta.specs.Missing.{IsRecordsFault}
use Rattle.logger_core.specs.declared.ends.Ends.{Ends}
use Rattle.logger_core.specs.declared.fault.LogFault.{LogFault}
use Rattle.logger_core.specs.declared.fault.LogFault.TheVariants.{Closed, Live, Large, NotLater, Changed, Full, NoMemory, DiskFault}
use Rattle.logger_core.specs.Logging.{IsFull}

-- the framed record is too long
abbrev pub IsLengthFault : PmResult → LogFault → Type 0
IsLengthFault answer Closed = ⊥
IsLengthFault answer (Live volume) = ⊥
IsLengthFault answer (Large bytes) = (16777208 < payload_length answer) × (bytes ≡ min (payload_length answer + 8) 18446744073709551615)
IsLengthFault answer (NotLater last) = ⊥
IsLengthFault answer (Changed pmid) = ⊥
IsLengthFault answer (Full file bytes) = ⊥
IsLengthFault answer NoMemory = ⊥
IsLengthFault answer DiskFault = ⊥

-- a record of Meta that is missing is too long, or memory was refused
abbrev pub IsMetadataFault : List MetaRecord → PmResult → Facts → LogFault → Type 0
IsMetadataFault records answer facts Closed = ⊥
IsMetadataFault records answer facts (Live volume) = ⊥
IsMetadataFault records answer facts (Large bytes) = IsRecordsFault records facts answer (TooLarge bytes)
IsMetadataFault records answer facts (NotLater last) = ⊥
IsMetadataFault records answer facts (Changed pmid) = ⊥
IsMetadataFault records answer facts (Full file bytes) = ⊥
IsMetadataFault records answer facts NoMemory = Unit {0}
IsMetadataFault records answer facts DiskFault = ⊥

-- the moment isn't after the greatest stamp
abbrev pub IsStampFault : Option Moment → Moment → LogFault → Type 0
IsStampFault greatest t Closed = ⊥
IsStampFault greatest t (Live volume) = ⊥
IsStampFault greatest t (Large bytes) = ⊥
IsStampFault greatest t (NotLater last) = (greatest ≡ Some last) × (microseconds t ≤ microseconds last)
IsStampFault greatest t (Changed pmid) = ⊥
IsStampFault greatest t (Full file bytes) = ⊥
IsStampFault greatest t NoMemory = ⊥
IsStampFault greatest t DiskFault = ⊥

-- a fact isn't what is kept
abbrev pub IsChangeFault : List MetaRecord → PmResult → Facts → LogFault → Type 0
IsChangeFault records answer facts Closed = ⊥
IsChangeFault records answer facts (Live volume) = ⊥
IsChangeFault records answer facts (Large bytes) = ⊥
IsChangeFault records answer facts (NotLater last) = ⊥
IsChangeFault records answer facts (Changed pmid) = (change : Change) × IsFirstChange records facts.metrics answer.sets change × (pmid ≡ change.pmid)
IsChangeFault records answer facts (Full file bytes) = ⊥
IsChangeFault records answer facts NoMemory = ⊥
IsChangeFault records answer facts DiskFault = ⊥

-- a file has no place
abbrev pub IsRoomFault : Ends → ℕ → ℕ → ℕ → LogFault → Type 0
IsRoomFault e limit records record_length Closed = ⊥
IsRoomFault e limit records record_length (Live volume) = ⊥
IsRoomFault e limit records record_length (Large bytes) = ⊥
IsRoomFault e limit records record_length (NotLater last) = ⊥
IsRoomFault e limit records record_length (Changed pmid) = ⊥
IsRoomFault e limit records record_length (Full file bytes) = IsFull e limit records record_length file bytes
IsRoomFault e limit records record_length NoMemory = ⊥
IsRoomFault e limit records record_length DiskFault = ⊥
