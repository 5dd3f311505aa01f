-- One framed record of Meta (LOGARCHIVE(5)).
use Rattle.std.specs.Prelude.{◌≡◌, ℕ, List}
use Rattle.pcp_model.specs.declared.records.MetaRecord.{MetaRecord}
use Rattle.pcp_model.specs.Records.{IsRecord}
use Rattle.archive_frame.specs.Steps.{Stands}
use Rattle.archive_meta.specs.declared.fault.MetaFault.{MetaFault}
use Rattle.archive_meta.specs.declared.fault.MetaFault.TheVariants.{Record, NoMemory}

-- a record is framed from a byte up to another
pub record RecordStands (bytes : List ℕ) (at next : ℕ) (r : MetaRecord) : Type 0 where
  pub payload : List ℕ
  pub stands : Stands bytes payload at next
  pub reads : IsRecord payload r

-- no record is framed there
abbrev pub NoRecordStands : List ℕ → ℕ → Type 0
NoRecordStands bytes at = (next : ℕ) (r : MetaRecord) → RecordStands bytes at next r → ⊥

abbrev pub IsRecordFault : List ℕ → ℕ → MetaFault → Type 0
IsRecordFault bytes at (Record offset) = (offset ≡ at) × NoRecordStands bytes at
IsRecordFault bytes at NoMemory = Unit {0}
