-- Framed records of Meta, one behind another (LOGARCHIVE(5)).
use Rattle.std.specs.Prelude.{◌≡◌, ◌⊎◌, ℕ, ◌<◌, ◌≤◌, List, [], ◌∷◌, ◌++◌, length, take, drop, Result, Ok, Err}
use Rattle.pcp_model.specs.declared.records.MetaRecord.{MetaRecord}
use Rattle.pcp_model.specs.Archive.{AreRead}
use Rattle.pcp_model.specs.Frame.{frames, IsTorn}
use Rattle.pcp_model.specs.Records.{IsRecord, AreConsistent}
use Rattle.archive_meta.specs.Framed.{RecordStands}
use Rattle.archive_meta.specs.declared.fault.MetaFault.{MetaFault}
use Rattle.archive_meta.specs.declared.fault.MetaFault.TheVariants.{Record, NoMemory}

-- the bytes are these records, each framed whole
pub record AreRecords (bytes : List ℕ) (records : List MetaRecord) : Type 0 where
  pub payloads : List (List ℕ)
  pub read : AreRead IsRecord payloads records
  pub is : bytes ≡ frames payloads

-- Behind records that stand already, the bytes are records up to here; at this byte no record is framed, or one
-- that describes a metric otherwise than before.
pub record IsFirstBad (before : List MetaRecord) (bytes : List ℕ) (at : ℕ) : Type 0 where
  pub within : at < length bytes
  pub records : List MetaRecord
  pub good : AreRecords (take at bytes) records
  pub consistent : AreConsistent (before ++ records)
  pub bad : (next : ℕ) (r : MetaRecord) → RecordStands bytes at next r → AreConsistent ((before ++ records) ++ r ∷ []) → ⊥

abbrev pub IsMetaFault : List MetaRecord → List ℕ → MetaFault → Type 0
IsMetaFault before bytes (Record at) = IsFirstBad before bytes at
IsMetaFault before bytes NoMemory = Unit {0}

-- the records of the bytes were added to those before
pub record Adds (before : List MetaRecord) (bytes : List ℕ) (after : List MetaRecord) : Type 0 where
  pub records : List MetaRecord
  pub read : AreRecords bytes records
  pub is : after ≡ before ++ records
  pub consistent : AreConsistent after

-- a record is refused since it differs from an earlier description
abbrev pub IsAddFault : List MetaRecord → MetaRecord → ℕ → MetaFault → Type 0
IsAddFault before r at (Record offset) = (offset ≡ at) × (AreConsistent (before ++ r ∷ []) → ⊥)
IsAddFault before r at NoMemory = Unit {0}

-- these records were read, unless memory ran out
abbrev pub AreFound : {X : Type 0} → (X → List MetaRecord → Type 0) → List MetaRecord → Result X MetaFault → Type 0
AreFound Says records (Ok x) = Says x records
AreFound Says records (Err e) = e ≡ NoMemory

-- The records up to here may be whole: the bytes end, or a record begins that was not written whole.
pub record IsWholeEnd (bytes : List ℕ) (at : ℕ) : Type 0 where
  pub within : at ≤ length bytes
  pub end : (at ≡ length bytes) ⊎ IsTorn (drop at bytes)

-- The bytes are these records up to here, of which no two describe one metric in two ways; behind them stands the
-- beginning of a record at most that wasn't written whole.
pub record HasFront (bytes : List ℕ) (records : List MetaRecord) (end : ℕ) : Type 0 where
  pub within : end ≤ length bytes
  pub read : AreRecords (take end bytes) records
  pub consistent : AreConsistent records
  pub torn : IsTorn (drop end bytes)

-- the first bad record isn't a torn one at the end
abbrev pub IsFrontFault : List MetaRecord → List ℕ → MetaFault → Type 0
IsFrontFault before bytes (Record at) = IsFirstBad before bytes at × (IsTorn (drop at bytes) → ⊥)
IsFrontFault before bytes NoMemory = Unit {0}
