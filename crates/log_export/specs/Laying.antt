-- The files as they are written, one after another: the index, the volumes by ascending number, and Meta last.
use Rattle.std.specs.Prelude.{◌≡◌, ◌⊎◌, ℕ, ◌<◌, false, if◌then◌else◌, nat_lt, List, [], take, Some, OnOk, Result}
use Rattle.pcp_base.specs.declared.file.FileId.{FileId}
use Rattle.pcp_base.specs.declared.file.FileId.TheVariants.{Meta, Index, Volume}
use Rattle.pcp_model.specs.Disk.{Files, Held, Holdings, nothing_held}
use Rattle.pcp_model.specs.Written.{same_file}
use Rattle.pcp_outside.specs.declared.disk.Disk.{Ghosts as DiskGhosts}
use Rattle.pcp_outside.specs.Devices.{LeavesOnly}
use Rattle.archive_recovery.specs.declared.mending.Last.{Last}
use Rattle.log_export.specs.Planning.{up_to_last}

-- a file of these bytes, all of them sure
abbrev pub whole : List ℕ → Held
whole bytes = record { sure = bytes; rest = [] }

-- the index and the volumes below a number are whole, and nothing else is there
abbrev pub laid_to : ℕ → Files → Holdings
laid_to n out Meta = nothing_held
laid_to n out Index = whole (out Index)
laid_to n out (Volume k) = if nat_lt k n then whole (out (Volume k)) else nothing_held

-- all but Meta
abbrev pub laid_before_meta : Files → Holdings
laid_before_meta out Meta = nothing_held
laid_before_meta out Index = whole (out Index)
laid_before_meta out (Volume k) = whole (out (Volume k))

abbrev pub IsHeld : Holdings → Holdings → Type 0
IsHeld held are = (file : FileId) → held file ≡ are file

-- What a crash may leave meanwhile: of each file a beginning, and no byte of Meta before the others are whole.
pub record IsBegun (out crash : Files) : Type 0 where
  pub each : (file : FileId) → (n : ℕ) × (crash file ≡ take n (out file))
  pub meta_last : (crash Meta ≡ []) ⊎ ((file : FileId) → same_file Meta file ≡ false → crash file ≡ out file)

abbrev pub BeginsOnly : {D : Type 0} → DiskGhosts D → Files → D → D → Type 0
BeginsOnly g out old new = LeavesOnly g.moment g.left_since old new (IsBegun out)

-- from one stand of the files to another
abbrev pub Goes : {D T E : Type 0} → DiskGhosts D → Files → Holdings → Holdings → D → D → Result T E → Type 0
Goes g out from to old new result = IsHeld (g.held old) from → OnOk result (IsHeld (g.held new) to) × BeginsOnly g out old new

abbrev pub Lays : {D T E : Type 0} → DiskGhosts D → Files → ℕ → D → D → Result T E → Type 0
Lays g out count old new result = Goes g out (laid_to 0 out) (laid_to count out) old new result

abbrev pub LaysVolumes : {D T E : Type 0} → DiskGhosts D → Files → D → D → Result T E → Type 0
LaysVolumes g out old new result = Goes g out (laid_to 0 out) (laid_before_meta out) old new result

-- from nothing to all of it
abbrev pub LaysWhole : {D T E : Type 0} → DiskGhosts D → Files → D → D → Result T E → Type 0
LaysWhole g out old new result = Goes g out (λ file. nothing_held) (λ file. whole (out file)) old new result

-- the volumes below a number are those of the source
abbrev pub AgreeBelow : ℕ → Files → Files → Type 0
AgreeBelow count files out = (n : ℕ) → n < count → out (Volume n) ≡ files (Volume n)

-- those up to the last one, and of that what is whole
abbrev pub AgreeUpTo : Last → Files → Files → Type 0
AgreeUpTo l files out = (n : ℕ) → out (Volume n) ≡ up_to_last files (Some l) n
