-- The first bytes of a file, and the label that has to stand there: how far they go on like it.
use Rattle.std.specs.Prelude.{◌≡◌, ℕ, ℤ, negsuc, Bool, ◌&&◌, false, nat_eq, nat_lt, nat_le, if◌then◌else◌, ◌+◌, ◌<◌, ◌≤◌, List, length, take, drop, Option, Some, None}
use Rattle.pcp_model.specs.LabelFields.{LabelFields}
use Rattle.pcp_model.specs.Labels.{IsLabel, BeginsLabel}
use Rattle.archive_frame.specs.Misfits.{IsFirstMisfit}
use Rattle.archive_frame.specs.declared.fault.FrameFault.{FrameFault}
use Rattle.archive_frame.specs.declared.fault.FrameFault.TheVariants.{Torn, Size, Lengths, Label, NoMemory}
use Rattle.archive_frame.specs.declared.heads.Head.{Head}
use Rattle.archive_frame.specs.declared.heads.Head.TheVariants.{Whole, Part}

-- a field stands there whole
abbrev pub FieldStands : (List ℕ → Type 0) → ℕ → List ℕ → ℕ → Type 0
FieldStands Field width bytes at = (at + width ≤ length bytes) × Field (take width (drop at bytes))

-- or this is the first byte that fits none
abbrev pub StopsIn : (List ℕ → Type 0) → ℕ → List ℕ → ℕ → ℕ → Type 0
StopsIn Field width bytes at offset = (k : ℕ) × (offset ≡ at + k) × IsFirstMisfit Field (take width (drop at bytes)) k

-- the label of a file, or its beginning
abbrev pub IsHead : LabelFields → ℤ → List ℕ → Head → Type 0
IsHead l number bytes Whole = IsLabel bytes l number
IsHead l number bytes Part = BeginsLabel bytes l number

-- The byte at which a misfit is told: in the process, the seconds and the microseconds of the stamp, the host and the zone the field's
-- first byte, elsewhere its own.
abbrev pub told_at : ℕ → ℕ
told_at k =
    if nat_le 8 k && nat_lt k 12 then 8
    else (if nat_le 12 k && nat_lt k 16 then 12
    else (if nat_le 16 k && nat_lt k 20 then 16
    else (if nat_le 24 k && nat_lt k 88 then 24
    else (if nat_le 88 k && nat_lt k 128 then 88 else k))))

-- the refusal of bytes that don't go on like the label of this file
abbrev pub IsHeadFault : LabelFields → ℤ → List ℕ → FrameFault → Type 0
IsHeadFault l number bytes (Torn at) = ⊥
IsHeadFault l number bytes (Size at found) = ⊥
IsHeadFault l number bytes (Lengths at head tail) = ⊥
IsHeadFault l number bytes (Label at) = (k : ℕ) × (k < length bytes) × IsFirstMisfit (λ t. IsLabel t l number) bytes k × (at ≡ told_at k)
IsHeadFault l number bytes NoMemory = ⊥

-- a label of Meta
abbrev pub IsMetaLabel : List ℕ → Type 0
IsMetaLabel bytes = (l : LabelFields) × IsLabel bytes l (negsuc 0)

-- the label of Meta that the bytes are, or that they are the beginning of one
abbrev pub IsMetaHead : List ℕ → Option LabelFields → Type 0
IsMetaHead bytes (Some l) = IsLabel bytes l (negsuc 0)
IsMetaHead bytes None = (l : LabelFields) × BeginsLabel bytes l (negsuc 0)

-- the refusal of bytes with which no label of Meta begins; memory is asked for a label alone
abbrev pub IsMetaHeadFault : List ℕ → FrameFault → Type 0
IsMetaHeadFault bytes (Torn at) = ⊥
IsMetaHeadFault bytes (Size at found) = ⊥
IsMetaHeadFault bytes (Lengths at head tail) = ⊥
IsMetaHeadFault bytes (Label at) = (at < length bytes) × IsFirstMisfit IsMetaLabel bytes at
IsMetaHeadFault bytes NoMemory = IsMetaLabel bytes

-- a refusal that says that so many bytes are too few
abbrev pub ends_early : ℕ → FrameFault → Bool
ends_early count (Torn at) = false
ends_early count (Size at found) = false
ends_early count (Lengths at head tail) = false
ends_early count (Label at) = nat_eq at count
ends_early count NoMemory = false
