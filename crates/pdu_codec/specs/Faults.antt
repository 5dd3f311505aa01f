-- Why bytes are no PDU: the first that holds is told.
use Rattle.std.specs.Prelude.{◌≡◌, ◌≢◌, ◌⊎◌, ℕ, ◌+◌, ◌<◌, ◌≤◌, List, length, drop, Some, None}
use Rattle.pcp_base.specs.Fields.{number_at}
use Rattle.archive_frame.specs.Misfits.{IsFirstMisfit}
use Rattle.pdu_codec.specs.declared.fault.PduFault.{PduFault}
use Rattle.pdu_codec.specs.declared.fault.PduFault.TheVariants.{Length, Unknown, Body, NoMemory}
use Rattle.pdu_codec.specs.declared.pdu.Pdu.{Pdu}
use Rattle.pdu_codec.specs.declared.types.PduType.{PduType}
use Rattle.pdu_codec.specs.Types.{type_of_code}
use Rattle.pdu_codec.specs.Bodies.{body_of}

-- the first word is the number of the bytes, and they have a header
abbrev pub HasLength : List ℕ → Type 0
HasLength bytes = (12 ≤ length bytes) × (number_at bytes 0 ≡ length bytes)

abbrev pub IsLengthFault : List ℕ → ℕ → Type 0
IsLengthFault bytes found =
    ((length bytes < 4) × (found ≡ 0))
    ⊎ ((4 ≤ length bytes) × (found ≡ number_at bytes 0) × ((found ≢ length bytes) ⊎ (found < 12)))

-- the body of some PDU of a type
abbrev pub SomeBody : PduType → List ℕ → Type 0
SomeBody kind text = (p : Pdu) × body_of kind text p

-- Body tells the first byte behind the header that no body of this type has, or the end of bytes that are too few.
abbrev pub IsFault : List ℕ → PduFault → Type 0
IsFault bytes (Length found) = IsLengthFault bytes found
IsFault bytes (Unknown found) = HasLength bytes × (found ≡ number_at bytes 4) × (type_of_code found ≡ None)
IsFault bytes (Body at) = HasLength bytes × (kind : PduType) × (type_of_code (number_at bytes 4) ≡ Some kind)
    × (k : ℕ) × (at ≡ 12 + k) × IsFirstMisfit (SomeBody kind) (drop 12 bytes) k
IsFault bytes NoMemory = ⊥

-- want of memory says nothing of the bytes
abbrev pub IsPduFault : List ℕ → PduFault → Type 0
IsPduFault bytes NoMemory = Unit {0}
IsPduFault bytes e = IsFault bytes e
