-- What a block holds: bytes of its own, or a place among bytes that others hold too.
use Rattle.std.specs.Prelude.{◌+◌, ◌≤◌, length, take, drop}
use Rattle.pcp_base.specs.Typed.{TypedBytes}
use Rattle.pcp_base.specs.declared.block.Held.{Held}
use Rattle.pcp_base.specs.declared.block.Held.TheVariants.{Own, Within}

abbrev pub typed : Held → TypedBytes
typed (Own code bytes) = record { code = code; bytes = bytes }
typed (Within code size from shared) = record { code = code; bytes = take size (drop from shared) }

-- at most 16,777,211 bytes, and a place that lies whole in the others
abbrev pub IsHeld : Held → Type 0
IsHeld (Own code bytes) = length bytes ≤ 16777211
IsHeld (Within code size from shared) = (size ≤ 16777211) × (from + size ≤ length shared)
