-- Fixed fields: archives and PDUs are big-endian, images little-endian.
use Rattle.std.specs.Prelude.{ℕ, ◌+◌, List, length, take, drop, Option, Some, None, if◌then◌else◌, nat_lt}
use Rattle.std.specs.Int.{Width, w32, byte_len, from_be_bytes, from_le_bytes}

-- the number that stands at an offset, where it lies whole in the bytes
abbrev pub be_field : Width → ℕ → List ℕ → Option ℕ
be_field w at bytes =
    if nat_lt (length bytes) (at + byte_len w) then None else Some (from_be_bytes w (take (byte_len w) (drop at bytes)))

abbrev pub le_field : Width → ℕ → List ℕ → Option ℕ
le_field w at bytes =
    if nat_lt (length bytes) (at + byte_len w) then None else Some (from_le_bytes w (take (byte_len w) (drop at bytes)))

-- the number of the big-endian word at an offset, where it lies whole in the bytes
abbrev pub number_at : List ℕ → ℕ → ℕ
number_at bytes at = from_be_bytes w32 (take 4 (drop at bytes))
