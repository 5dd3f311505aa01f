-- A number of 4 or 8 bytes is the same by either of two definitions: a sum of what each byte is worth, and a walk.
use Rattle.std.proofs.Common.{◌≡◌, ℕ, List, arith}
use Rattle.std.specs.Int.{w32, w64, from_be_bytes, from_le_bytes}
use Rattle.byteorder.specs.Endian.{big_number, little_number}

pub big_four : (bytes : List ℕ) → big_number 4 bytes ≡ from_be_bytes w32 bytes
big_four bytes = omega arith

pub big_eight : (bytes : List ℕ) → big_number 8 bytes ≡ from_be_bytes w64 bytes
big_eight bytes = omega arith

pub little_four : (bytes : List ℕ) → little_number 4 bytes ≡ from_le_bytes w32 bytes
little_four bytes = omega arith

pub little_eight : (bytes : List ℕ) → little_number 8 bytes ≡ from_le_bytes w64 bytes
little_eight bytes = omega arith
