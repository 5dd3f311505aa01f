-- Which number a value is, by the type code of its metric's description, if it has one: codes 0 and 1 in their set, 2 and 3 in
-- a block of 8 bytes. A value of another storage or length is none.
use Rattle.std.specs.Prelude.{ℕ, ℤ, pos, neg_ℤ, ◌≤ℤ◌, ◌==◌, if◌then◌else◌, List, length, Option, Some, None}
use Rattle.std.specs.Int.{w32, w64, cast_signed, from_be_bytes}

-- a value of 32 bits in its set
abbrev pub word_number : Option ℕ → ℕ → Option ℤ
word_number None word = None
word_number (Some code) word = if code == 0 then Some (cast_signed w32 word) else if code == 1 then Some (pos word) else None

-- the number of 64 bits, if the bytes are one
abbrev pub number_in : List ℕ → Option ℕ
number_in bytes = if length bytes == 8 then Some (from_be_bytes w64 bytes) else None

-- it under a code
abbrev pub coded_number : Option ℕ → ℕ → Option ℤ
coded_number None n = None
coded_number (Some code) n = if code == 2 then Some (cast_signed w64 n) else if code == 3 then Some (pos n) else None

abbrev pub coded_or_none : Option ℕ → Option ℕ → Option ℤ
coded_or_none code None = None
coded_or_none code (Some n) = coded_number code n

-- a value in a block
abbrev pub block_number : Option ℕ → List ℕ → Option ℤ
block_number code bytes = coded_or_none code (number_in bytes)

-- a number of 64 bits, with its sign or without one
abbrev pub IsLong : ℤ → Type 0
IsLong n = (neg_ℤ (pos 9223372036854775808) ≤ℤ n) × (n ≤ℤ pos 18446744073709551615)
