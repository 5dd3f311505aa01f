-- Numbers and how they are printed.
use Rattle.std.proofs.Common.{◌≡◌, ℕ, ℤ, pos, Bool, true, false, ◌==◌, List, Option, Some, None, refl, ap}
use Rattle.std.specs.Prelude.{if◌then◌else◌}
use Rattle.std.specs.Fmt.{decimal, signed_decimal}
use Rattle.std.specs.Int.{w32, w64, cast_signed, to_be_bytes}
use Rattle.pm_print.specs.Values.{before_zero, block_text, number_or, quoted_or, raw_text, signed_or, word_text}
use Rattle.log_summary.specs.Laws.{AreNumbersPrinted, printed_or}
use Rattle.log_summary.specs.Numbers.{block_number, coded_or_none, number_in, word_number}

words : (code : Option ℕ) (word : ℕ) → word_text code word ≡ printed_or (word_number code word) (to_be_bytes w32 word)
unfolding word_text raw_text
words None word = refl
words (Some code) word = by (code == 0) (code == 1)
  where
    by : (a b : Bool) → (if a then signed_decimal (cast_signed w32 word) else if b then decimal word else raw_text (to_be_bytes w32 word))
        ≡ printed_or (if a then Some (cast_signed w32 word) else if b then Some (pos word) else None) (to_be_bytes w32 word)
    by true b = refl
    by false true = refl
    by false false = refl

signed_printed : (bytes : List ℕ) (o : Option ℕ) → signed_or o bytes ≡ printed_or (coded_or_none (Some 2) o) bytes
signed_printed bytes None = refl
signed_printed bytes (Some n) = refl

unsigned_printed : (bytes : List ℕ) (o : Option ℕ) → number_or o bytes ≡ printed_or (coded_or_none (Some 3) o) bytes
unsigned_printed bytes None = refl
unsigned_printed bytes (Some n) = refl

signed : (bytes : List ℕ) → block_text (Some 2) bytes ≡ printed_or (block_number (Some 2) bytes) bytes
unfolding block_text
signed bytes = signed_printed bytes (number_in bytes)

unsigned : (bytes : List ℕ) → block_text (Some 3) bytes ≡ printed_or (block_number (Some 3) bytes) bytes
unfolding block_text
unsigned bytes = unsigned_printed bytes (number_in bytes)

never_some : (n : ℤ) → None ≡ Some n → ⊥
never_some n e = cc

inside : (a b : ℤ) → Some a ≡ Some b → a ≡ b
inside a b e = cc

block_by : (a b : Bool) (rest : List ℕ) (m : ℕ) (n : ℤ) → (if a then Some (cast_signed w64 m) else if b then Some (pos m) else None) ≡ Some n
    → (if a then signed_decimal (cast_signed w64 m) else if b then decimal m else rest) ≡ signed_decimal n
block_by true b rest m n e = ap signed_decimal (inside (cast_signed w64 m) n e)
block_by false true rest m n e = ap signed_decimal (inside (pos m) n e)
block_by false false rest m n e = absurd (never_some n e)

blocks : (code : Option ℕ) (bytes : List ℕ) (n : ℤ) → block_number code bytes ≡ Some n → block_text code bytes ≡ signed_decimal n
unfolding block_text
blocks None bytes n e = absurd (none (number_in bytes) e)
  where
    none : (o : Option ℕ) → coded_or_none None o ≡ Some n → ⊥
    none None h = never_some n h
    none (Some m) h = never_some n h
blocks (Some code) bytes n e = by (number_in bytes) e
  where
    rest : List ℕ
    rest = if code == 6 then quoted_or (before_zero bytes) bytes else raw_text bytes

    by : (o : Option ℕ) → coded_or_none (Some code) o ≡ Some n → (if code == 2 then signed_or o bytes else if code == 3 then number_or o bytes else rest) ≡ signed_decimal n
    by None h = absurd (never_some n h)
    by (Some m) h = block_by (code == 2) (code == 3) rest m n h

pub are_printed : AreNumbersPrinted
are_printed = record { words = words; blocks = blocks; signed = signed; unsigned = unsigned }
