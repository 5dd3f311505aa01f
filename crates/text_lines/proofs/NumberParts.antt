-- A part that is a number is read again.
use Rattle.std.proofs.Common.{◌≡◌, ◌≢◌, ℕ, ℤ, pos, negsuc, suc, ◌^◌, ◌<◌, cond, false, List, [], ◌∷◌, codes, bytes_eq, refl, ap, ◌∙◌, arith, decimal, Option, Some, None}
use Rattle.std.specs.Fmt.{signed_decimal}
use Rattle.std.proofs.lemmas.List.Elements.{All-nil, All-cons}
use Rattle.text_lines.specs.Laws.{NumberIsRead, WideNumberIsRead, IsWhole, IntIsRead, WholeIsRead, HexIsRead, OptionalNumberIsRead, OptionalIntIsRead}
use Rattle.text_lines.specs.Numbers.{◌>>=◌, number32, number64, whole_number, int32, hex_number}
use Rattle.text_lines.specs.Spelling.{hex_text, number_part, int_part, hex_part}
use Rattle.text_lines.specs.Words.{optional}
use Rattle.text_lines.proofs.Decimals.{number32-decimal, number64-decimal, decimal_is, whole-decimal, whole_of_int, int32-decimal, is_there, is_there_signed}
use Rattle.text_lines.proofs.Hexes.{hex_number-text, hex_is, glyph_is}
use Rattle.text_lines.proofs.Splitting.{IsWord, take_as_of}

pub word-decimal : (n : ℕ) → n < 10 ^ 20 → IsWord (decimal n)
word-decimal n h = decimal_is (λ b. b ≢ 32) (λ b low high e. omega arith) n h

word-minus : (n : ℕ) → n < 10 ^ 20 → IsWord (45 ∷ decimal n)
word-minus n h = All-cons (λ b. b ≢ 32) 45 (decimal n) (λ e. omega arith) (word-decimal n h)

pub word-whole : (n : ℤ) → IsWhole n → IsWord (signed_decimal n)
word-whole (pos n) h = word-decimal n h
word-whole (negsuc n) h = word-minus (suc n) h

pub word-hex : (count n : ℕ) → IsWord (hex_text count n)
word-hex count n = hex_is (λ b. b ≢ 32) (λ d h e. omega (arith, glyph_is d h)) count n

word-missing : IsWord (codes "-")
word-missing = All-cons (λ b. b ≢ 32) 45 [] (λ e. omega arith) (All-nil (λ b. b ≢ 32))

-- a part that is there
optional_of : {X : Type 0} (read : List ℕ → Option X) (word : List ℕ) (x : X) → bytes_eq word (codes "-") ≡ false → read word ≡ Some x → optional read word ≡ Some (Some x)
unfolding optional
optional_of read word x there r = ap (λ q. cond q (Some None) (read word >>= (λ y. Some (Some y)))) there ∙ ap (λ o. o >>= (λ y. Some (Some y))) r

missing_of : {X : Type 0} (read : List ℕ → Option X) → optional read (codes "-") ≡ Some None
unfolding optional
missing_of read = refl

pub number_is_read : NumberIsRead
unfolding number_part
number_is_read n more h e = take_as_of number32 (decimal n) more n (word-decimal n (omega arith)) e (number32-decimal n h)

pub wide_number_is_read : WideNumberIsRead
unfolding number_part
wide_number_is_read n more h e = take_as_of number64 (decimal n) more n (word-decimal n (omega arith)) e (number64-decimal n h)

pub int_is_read : IntIsRead
unfolding int_part
int_is_read n more h e = take_as_of int32 (signed_decimal n) more n (word-whole n (whole_of_int n h)) e (int32-decimal n h)

pub whole_is_read : WholeIsRead
unfolding int_part
whole_is_read n more h e = take_as_of whole_number (signed_decimal n) more n (word-whole n h) e (whole-decimal n h)

pub hex_is_read : HexIsRead
unfolding hex_part
hex_is_read count n more h e = take_as_of (hex_number count) (hex_text count n) more n (word-hex count n) e (hex_number-text count n h)

pub optional_number_is_read : OptionalNumberIsRead
unfolding number_part
optional_number_is_read None more h e = take_as_of (optional number32) (codes "-") more None word-missing e (missing_of number32)
optional_number_is_read (Some n) more h e =
    take_as_of (optional number32) (decimal n) more (Some n) (word-decimal n (omega arith)) e (optional_of number32 (decimal n) n (is_there n (omega arith)) (number32-decimal n h))

pub optional_int_is_read : OptionalIntIsRead
unfolding int_part
optional_int_is_read None more h e = take_as_of (optional int32) (codes "-") more None word-missing e (missing_of int32)
optional_int_is_read (Some n) more h e =
    take_as_of (optional int32) (signed_decimal n) more (Some n) (word-whole n (whole_of_int n h)) e (optional_of int32 (signed_decimal n) n (is_there_signed n h) (int32-decimal n h))
