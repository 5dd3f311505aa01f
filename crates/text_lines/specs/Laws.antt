-- What is written of a part is read again, with whatever stands behind it, and holds no line feed; what is read of one
-- may be written.
use Rattle.std.specs.Prelude.{◌≡◌, ◌≢◌, ℕ, ℤ, pos, negsuc, suc, ◌<◌, ◌^◌, List, [], ◌∷◌, ◌++◌, Option, Some, IfSome, All}
use lib.Signed.{mag}
use Rattle.text_lines.specs.Numbers.{number32, number64, whole_number, int32, hex_number}
use Rattle.text_lines.specs.Words.{take_as, optional, take_text, take_help}
use Rattle.text_lines.specs.Spelling.{number_part, int_part, text_part, hex_part, optional_number_part, optional_int_part, help_part}

-- a byte of a line, which isn't the line feed
abbrev pub IsLineByte : ℕ → Type 0
IsLineByte b = (b < 256) × (b ≢ 10)

-- a byte of a text, which isn't zero
abbrev pub IsTextByte : ℕ → Type 0
IsTextByte b = (0 < b) × (b < 256)

-- a signed number of 32 bits
abbrev pub IsInt32 : ℤ → Type 0
IsInt32 n = mag n < 2147483648

-- a whole number of at most 20 digits
abbrev pub IsWhole : ℤ → Type 0
IsWhole (pos n) = n < 10 ^ 20
IsWhole (negsuc n) = suc n < 10 ^ 20

-- A word ends here: nothing is left, or a space comes.
abbrev pub EndsWord : List ℕ → Type 0
EndsWord [] = Unit {0}
EndsWord (b ∷ bs) = b ≡ 32

abbrev pub NumberIsRead : Type 0
NumberIsRead = (n : ℕ) (more : List ℕ) → n < 4294967296 → EndsWord more → take_as number32 (number_part n ++ more) ≡ Some (n, more)

abbrev pub WideNumberIsRead : Type 0
WideNumberIsRead = (n : ℕ) (more : List ℕ) → n < 18446744073709551616 → EndsWord more → take_as number64 (number_part n ++ more) ≡ Some (n, more)

abbrev pub IntIsRead : Type 0
IntIsRead = (n : ℤ) (more : List ℕ) → IsInt32 n → EndsWord more → take_as int32 (int_part n ++ more) ≡ Some (n, more)

abbrev pub WholeIsRead : Type 0
WholeIsRead = (n : ℤ) (more : List ℕ) → IsWhole n → EndsWord more → take_as whole_number (int_part n ++ more) ≡ Some (n, more)

abbrev pub HexIsRead : Type 0
HexIsRead = (count n : ℕ) (more : List ℕ) → n < 16 ^ count → EndsWord more → take_as (hex_number count) (hex_part count n ++ more) ≡ Some (n, more)

abbrev pub OptionalNumberIsRead : Type 0
OptionalNumberIsRead = (n : Option ℕ) (more : List ℕ) → IfSome n (λ x. x < 4294967296) → EndsWord more → take_as (optional number32) (optional_number_part n ++ more) ≡ Some (n, more)

abbrev pub OptionalIntIsRead : Type 0
OptionalIntIsRead = (n : Option ℤ) (more : List ℕ) → IfSome n IsInt32 → EndsWord more → take_as (optional int32) (optional_int_part n ++ more) ≡ Some (n, more)

-- behind a quoted text anything may stand
abbrev pub TextIsRead : Type 0
TextIsRead = (text more : List ℕ) → All IsTextByte text → take_text (text_part text ++ more) ≡ Some (text, more)

abbrev pub HelpIsRead : Type 0
HelpIsRead = (help : Option (List ℕ)) (more : List ℕ) → IfSome help (All IsTextByte) → take_help (help_part help ++ more) ≡ Some (help, more)

-- What is written holds no line feed.
abbrev pub NumberIsInLine : Type 0
NumberIsInLine = (n : ℕ) → n < 18446744073709551616 → All IsLineByte (number_part n)

abbrev pub IntIsInLine : Type 0
IntIsInLine = (n : ℤ) → IsInt32 n → All IsLineByte (int_part n)

abbrev pub WholeIsInLine : Type 0
WholeIsInLine = (n : ℤ) → IsWhole n → All IsLineByte (int_part n)

abbrev pub HexIsInLine : Type 0
HexIsInLine = (count n : ℕ) → All IsLineByte (hex_part count n)

abbrev pub OptionalNumberIsInLine : Type 0
OptionalNumberIsInLine = (n : Option ℕ) → IfSome n (λ x. x < 4294967296) → All IsLineByte (optional_number_part n)

abbrev pub OptionalIntIsInLine : Type 0
OptionalIntIsInLine = (n : Option ℤ) → IfSome n IsInt32 → All IsLineByte (optional_int_part n)

abbrev pub TextIsInLine : Type 0
TextIsInLine = (text : List ℕ) → All IsTextByte text → All IsLineByte (text_part text)

abbrev pub HelpIsInLine : Type 0
HelpIsInLine = (help : Option (List ℕ)) → IfSome help (All IsTextByte) → All IsLineByte (help_part help)

-- What is taken of a line's bytes is of this kind, and leaves bytes of a line.
abbrev pub TakesOnly : {X : Type 0} → (X → Type 0) → (List ℕ → Option (X × List ℕ)) → Type 0
TakesOnly {X} P taken = (bytes left : List ℕ) (x : X) → All IsLineByte bytes → taken bytes ≡ Some (x, left) → P x × All IsLineByte left

abbrev pub TakesNumbers : Type 0
TakesNumbers = TakesOnly (λ n. n < 4294967296) (take_as number32)

abbrev pub TakesWideNumbers : Type 0
TakesWideNumbers = TakesOnly (λ n. n < 18446744073709551616) (take_as number64)

abbrev pub TakesInts : Type 0
TakesInts = TakesOnly IsInt32 (take_as int32)

abbrev pub TakesWhole : Type 0
TakesWhole = TakesOnly IsWhole (take_as whole_number)

abbrev pub TakesHex : Type 0
TakesHex = (count : ℕ) → TakesOnly (λ n. n < 16 ^ count) (take_as (hex_number count))

abbrev pub TakesOptionalNumbers : Type 0
TakesOptionalNumbers = TakesOnly (λ n. IfSome n (λ x. x < 4294967296)) (take_as (optional number32))

abbrev pub TakesOptionalInts : Type 0
TakesOptionalInts = TakesOnly (λ n. IfSome n IsInt32) (take_as (optional int32))

abbrev pub TakesTexts : Type 0
TakesTexts = TakesOnly (All IsTextByte) take_text

abbrev pub TakesHelps : Type 0
TakesHelps = TakesOnly (λ help. IfSome help (All IsTextByte)) take_help
