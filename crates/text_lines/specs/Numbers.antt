-- Numbers as words: decimal ones are `0`, or a digit from 1 to 9 and further digits, of at most 20; where negative
-- ones are allowed a `-` may stand before them, and whoever knows what the number is for looks at its range. Hexadecimal ones have a fixed number of digits.
use Rattle.std.specs.Prelude.{ℕ, ℤ, pos, neg_ℤ, ◌+◌, ◌-◌, ◌*◌, Bool, ◌&&◌, ◌||◌, ◌==◌, nat_le, nat_lt, int_lt, if◌then◌else◌, List, [], ◌∷◌, length, Option, Some, None}
use Rattle.std.specs.List.{list_all}

infixl 10 ◌>>=◌
abbrev pub ◌>>=◌ : {A B : Type 0} → Option A → (A → Option B) → Option B
(Some x) >>= f = f x
None >>= f = None

abbrev pub is_digit : ℕ → Bool
is_digit b = nat_le 48 b && nat_le b 57

-- the value of digits that stand behind others
abbrev pub digits_value : ℕ → List ℕ → ℕ
digits_value before [] = before
digits_value before (b ∷ bs) = digits_value (10 * before + (b - 48)) bs

abbrev pub digits_number : List ℕ → Option ℕ
digits_number digits = if list_all is_digit digits then Some (digits_value 0 digits) else None

abbrev pub number_of : List ℕ → Option ℕ
number_of [] = None
number_of (b ∷ bs) =
    if b == 48 then (if length bs == 0 then Some 0 else None) else
    if nat_le (length (b ∷ bs)) 20 then digits_number (b ∷ bs) else None

-- a number that has to be below a bound
abbrev pub below : ℕ → Option ℕ → Option ℕ
below bound None = None
below bound (Some n) = if nat_lt n bound then Some n else None

-- numbers of 32 and of 64 bits
unfoldable pub number32 : List ℕ → Option ℕ
number32 word = below 4294967296 (number_of word)

unfoldable pub number64 : List ℕ → Option ℕ
number64 word = below 18446744073709551616 (number_of word)

-- a whole number, before whose digits a `-` may stand; `-0` is 0
unfoldable pub whole_number : List ℕ → Option ℤ
whole_number [] = None
whole_number (b ∷ bs) =
    if b == 45 then number_of bs >>= (λ n. Some (neg_ℤ (pos n))) else number_of (b ∷ bs) >>= (λ n. Some (pos n))

-- a whole number of 32 bits and its sign
abbrev pub int_of : ℤ → Option ℤ
int_of n = if int_lt n (pos 2147483648) then (if int_lt (neg_ℤ (pos 2147483649)) n then Some n else None) else None

unfoldable pub int32 : List ℕ → Option ℤ
int32 word = whole_number word >>= int_of

-- hexadecimal digits, of lower case and of both cases
abbrev pub is_low_hex : ℕ → Bool
is_low_hex b = is_digit b || (nat_le 97 b && nat_le b 102)

abbrev pub is_hex : ℕ → Bool
is_hex b = is_low_hex b || (nat_le 65 b && nat_le b 70)

abbrev pub hex_digit : ℕ → ℕ
hex_digit b = if nat_le b 57 then b - 48 else if nat_le b 70 then b - 55 else b - 87

-- the value of hexadecimal digits that stand behind others
abbrev pub hex_value : ℕ → List ℕ → ℕ
hex_value before [] = before
hex_value before (b ∷ bs) = hex_value (16 * before + hex_digit b) bs

-- the number of so many hexadecimal digits
unfoldable pub hex_number : ℕ → List ℕ → Option ℕ
hex_number count word = if length word == count && list_all is_hex word then Some (hex_value 0 word) else None
