-- A decimal number that is written is read again.
use Rattle.std.proofs.Common.{rules, ◌≡◌, ℕ, ℤ, pos, negsuc, neg_ℤ, zero, suc, ◌+◌, ◌%◌, ◌^◌, ◌<◌, ◌≤◌, ◌==◌, true, false, cond, nat_le, List, [], ◌∷◌, length, get_or, codes, bytes_eq, refl, ap, ◌∙◌, ne_eqb, le-leb, lt-ltb, arith, length-append, decimal, Some, None, All}
use Rattle.std.specs.List.{list_all}
use Rattle.std.specs.Fmt.{signed_decimal}
use Rattle.std.proofs.lemmas.Bool.{and_left}
use Rattle.std.proofs.lemmas.List.{get_or_append_left}
use Rattle.std.proofs.lemmas.Fmt.{decimal_digit, decimal_by_steps_wide, length-decimal-le_wide, decimal_is_IsNumeral_wide}
use Rattle.std.proofs.lemmas.List.Elements.{All-from_get_or}
use Rattle.std.proofs.lemmas.Str.Parse.{IsNumeralModel, numerals_by_fold, digit_at}
use lib.Signed.{mag}
use Rattle.text_lines.specs.Numbers.{◌>>=◌, is_digit, digits_value, digits_number, number_of, below, number32, number64, whole_number, int_of, int32}
use Rattle.text_lines.specs.Laws.{IsWhole}

own : IsNumeralModel (λ ds. list_all is_digit ds ≡ true) (digits_value 0)
own = numerals_by_fold _ (search rules) digits_value (search rules)

-- digits that no zero begins
number_of_digits : (ds : List ℕ) → 48 < get_or ds 0 0 → length ds ≤ 20 → list_all is_digit ds ≡ true → number_of ds ≡ Some (digits_value 0 ds)
number_of_digits [] first short all = absurd (omega arith)
number_of_digits (d ∷ ds) first short all =
    ap (λ q. cond q (cond (length ds == 0) (Some 0) None) (cond (nat_le (length (d ∷ ds)) 20) (digits_number (d ∷ ds)) None)) (ne_eqb d 48 (λ e. omega arith))
    ∙ ap (λ q. cond q (digits_number (d ∷ ds)) None) (le-leb (length (d ∷ ds)) 20 short)
    ∙ ap (λ q. cond q (Some (digits_value 0 (d ∷ ds))) None) all

-- a digit other than zero begins what is written of a number other than zero
first_decimal : (n : ℕ) → 0 < n → n < 10 ^ 20 → 48 < get_or (decimal n) 0 0
first_decimal n some small =
    (decimal_by_steps_wide (λ m ds. (0 < length ds) × (0 < m → 48 < get_or ds 0 0)) (λ m l. (omega arith, λ a. omega arith))
    (λ m ds l h. (omega (arith, length-append ds ((48 + m % 10) ∷ [])), λ a. omega (arith, get_or_append_left ds ((48 + m % 10) ∷ []) 0 0 h.0, h.1 (omega arith)))) n (omega arith)).1 some

pub decimal_nonempty : (n : ℕ) → n < 10 ^ 20 → 0 < length (decimal n)
decimal_nonempty n h = (decimal_is_IsNumeral_wide n (omega arith)).0.0

pub number_of-decimal : (n : ℕ) → n < 10 ^ 20 → number_of (decimal n) ≡ Some n
number_of-decimal zero h = ap number_of (decimal_digit 0 (omega arith))
number_of-decimal (suc n) h =
    let numeral = decimal_is_IsNumeral_wide (suc n) (omega arith) in
    number_of_digits (decimal (suc n)) (first_decimal (suc n) (omega arith) h) (length-decimal-le_wide 20 (suc n) (omega arith) h (omega arith)) (own.from (decimal (suc n)) numeral.0.1)
    ∙ ap Some (own.same (decimal (suc n)) numeral.0.1 ∙ numeral.1)

pub number32-decimal : (n : ℕ) → n < 4294967296 → number32 (decimal n) ≡ Some n
unfolding number32
number32-decimal n h = ap (below 4294967296) (number_of-decimal n (omega arith)) ∙ ap (λ q. cond q (Some n) None) (lt-ltb n 4294967296 h)

pub number64-decimal : (n : ℕ) → n < 18446744073709551616 → number64 (decimal n) ≡ Some n
unfolding number64
number64-decimal n h = ap (below 18446744073709551616) (number_of-decimal n (omega arith)) ∙ ap (λ q. cond q (Some n) None) (lt-ltb n 18446744073709551616 h)

-- each byte is a digit
digit_of : (n i : ℕ) → n < 10 ^ 20 → i < length (decimal n) → (48 ≤ get_or (decimal n) i 0) × (get_or (decimal n) i 0 ≤ 57)
digit_of n i h l = digit_at (decimal n) i (decimal_is_IsNumeral_wide n (omega arith)).0.1 l

pub decimal_is : (P : ℕ → Type 0) → ((b : ℕ) → 48 ≤ b → b ≤ 57 → P b) → (n : ℕ) → n < 10 ^ 20 → All P (decimal n)
decimal_is P p n h = All-from_get_or P (decimal n) 0 (λ i l. p _ (digit_of n i h l).0 (digit_of n i h l).1)

first_digit : (n : ℕ) → n < 10 ^ 20 → 48 ≤ get_or (decimal n) 0 0
first_digit n h = (digit_of n 0 h (decimal_nonempty n h)).0

-- a word that no `-` begins, and one that it begins
whole_plain : (ds : List ℕ) (n : ℕ) → 48 ≤ get_or ds 0 0 → number_of ds ≡ Some n → whole_number ds ≡ Some (pos n)
unfolding whole_number
whole_plain [] n first e = absurd (omega arith)
whole_plain (d ∷ ds) n first e =
    ap (λ q. cond q (number_of ds >>= (λ m. Some (neg_ℤ (pos m)))) (number_of (d ∷ ds) >>= (λ m. Some (pos m)))) (ne_eqb d 45 (λ x. omega arith))
    ∙ ap (λ o. o >>= (λ m. Some (pos m))) e

whole_minus : (ds : List ℕ) (n : ℕ) → number_of ds ≡ Some n → whole_number (45 ∷ ds) ≡ Some (neg_ℤ (pos n))
unfolding whole_number
whole_minus ds n e = ap (λ o. o >>= (λ m. Some (neg_ℤ (pos m)))) e

pub whole-decimal : (n : ℤ) → IsWhole n → whole_number (signed_decimal n) ≡ Some n
whole-decimal (pos n) h = whole_plain (decimal n) n (first_digit n h) (number_of-decimal n h)
whole-decimal (negsuc n) h = whole_minus (decimal (suc n)) (suc n) (number_of-decimal (suc n) h)

pub whole_of_int : (n : ℤ) → mag n < 2147483648 → IsWhole n
whole_of_int (pos n) h = omega arith
whole_of_int (negsuc n) h = omega arith

int_of-int : (n : ℤ) → mag n < 2147483648 → int_of n ≡ Some n
int_of-int (pos n) h = ap (λ q. cond q (Some (pos n)) None) (lt-ltb n 2147483648 h)
int_of-int (negsuc n) h = ap (λ q. cond q (Some (negsuc n)) None) (lt-ltb n 2147483648 h)

pub int32-decimal : (n : ℤ) → mag n < 2147483648 → int32 (signed_decimal n) ≡ Some n
unfolding int32
int32-decimal n h = ap (λ o. o >>= int_of) (whole-decimal n (whole_of_int n h)) ∙ int_of-int n h

-- a number isn't the `-` of a missing part
not_missing : (ds : List ℕ) → 48 ≤ get_or ds 0 0 → bytes_eq ds (codes "-") ≡ false
not_missing [] first = absurd (omega arith)
not_missing (d ∷ ds) first = and_left _ _ (ne_eqb d 45 (λ e. omega arith))

minus_more : (ds : List ℕ) → 0 < length ds → bytes_eq (45 ∷ ds) (codes "-") ≡ false
minus_more [] some = absurd (omega arith)
minus_more (d ∷ ds) some = refl

pub is_there : (n : ℕ) → n < 10 ^ 20 → bytes_eq (decimal n) (codes "-") ≡ false
is_there n h = not_missing (decimal n) (first_digit n h)

pub is_there_signed : (n : ℤ) → mag n < 2147483648 → bytes_eq (signed_decimal n) (codes "-") ≡ false
is_there_signed (pos n) h = is_there n (omega arith)
is_there_signed (negsuc n) h = minus_more (decimal (suc n)) (decimal_nonempty (suc n) (omega arith))
