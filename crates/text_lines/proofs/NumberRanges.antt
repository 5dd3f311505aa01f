-- What a number's word reads is in the number's range.
use Rattle.std.proofs.Common.{◌≡◌, ℕ, ℤ, pos, negsuc, neg_ℤ, zero, suc, ◌+◌, ◌-◌, ◌*◌, ◌^◌, ◌<◌, ◌≤◌, ◌==◌, ◌&&◌, true, cond, nat_lt, nat_le, List, [], ◌∷◌, length, codes, bytes_eq, sym, ap, ◌∙◌, subst, arith, lit<, mul-le-mul_right, mul_assoc, mul_comm, ltb-true, leb-true, eqb-true, Option, Some, None, IfSome}
use Rattle.std.specs.List.{list_all}
use mathlib.Core.Logic.{⊎_elim}
use Rattle.std.proofs.lemmas.Bool.{and_parts}
use Rattle.std.proofs.lemmas.Bool.Decides.{nat_tests}
use Rattle.std.proofs.Math.Nat.{pow-le-pow_right}
use Rattle.text_lines.specs.Laws.{IsInt32, IsWhole, TakesNumbers, TakesWideNumbers, TakesInts, TakesWhole, TakesHex, TakesOptionalNumbers, TakesOptionalInts}
use Rattle.text_lines.specs.Numbers.{◌>>=◌, below, number_of, number32, number64, is_digit, digits_value, digits_number, whole_number, int_of, int32, is_hex, hex_digit, hex_value, hex_number}
use Rattle.text_lines.specs.Words.{optional}
use Rattle.text_lines.proofs.Taking.{both_steps, passed, passed_to, either, same_some, takes_as}

below_range : (bound : ℕ) (o : Option ℕ) (n : ℕ) → below bound o ≡ Some n → n < bound
below_range bound None n e = cc
below_range bound (Some m) n e = let t = passed (nat_lt m bound) m n e in let l : m < bound = ltb-true m bound t.0 in omega (arith, t.1)

number32_range : (word : List ℕ) (n : ℕ) → number32 word ≡ Some n → n < 4294967296
unfolding number32
number32_range word n e = below_range 4294967296 (number_of word) n e

number64_range : (word : List ℕ) (n : ℕ) → number64 word ≡ Some n → n < 18446744073709551616
unfolding number64
number64_range word n e = below_range 18446744073709551616 (number_of word) n e

digit_low : (b : ℕ) → is_digit b ≡ true → b - 48 < 10
digit_low b h = grind (arith, nat_tests)

ten_times : (a p q : ℕ) → q ≡ 10 * p → 10 * a * p ≡ a * q
ten_times a p q e = ap (λ x. x * p) (mul_comm 10 a) ∙ mul_assoc a 10 p ∙ ap (λ x. a * x) (sym e)

-- digits behind others
digits_value_range : (before : ℕ) (word : List ℕ) → list_all is_digit word ≡ true → digits_value before word < (before + 1) * 10 ^ length word
digits_value_range before [] h = omega arith
digits_value_range before (b ∷ bs) h =
    let tests = and_parts (is_digit b) (list_all is_digit bs) h in
    let rest : digits_value (10 * before + (b - 48)) bs < (10 * before + (b - 48) + 1) * 10 ^ length bs = digits_value_range (10 * before + (b - 48)) bs tests.1 in
    let digit : b - 48 < 10 = digit_low b tests.0 in
    let wider : (10 * before + (b - 48) + 1) * 10 ^ length bs ≤ (10 * (before + 1)) * 10 ^ length bs = mul-le-mul_right (10 ^ length bs) (omega arith) in
    let same : (10 * (before + 1)) * 10 ^ length bs ≡ (before + 1) * 10 ^ suc (length bs) = ten_times (before + 1) (10 ^ length bs) (10 ^ suc (length bs)) (omega arith) in
    omega arith

digits_range : (word : List ℕ) (n : ℕ) → length word ≤ 20 → digits_number word ≡ Some n → n < 10 ^ 20
digits_range word n l e =
    let t = passed (list_all is_digit word) (digits_value 0 word) n e in
    let found : digits_value 0 word < 1 * 10 ^ length word = digits_value_range 0 word t.0 in
    let high : 10 ^ length word ≤ 10 ^ 20 = pow-le-pow_right {n = 10} (lit< tt) {i = length word} {j = 20} l in
    omega (arith, t.1)

pub number_range : (word : List ℕ) (n : ℕ) → number_of word ≡ Some n → n < 10 ^ 20
number_range [] n e = cc
number_range (b ∷ bs) n e =
    ⊎_elim
    (λ t. let s = passed (length bs == 0) 0 n t.1 in omega (arith, s.1))
    (λ t. let s = passed_to (nat_le (length (b ∷ bs)) 20) (digits_number (b ∷ bs)) n t.1 in digits_range (b ∷ bs) n (leb-true (length (b ∷ bs)) 20 s.0) s.1)
    (either (b == 48) (cond (length bs == 0) (Some 0) None) (cond (nat_le (length (b ∷ bs)) 20) (digits_number (b ∷ bs)) None) (Some n) e)

negative_range : (n : ℕ) → n < 10 ^ 20 → IsWhole (neg_ℤ (pos n))
negative_range zero h = omega arith
negative_range (suc n) h = h

pub whole_range : (word : List ℕ) (n : ℤ) → whole_number word ≡ Some n → IsWhole n
unfolding whole_number
whole_range [] n e = cc
whole_range (b ∷ bs) n e =
    ⊎_elim
    (λ t. let (m, reads, is) = both_steps (number_of bs) (λ m. Some (neg_ℤ (pos m))) n t.1 in subst IsWhole (same_some (neg_ℤ (pos m)) n is) (negative_range m (number_range bs m reads)))
    (λ t. let (m, reads, is) = both_steps (number_of (b ∷ bs)) (λ m. Some (pos m)) n t.1 in subst IsWhole (same_some (pos m) n is) (number_range (b ∷ bs) m reads))
    (either (b == 45) (number_of bs >>= (λ m. Some (neg_ℤ (pos m)))) (number_of (b ∷ bs) >>= (λ m. Some (pos m))) (Some n) e)

int_range : (m n : ℤ) → int_of m ≡ Some n → IsInt32 n
int_range (pos m) n e = let t = passed (nat_lt m 2147483648) (pos m) n e in subst IsInt32 t.1 (ltb-true m 2147483648 t.0)
int_range (negsuc m) n e = let t = passed (nat_lt m 2147483648) (negsuc m) n e in subst IsInt32 t.1 (ltb-true m 2147483648 t.0)

int32_range : (word : List ℕ) (n : ℤ) → int32 word ≡ Some n → IsInt32 n
unfolding int32
int32_range word n e = let (m, reads, is) = both_steps (whole_number word) int_of n e in int_range m n is

digit_range : (b : ℕ) → is_hex b ≡ true → hex_digit b < 16
digit_range b h = grind (arith, nat_tests)

scaled : (a p q : ℕ) → q ≡ 16 * p → 16 * a * p ≡ a * q
scaled a p q e = ap (λ x. x * p) (mul_comm 16 a) ∙ mul_assoc a 16 p ∙ ap (λ x. a * x) (sym e)

-- digits behind others
hex_value_range : (before : ℕ) (word : List ℕ) → list_all is_hex word ≡ true → hex_value before word < (before + 1) * 16 ^ length word
hex_value_range before [] h = omega arith
hex_value_range before (b ∷ bs) h =
    let tests = and_parts (is_hex b) (list_all is_hex bs) h in
    let rest : hex_value (16 * before + hex_digit b) bs < (16 * before + hex_digit b + 1) * 16 ^ length bs = hex_value_range (16 * before + hex_digit b) bs tests.1 in
    let digit : hex_digit b < 16 = digit_range b tests.0 in
    let wider : (16 * before + hex_digit b + 1) * 16 ^ length bs ≤ (16 * (before + 1)) * 16 ^ length bs = mul-le-mul_right (16 ^ length bs) (omega arith) in
    let same : (16 * (before + 1)) * 16 ^ length bs ≡ (before + 1) * 16 ^ suc (length bs) = scaled (before + 1) (16 ^ length bs) (16 ^ suc (length bs)) (omega arith) in
    omega arith

pub hex_range : (count : ℕ) (word : List ℕ) (n : ℕ) → hex_number count word ≡ Some n → n < 16 ^ count
unfolding hex_number
hex_range count word n e =
    let t = passed (length word == count && list_all is_hex word) (hex_value 0 word) n e in
    let tests = and_parts (length word == count) (list_all is_hex word) t.0 in
    let found : hex_value 0 word < 1 * 16 ^ length word = hex_value_range 0 word tests.1 in
    subst (λ x. x < 16 ^ count) t.1 (subst (λ k. hex_value 0 word < 16 ^ k) (eqb-true (length word) count tests.0) (omega arith))

optional_range : {X : Type 0} (P : X → Type 0) (read : List ℕ → Option X) → ((word : List ℕ) (x : X) → read word ≡ Some x → P x) → (word : List ℕ) (x : Option X) → optional read word ≡ Some x → IfSome x P
unfolding optional
optional_range P read p word x e =
    ⊎_elim (λ t. subst (λ y. IfSome y P) (same_some None x t.1) tt)
    (λ t. let (y, reads, is) = both_steps (read word) (λ y. Some (Some y)) x t.1 in subst (λ z. IfSome z P) (same_some (Some y) x is) (p word y reads))
    (either (bytes_eq word (codes "-")) (Some None) (read word >>= (λ y. Some (Some y))) (Some x) e)

pub takes_numbers : TakesNumbers
takes_numbers = takes_as (λ n. n < 4294967296) number32 number32_range

pub takes_wide_numbers : TakesWideNumbers
takes_wide_numbers = takes_as (λ n. n < 18446744073709551616) number64 number64_range

pub takes_ints : TakesInts
takes_ints = takes_as IsInt32 int32 int32_range

pub takes_whole : TakesWhole
takes_whole = takes_as IsWhole whole_number whole_range

pub takes_hex : TakesHex
takes_hex count = takes_as (λ n. n < 16 ^ count) (hex_number count) (hex_range count)

pub takes_optional_numbers : TakesOptionalNumbers
takes_optional_numbers = takes_as (λ n. IfSome n (λ x. x < 4294967296)) (optional number32) (optional_range (λ x. x < 4294967296) number32 number32_range)

pub takes_optional_ints : TakesOptionalInts
takes_optional_ints = takes_as (λ n. IfSome n IsInt32) (optional int32) (optional_range IsInt32 int32 int32_range)
