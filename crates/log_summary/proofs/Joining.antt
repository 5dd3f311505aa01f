-- What numbers come to, part by part, and that it doesn't matter in which parts they are joined.
use Rattle.std.proofs.Common.{◌≡◌, ℕ, ◌+◌, ◌-◌, ◌^◌, ℤ, ◌+ℤ◌, FitsSigned, min, sym, ap, ◌∙◌, arith}
use Rattle.std.specs.Int.{w128, int_min, int_max, int_wrap, cast_signed, cast_unsigned}
use Rattle.std.proofs.lemmas.Int.{ints, int_wrap-add_left, int_wrap-add_right, clamps, to_z-of_z}
use Rattle.log_summary.specs.declared.tally.Tally.{Tally}
use Rattle.log_summary.specs.Tallies.{joined}

-- a choice of two numbers in 128 bits
pub chosen : (f : ℤ → ℤ → ℤ) (r a b : ℤ) → FitsSigned w128 r → FitsSigned w128 a → FitsSigned w128 b
    → r ≡ f (cast_signed w128 (cast_unsigned w128 a)) (cast_signed w128 (cast_unsigned w128 b)) → cast_signed w128 (cast_unsigned w128 r) ≡ f a b
chosen f r a b fits one other is = to_z-of_z w128 r fits ∙ is ∙ (λ i. f (to_z-of_z w128 a one i) (to_z-of_z w128 b other i))

pub joins : (a b : Tally) (count : ℕ) (least greatest sum : ℤ) → count ≡ min (a.count + b.count) (2 ^ 64 - 1) → least ≡ int_min a.least b.least → greatest ≡ int_max a.greatest b.greatest → sum ≡ int_wrap w128 (a.sum +ℤ b.sum)
    → ◌≡◌ {A = Tally} record { count = count; least = least; greatest = greatest; sum = sum; last = b.last } (joined a b)
joins a b count least greatest sum p q r s = λ i. record { count = p i; least = q i; greatest = r i; sum = s i; last = b.last }

min_assoc : (a b c : ℤ) → int_min (int_min a b) c ≡ int_min a (int_min b c)
min_assoc a b c = omega (arith, ints, clamps)

max_assoc : (a b c : ℤ) → int_max (int_max a b) c ≡ int_max a (int_max b c)
max_assoc a b c = omega (arith, ints, clamps)

add_assoc_z : (a b c : ℤ) → (a +ℤ b) +ℤ c ≡ a +ℤ (b +ℤ c)
add_assoc_z a b c = omega (arith, ints)

sum_assoc : (a b c : ℤ) → int_wrap w128 (int_wrap w128 (a +ℤ b) +ℤ c) ≡ int_wrap w128 (a +ℤ int_wrap w128 (b +ℤ c))
sum_assoc a b c = int_wrap-add_left w128 (a +ℤ b) c ∙ ap (int_wrap w128) (add_assoc_z a b c) ∙ sym (int_wrap-add_right w128 a (b +ℤ c))

count_assoc : (a b c m : ℕ) → min (min (a + b) m + c) m ≡ min (a + min (b + c) m) m
count_assoc a b c m = omega arith

pub joined_assoc : (a b c : Tally) → joined (joined a b) c ≡ joined a (joined b c)
joined_assoc a b c = λ i. record {
  count = count_assoc a.count b.count c.count (2 ^ 64 - 1) i;
  least = min_assoc a.least b.least c.least i;
  greatest = max_assoc a.greatest b.greatest c.greatest i;
  sum = sum_assoc a.sum b.sum c.sum i;
  last = c.last;
}
