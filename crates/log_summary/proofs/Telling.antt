-- What a table tells of a metric's instance is what its values come to, all together.
use Rattle.std.proofs.Common.{◌≡◌, ◌+◌, ◌-◌, ◌^◌, ◌≤◌, ℤ, ◌+ℤ◌, min, Bool, true, false, cond, List, [], ◌∷◌, Option, Some, None, length, map, fold, refl, sym, ap, ◌∙◌, arith}
use Rattle.std.specs.Int.{w128, int_min, int_max, int_wrap}
use Rattle.std.proofs.lemmas.Int.{int_wrap-add_left, int_wrap-add_right}
use Rattle.std.specs.Map.{lookup}
use Rattle.log_summary.specs.declared.tally.Tally.{Tally}
use Rattle.log_summary.specs.Laws.{number_of, moment_after, values_at, all_told, told}
use Rattle.log_summary.specs.Tallies.{single, joined}
use Rattle.log_summary.specs.Tables.{Key, Rows, same_key, joined_to, row_of, counted, table_of}
use Rattle.log_summary.specs.Values.{Value}
use Rattle.log_summary.proofs.Joining.{joined_assoc}
use Rattle.log_summary.proofs.Merging.{found_after}
use Rattle.log_summary.proofs.Tabled.{same_is, same_own}

-- one value behind others
abbrev behind : Tally → Value → Tally
behind a v = joined a (single v.number v.moment)

-- these values behind what a tally has, of which this is the sum in full
abbrev tally_on : Tally → ℤ → List Value → Tally
tally_on a z vs = record {
  count = min (a.count + length vs) (2 ^ 64 - 1);
  least = fold int_min a.least (map number_of vs);
  greatest = fold int_max a.greatest (map number_of vs);
  sum = int_wrap w128 (fold (λ x y. x +ℤ y) z (map number_of vs));
  last = fold moment_after a.last vs;
}

sum_step : (z n s : ℤ) → s ≡ int_wrap w128 z → int_wrap w128 (s +ℤ int_wrap w128 n) ≡ int_wrap w128 (z +ℤ n)
sum_step z n s is = int_wrap-add_right w128 s n ∙ ap (λ x. int_wrap w128 (x +ℤ n)) is ∙ int_wrap-add_left w128 z n

all_behind : (vs : List Value) (a : Tally) (z : ℤ) → a.count ≤ 2 ^ 64 - 1 → a.sum ≡ int_wrap w128 z → fold behind a vs ≡ tally_on a z vs
all_behind [] a z few is = λ i. record { count = (let e : a.count ≡ min (a.count + 0) (2 ^ 64 - 1) = omega (arith, few) in e i); least = a.least; greatest = a.greatest; sum = is i; last = a.last }
all_behind (v ∷ vs) a z few is =
    let low : (behind a v).count ≤ 2 ^ 64 - 1 = omega arith in
    let count : min (min (a.count + 1) (2 ^ 64 - 1) + length vs) (2 ^ 64 - 1) ≡ min (a.count + length (v ∷ vs)) (2 ^ 64 - 1) = omega arith in
    all_behind vs (behind a v) (z +ℤ v.number) low (sum_step z v.number a.sum is)
    ∙ (λ i. record (tally_on (behind a v) (z +ℤ v.number) vs) { count = count i })

told_is : (v : Value) (vs : List Value) → fold behind (single v.number v.moment) vs ≡ all_told v vs
told_is v vs = all_behind vs (single v.number v.moment) v.number (omega arith) refl

module _ (key : Key) where
  abbrev is_at : Value → Bool
  is_at v = same_key key (v.metric, v.instance)

  abbrev step : Option Tally → Value → Option Tally
  step o v = cond (is_at v) (Some (joined_to o (single v.number v.moment))) o

  stepped : (vs : List Value) (rows : Rows) → lookup (same_key key) (fold counted rows vs) ≡ fold step (lookup (same_key key) rows) vs
  stepped [] rows = refl
  stepped (v ∷ vs) rows =
      stepped vs (counted rows v) ∙ ap (λ o. fold step o vs) (found_after same_key same_is same_own joined joined_assoc key rows (row_of v))

  some_step : (vs : List Value) (a : Tally) → fold step (Some a) vs ≡ Some (fold behind a (values_at key vs))
  some_step [] a = refl
  some_step (v ∷ vs) a = by (is_at v) refl (some_step vs (behind a v)) (some_step vs a)
    where
      by : (b : Bool) → is_at v ≡ b → fold step (Some (behind a v)) vs ≡ Some (fold behind (behind a v) (values_at key vs)) → fold step (Some a) vs ≡ Some (fold behind a (values_at key vs))
          → fold step (cond (is_at v) (Some (behind a v)) (Some a)) vs ≡ Some (fold behind a (cond (is_at v) (v ∷ values_at key vs) (values_at key vs)))
      by true e more same = ap (λ b. fold step (cond b (Some (behind a v)) (Some a)) vs) e ∙ more ∙ ap (λ b. Some (fold behind a (cond b (v ∷ values_at key vs) (values_at key vs)))) (sym e)
      by false e more same = ap (λ b. fold step (cond b (Some (behind a v)) (Some a)) vs) e ∙ same ∙ ap (λ b. Some (fold behind a (cond b (v ∷ values_at key vs) (values_at key vs)))) (sym e)

  none_step : (vs : List Value) → fold step None vs ≡ told (values_at key vs)
  none_step [] = refl
  none_step (v ∷ vs) = by (is_at v) refl (some_step vs (single v.number v.moment)) (none_step vs)
    where
      by : (b : Bool) → is_at v ≡ b → fold step (Some (single v.number v.moment)) vs ≡ Some (fold behind (single v.number v.moment) (values_at key vs)) → fold step None vs ≡ told (values_at key vs)
          → fold step (cond (is_at v) (Some (single v.number v.moment)) None) vs ≡ told (cond (is_at v) (v ∷ values_at key vs) (values_at key vs))
      by true e more same =
          ap (λ b. fold step (cond b (Some (single v.number v.moment)) None) vs) e ∙ more ∙ ap Some (told_is v (values_at key vs))
          ∙ ap (λ b. told (cond b (v ∷ values_at key vs) (values_at key vs))) (sym e)
      by false e more same = ap (λ b. fold step (cond b (Some (single v.number v.moment)) None) vs) e ∙ same ∙ ap (λ b. told (cond b (v ∷ values_at key vs) (values_at key vs))) (sym e)

  pub table_tells : (vs : List Value) → lookup (same_key key) (table_of vs) ≡ told (values_at key vs)
  table_tells vs = stepped vs [] ∙ none_step vs
