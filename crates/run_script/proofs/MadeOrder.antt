-- The ticks, adds, changes and flushes of a generated script, in their order.
use Rattle.std.proofs.Common.{◌≡◌, ℕ, zero, suc, ◌+◌, ◌-◌, ◌*◌, Bool, true, false, ◌==◌, List, [], ◌∷◌, ◌++◌, refl, sym, ap, ap₂, ◌∙◌, arith, append_assoc, append-nil}
use Rattle.std.specs.Prelude.{◌/◌, ◌%◌, if◌then◌else◌, map}
use Rattle.std.specs.List.{flat_map, filter_map}
use Rattle.std.proofs.lemmas.Bool.Decides.{nat_tests}
use Rattle.std.proofs.lemmas.Grind.{flat_map-append}
use Rattle.std.proofs.lemmas.List.{map-append}
use Rattle.std.proofs.lemmas.List.Elements.{filter_map-append}
use Rattle.run_script.specs.declared.script.Line.{Line}
use Rattle.run_script.specs.declared.script.Line.TheVariants as lines
use Rattle.run_script.specs.Generated.{numbers, number_behind, draw, add_of, detach_lines, change_lines, change_at, three_adds, flush_lines, tick_at, tick_steps, all_ticks, all_steps, with_line_numbers, generated_script}
use Rattle.run_script.specs.Laws.{second, tick_of, GeneratedTicks, if_add, GeneratedAdds, DrawsAreAdds, behind_adds, change_before, flush_behind, GeneratedOrder}

numbers_end : (from n : ℕ) → numbers from (suc n) ≡ numbers from n ++ (from + n) ∷ []
unfolding numbers
numbers_end from zero = let same : from ≡ from + 0 = omega arith in ap (λ k. k ∷ []) same
numbers_end from (suc n) =
    let same : (from + 1) + n ≡ from + suc n = omega arith in
    ap (λ rest. from ∷ rest) (numbers_end (from + 1) n ∙ ap (λ k. numbers (from + 1) n ++ k ∷ []) same)

last_number : (n : ℕ) → numbers 1 (suc n) ≡ numbers 1 n ++ suc n ∷ []
last_number n = let same : 1 + n ≡ suc n = omega arith in numbers_end 1 n ∙ ap (λ k. numbers 1 n ++ k ∷ []) same

lines_stay : (n : ℕ) (made : List Line) → map (λ (step : ℕ × Line). step.1) (with_line_numbers n made) ≡ made
unfolding with_line_numbers
lines_stay n [] = refl
lines_stay n (step ∷ made) = ap (λ rest. step ∷ rest) (lines_stay (n + 1) made)

-- Ticks

tick_stamps : (x k : ℕ) → filter_map tick_of (tick_steps x k) ≡ second k ∷ []
unfolding tick_steps
tick_stamps x k = filter_map-append tick_of (change_at k) (three_adds x ++ (tick_at k ∷ flush_lines k)) ∙ on (k % 256 == 0) (if k / 256 % 2 == 1 then 3 else 0) (k % 10 == 0)
  where
    on : (is : Bool) (image : ℕ) (tenth : Bool) → filter_map tick_of (if is then change_lines image else []) ++ (second k ∷ filter_map tick_of (if tenth then lines.Flush ∷ [] else [])) ≡ second k ∷ []
    on true image true = refl
    on true image false = refl
    on false image true = refl
    on false image false = refl

ticks_stamps : (x n : ℕ) → filter_map tick_of (all_ticks x n) ≡ map second (numbers 1 n)
unfolding all_ticks numbers
ticks_stamps x zero = refl
ticks_stamps x (suc n) =
    filter_map-append tick_of (all_ticks x n) (tick_steps (number_behind x (3 * n)) (suc n))
    ∙ ap₂ (λ a b. a ++ b) (ticks_stamps x n) (tick_stamps (number_behind x (3 * n)) (suc n))
    ∙ sym (map-append second (numbers 1 n) (suc n ∷ []))
    ∙ ap (map second) (sym (last_number n))

pub generated_ticks : GeneratedTicks
unfolding generated_script all_steps
generated_ticks number ticks =
    ap (filter_map tick_of) (lines_stay 252 (all_steps number ticks))
    ∙ filter_map-append tick_of (all_ticks number ticks) (detach_lines 0 ++ (detach_lines 1 ++ detach_lines 2))
    ∙ append-nil (filter_map tick_of (all_ticks number ticks))
    ∙ ticks_stamps number ticks

-- Adds

abbrev drawn : ℕ → ℕ → Line
drawn x k = add_of (draw (number_behind x k))

tick_adds : (x k : ℕ) → filter_map if_add (tick_steps x k) ≡ three_adds x
unfolding tick_steps
tick_adds x k = filter_map-append if_add (change_at k) (three_adds x ++ (tick_at k ∷ flush_lines k)) ∙ on (k % 256 == 0) (if k / 256 % 2 == 1 then 3 else 0) (k % 10 == 0)
  where
    on : (is : Bool) (image : ℕ) (tenth : Bool) → filter_map if_add (if is then change_lines image else []) ++ (three_adds x ++ filter_map if_add (if tenth then lines.Flush ∷ [] else [])) ≡ three_adds x
    on true image true = refl
    on true image false = refl
    on false image true = refl
    on false image false = refl

three_more : (x n : ℕ) → map (drawn x) (numbers 1 (3 * suc n)) ≡ map (drawn x) (numbers 1 (3 * n)) ++ three_adds (number_behind x (3 * n))
unfolding number_behind
three_more x n =
    let same : 3 * suc n ≡ suc (suc (suc (3 * n))) = omega arith in
    ap (λ k. map (drawn x) (numbers 1 k)) same
    ∙ ap (map (drawn x)) (last_number (suc (suc (3 * n))) ∙ ap (λ l. l ++ suc (suc (suc (3 * n))) ∷ []) (last_number (suc (3 * n)) ∙ ap (λ l. l ++ suc (suc (3 * n)) ∷ []) (last_number (3 * n)))
    ∙ append_assoc (numbers 1 (3 * n) ++ suc (3 * n) ∷ []) (suc (suc (3 * n)) ∷ []) (suc (suc (suc (3 * n))) ∷ [])
    ∙ append_assoc (numbers 1 (3 * n)) (suc (3 * n) ∷ []) (suc (suc (3 * n)) ∷ suc (suc (suc (3 * n))) ∷ []))
    ∙ map-append (drawn x) (numbers 1 (3 * n)) (suc (3 * n) ∷ suc (suc (3 * n)) ∷ suc (suc (suc (3 * n))) ∷ [])

ticks_adds : (x n : ℕ) → filter_map if_add (all_ticks x n) ≡ map (drawn x) (numbers 1 (3 * n))
unfolding all_ticks numbers
ticks_adds x zero = refl
ticks_adds x (suc n) =
    filter_map-append if_add (all_ticks x n) (tick_steps (number_behind x (3 * n)) (suc n))
    ∙ ap₂ (λ a b. a ++ b) (ticks_adds x n) (tick_adds (number_behind x (3 * n)) (suc n))
    ∙ sym (three_more x n)

pub generated_adds : GeneratedAdds
unfolding generated_script all_steps
generated_adds number ticks =
    ap (filter_map if_add) (lines_stay 252 (all_steps number ticks))
    ∙ filter_map-append if_add (all_ticks number ticks) (detach_lines 0 ++ (detach_lines 1 ++ detach_lines 2))
    ∙ append-nil (filter_map if_add (all_ticks number ticks))
    ∙ ticks_adds number ticks

pub draws_are_adds : DrawsAreAdds
draws_are_adds d = (omega arith, omega arith, omega arith, omega arith, omega arith, omega arith)

-- Order

-- at a multiple of 256, to the last image where it is an odd one
abbrev change_by : Bool → Bool → ℕ → List (ℕ × Line)
change_by is odd b = if is then (b, lines.Begin 0 0 (if odd then 3 else 0) 0) ∷ [] else []

abbrev change_or : Bool → Bool → ℕ → List (ℕ × Line)
change_or late back b = if late then (b, lines.Begin 0 0 3 0) ∷ [] else if back then (b, lines.Begin 0 0 0 0) ∷ [] else []

same_change : (k b : ℕ) → change_by (k % 256 == 0) (k / 256 % 2 == 1) b ≡ change_or (k % 512 == 256) (k % 512 == 0) b
same_change k b = on (k % 256 == 0) (k / 256 % 2 == 1) (k % 512 == 256) (k % 512 == 0) refl refl refl refl
  where
    on : (is odd late back : Bool) → (k % 256 == 0) ≡ is → (k / 256 % 2 == 1) ≡ odd → (k % 512 == 256) ≡ late → (k % 512 == 0) ≡ back → change_by is odd b ≡ change_or late back b
    on true true true back e f g h = refl
    on true true false back e f g h = absurd (grind (arith, nat_tests))
    on true false true back e f g h = absurd (grind (arith, nat_tests))
    on true false false true e f g h = refl
    on true false false false e f g h = absurd (grind (arith, nat_tests))
    on false odd true back e f g h = absurd (grind (arith, nat_tests))
    on false odd false true e f g h = absurd (grind (arith, nat_tests))
    on false odd false false e f g h = refl

-- a tick and its flush behind so many adds
abbrev at_tick : ℕ → Bool → ℕ → List (ℕ × Line)
at_tick k tenth a = (a, lines.Tick (second k)) ∷ (if tenth then (a, lines.Flush) ∷ [] else [])

module _ (x k : ℕ) (more : List Line) where
  one_tick : (is odd tenth : Bool) (b : ℕ)
      → behind_adds b ((if is then change_lines (if odd then 3 else 0) else []) ++ ((three_adds x ++ (tick_at k ∷ (if tenth then lines.Flush ∷ [] else []))) ++ more))
      ≡ (change_by is odd b ++ at_tick k tenth (b + 1 + 1 + 1)) ++ behind_adds (b + 1 + 1 + 1) more
  one_tick true odd true b = refl
  one_tick true odd false b = refl
  one_tick false odd true b = refl
  one_tick false odd false b = refl

abbrev around : ℕ → List (ℕ × Line)
around k = change_before k ++ ((3 * k, lines.Tick (second k)) ∷ flush_behind k)

tick_order : (x n : ℕ) (more : List Line) → behind_adds (3 * n) (tick_steps x (suc n) ++ more) ≡ around (suc n) ++ behind_adds (3 * suc n) more
unfolding tick_steps
tick_order x n more =
    let three : 3 * n + 1 + 1 + 1 ≡ 3 * suc n = omega arith in
    let before : 3 * n ≡ 3 * suc n - 3 = omega arith in
    ap (behind_adds (3 * n)) (append_assoc (change_at (suc n)) (three_adds x ++ (tick_at (suc n) ∷ flush_lines (suc n))) more)
    ∙ one_tick x (suc n) more (suc n % 256 == 0) (suc n / 256 % 2 == 1) (suc n % 10 == 0) (3 * n)
    ∙ ap (λ a. (change_by (suc n % 256 == 0) (suc n / 256 % 2 == 1) (3 * n) ++ at_tick (suc n) (suc n % 10 == 0) a) ++ behind_adds a more) three
    ∙ ap (λ l. (l ++ at_tick (suc n) (suc n % 10 == 0) (3 * suc n)) ++ behind_adds (3 * suc n) more) (ap (change_by (suc n % 256 == 0) (suc n / 256 % 2 == 1)) before ∙ same_change (suc n) (3 * suc n - 3))

ticks_order : (x n : ℕ) (more : List Line) → behind_adds 0 (all_ticks x n ++ more) ≡ flat_map around (numbers 1 n) ++ behind_adds (3 * n) more
unfolding all_ticks numbers
ticks_order x zero more = refl
ticks_order x (suc n) more =
    ap (behind_adds 0) (append_assoc (all_ticks x n) (tick_steps (number_behind x (3 * n)) (suc n)) more)
    ∙ ticks_order x n (tick_steps (number_behind x (3 * n)) (suc n) ++ more)
    ∙ ap (λ l. flat_map around (numbers 1 n) ++ l) (tick_order (number_behind x (3 * n)) n more)
    ∙ sym (append_assoc (flat_map around (numbers 1 n)) (around (suc n)) (behind_adds (3 * suc n) more))
    ∙ ap (λ l. l ++ behind_adds (3 * suc n) more)
    (ap (λ l. flat_map around (numbers 1 n) ++ l) (sym (append-nil (around (suc n))))
    ∙ sym (flat_map-append around (numbers 1 n) (suc n ∷ []))
    ∙ ap (flat_map around) (sym (last_number n)))

pub generated_order : GeneratedOrder
unfolding generated_script all_steps
generated_order number ticks =
    ap (behind_adds 0) (lines_stay 252 (all_steps number ticks))
    ∙ ticks_order number ticks (detach_lines 0 ++ (detach_lines 1 ++ detach_lines 2))
    ∙ append-nil (flat_map around (numbers 1 ticks))
