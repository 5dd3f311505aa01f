-- The adds of a generated script, counted and summed.
use Rattle.std.proofs.Common.{◌≡◌, ℕ, zero, suc, ◌+◌, ◌*◌, ◌≤◌, List, [], ◌∷◌, length, map, refl, ap, ◌∙◌, arith}
use Rattle.std.specs.List.{filter_map}
use Rattle.run_script.specs.declared.script.Line.{Line}
use Rattle.run_script.specs.declared.script.Line.TheVariants as lines
use Rattle.run_script.specs.Generated.{numbers, number_behind, draw, add_of, generated_script}
use Rattle.run_script.specs.Laws.{if_add}
use Rattle.run_script.proofs.MadeOrder.{draws_are_adds, generated_adds}
use Rattle.script_runs.specs.Summaries.{adds_in, amount, total_in}
use Rattle.pm_runs.specs.commands.make.{amount_in}

-- of the adds alone
abbrev plain : List (ℕ × Line) → List Line
plain steps = map (λ (step : ℕ × Line). step.1) steps

sum_of : List Line → ℕ
sum_of [] = 0
sum_of (line ∷ others) = amount_in line + sum_of others

adds_kept : (steps : List (ℕ × Line)) → adds_in steps ≡ length (filter_map if_add (plain steps))
adds_kept [] = refl
adds_kept ((n, lines.Attach region pass) ∷ steps) = adds_kept steps
adds_kept ((n, lines.Detach region pass) ∷ steps) = adds_kept steps
adds_kept ((n, lines.Swap region pass item instance value) ∷ steps) = adds_kept steps
adds_kept ((n, lines.Add region pass item instance number) ∷ steps) = omega (arith, adds_kept steps)
adds_kept ((n, lines.Begin region pass image moment) ∷ steps) = adds_kept steps
adds_kept ((n, lines.Step region pass) ∷ steps) = adds_kept steps
adds_kept ((n, lines.Finish region pass) ∷ steps) = adds_kept steps
adds_kept ((n, lines.Load region pass) ∷ steps) = adds_kept steps
adds_kept ((n, lines.Word region pass index) ∷ steps) = adds_kept steps
adds_kept ((n, lines.Done region pass) ∷ steps) = adds_kept steps
adds_kept ((n, lines.Tick stamp) ∷ steps) = adds_kept steps
adds_kept ((n, lines.Flush) ∷ steps) = adds_kept steps

total_kept : (steps : List (ℕ × Line)) → total_in steps ≡ sum_of (filter_map if_add (plain steps))
unfolding sum_of
total_kept [] = refl
total_kept ((n, lines.Attach region pass) ∷ steps) = total_kept steps
total_kept ((n, lines.Detach region pass) ∷ steps) = total_kept steps
total_kept ((n, lines.Swap region pass item instance value) ∷ steps) = total_kept steps
total_kept ((n, lines.Add region pass item instance number) ∷ steps) = ap (λ (k : ℕ). amount number + k) (total_kept steps)
total_kept ((n, lines.Begin region pass image moment) ∷ steps) = total_kept steps
total_kept ((n, lines.Step region pass) ∷ steps) = total_kept steps
total_kept ((n, lines.Finish region pass) ∷ steps) = total_kept steps
total_kept ((n, lines.Load region pass) ∷ steps) = total_kept steps
total_kept ((n, lines.Word region pass index) ∷ steps) = total_kept steps
total_kept ((n, lines.Done region pass) ∷ steps) = total_kept steps
total_kept ((n, lines.Tick stamp) ∷ steps) = total_kept steps
total_kept ((n, lines.Flush) ∷ steps) = total_kept steps

-- each draw adds 100 at most
small_draw : (d : ℕ) → amount_in (add_of d) ≤ 100
small_draw d = (draws_are_adds d).5

abbrev drawn : ℕ → ℕ → Line
drawn number k = add_of (draw (number_behind number k))

small_sum : (number : ℕ) (ks : List ℕ) → sum_of (map (drawn number) ks) ≤ 100 * length ks
unfolding sum_of
small_sum number [] = omega arith
small_sum number (k ∷ ks) = omega (arith, small_draw (draw (number_behind number k)), small_sum number ks)

many : (from n : ℕ) → length (numbers from n) ≡ n
unfolding numbers
many from zero = refl
many from (suc n) = ap (λ (k : ℕ). suc k) (many (from + 1) n)

length_map : (f : ℕ → Line) (ks : List ℕ) → length (map f ks) ≡ length ks
length_map f [] = refl
length_map f (k ∷ ks) = ap (λ (n : ℕ). suc n) (length_map f ks)

pub few_adds : (number ticks : ℕ) → ticks ≤ 100000 → adds_in (generated_script number ticks).steps ≤ 1000000000
few_adds number ticks few =
    let are : adds_in (generated_script number ticks).steps ≡ 3 * ticks = adds_kept (generated_script number ticks).steps ∙ ap length (generated_adds number ticks) ∙ length_map (drawn number) (numbers 1 (3 * ticks)) ∙ many 1 (3 * ticks) in
    omega (arith, few, are)

pub small_total : (number ticks : ℕ) → ticks ≤ 100000 → total_in (generated_script number ticks).steps ≤ 1000000000
small_total number ticks few =
    let are : total_in (generated_script number ticks).steps ≡ sum_of (map (drawn number) (numbers 1 (3 * ticks))) = total_kept (generated_script number ticks).steps ∙ ap sum_of (generated_adds number ticks) in
    omega (arith, few, are, small_sum number (numbers 1 (3 * ticks)), many 1 (3 * ticks))
