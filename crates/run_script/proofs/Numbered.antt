-- Steps behind steps.
use Rattle.std.proofs.Common.{◌≡◌, ℕ, suc, ◌+◌, ◌*◌, ◌≤◌, List, [], ◌∷◌, ◌++◌, length, refl, sym, ap, subst, ◌∙◌, append_assoc, arith, length-append}
use Rattle.std.specs.Prelude.{◌/◌, ◌%◌, ◌==◌, Bool, true, false, if◌then◌else◌}
use Rattle.std.proofs.lemmas.List.{append-nil}
use Rattle.run_script.specs.declared.script.Line.{Line}
use Rattle.run_script.specs.declared.script.Line.TheVariants as lines
use Rattle.run_script.specs.Generated.{next, number_behind, with_line_numbers, with_steps, change_lines, change_at, three_adds, tick_at, flush_lines, tick_steps, all_ticks}

pub as_many : (from : ℕ) (steps : List Line) → length (with_line_numbers from steps) ≡ length steps
unfolding with_line_numbers
as_many from [] = refl
as_many from (step ∷ steps) = ap suc (as_many (from + 1) steps)

pub numbers_go_on : (from : ℕ) (a b : List Line) → with_line_numbers from (a ++ b) ≡ with_line_numbers from a ++ with_line_numbers (from + length a) b
unfolding with_line_numbers
numbers_go_on from [] b = let same : from ≡ from + 0 = omega arith in ap (λ n. with_line_numbers n b) same
numbers_go_on from (step ∷ a) b =
    ap (λ rest. (from, step) ∷ rest) (numbers_go_on (from + 1) a b ∙ ap (λ n. with_line_numbers (from + 1) a ++ with_line_numbers n b) (omega arith))

pub longer : (steps : List (ℕ × Line)) (more : List Line) → length (with_steps steps more) ≡ length steps + length more
longer steps more = length-append steps (with_line_numbers (252 + length steps) more) ∙ ap (λ n. length steps + n) (as_many (252 + length steps) more)

-- steps and then steps are all of them
pub with_both : (steps : List (ℕ × Line)) (a b : List Line) → with_steps (with_steps steps a) b ≡ with_steps steps (a ++ b)
with_both steps a b =
    append_assoc steps (with_line_numbers (252 + length steps) a) (with_line_numbers (252 + length (with_steps steps a)) b)
    ∙ ap (λ rest. steps ++ rest)
    (ap (λ n. with_line_numbers (252 + length steps) a ++ with_line_numbers n b) (ap (λ n. 252 + n) (longer steps a) ∙ omega arith)
    ∙ sym (numbers_go_on (252 + length steps) a b))

pub with_none : (steps : List (ℕ × Line)) → with_steps steps [] ≡ steps
unfolding with_line_numbers
with_none steps = append-nil steps

few_if : (is : Bool) (image : ℕ) → length (if is then change_lines image else []) ≤ 10
few_if true image = omega arith
few_if false image = omega arith

pub few_change : (k : ℕ) → length (change_at k) ≤ 10
few_change k = few_if (k % 256 == 0) (if k / 256 % 2 == 1 then 3 else 0)

few_line : (is : Bool) (step : Line) → length (if is then step ∷ [] else []) ≤ 1
few_line true step = omega arith
few_line false step = omega arith

pub few_tick : (x k : ℕ) → length (tick_steps x k) ≤ 15
unfolding tick_steps
few_tick x k = omega (arith, length-append (change_at k) (three_adds x ++ (tick_at k ∷ flush_lines k)), few_change k, few_line (k % 10 == 0) lines.Flush)

pub three_draws : (x n : ℕ) → next (next (next (number_behind x (3 * n)))) ≡ number_behind x (3 * (n + 1))
unfolding number_behind
three_draws x n = let same : suc (suc (suc (3 * n))) ≡ 3 * (n + 1) = omega arith in ap (number_behind x) same

step_more : (steps : List (ℕ × Line)) (x n : ℕ)
    → with_steps (with_steps steps (all_ticks x n)) (tick_steps (number_behind x (3 * n)) (suc n)) ≡ with_steps steps (all_ticks x (suc n))
unfolding all_ticks
step_more steps x n = with_both steps (all_ticks x n) (tick_steps (number_behind x (3 * n)) (suc n))

pub one_more : (steps : List (ℕ × Line)) (x n : ℕ)
    → with_steps (with_steps steps (all_ticks x n)) (tick_steps (number_behind x (3 * n)) (n + 1)) ≡ with_steps steps (all_ticks x (n + 1))
one_more steps x n =
    let same : suc n ≡ n + 1 = omega arith in
    subst (λ m. with_steps (with_steps steps (all_ticks x n)) (tick_steps (number_behind x (3 * n)) m) ≡ with_steps steps (all_ticks x m)) same (step_more steps x n)

pub no_ticks : (steps : List (ℕ × Line)) (x : ℕ) → with_steps steps (all_ticks x 0) ≡ steps
unfolding all_ticks
no_ticks steps x = with_none steps

pub no_draws : (x : ℕ) → x ≡ number_behind x 0
unfolding number_behind
no_draws x = refl
