-- The table of passes, step by step.
use Rattle.std.proofs.Common.{◌≡◌, ◌≢◌, ℕ, zero, suc, ◌+◌, ◌*◌, ◌/◌, ◌%◌, ◌<◌, Bool, true, false, ◌&&◌, ◌||◌, nat_eq, List, [], ◌∷◌, ◌++◌, length, take, slice_index_or, slice_set, slice_get, Option, Some, None, ap, ap₂, sym, subst, ◌∙◌, refl, arith, cond, append-nil, replicate}
use Rattle.std.specs.List.{list_all, list_any}
use Rattle.std.proofs.lemmas.List.{length-set, get_or-set_same, get_or-set_other, length-replicate, get_or-replicate, take_more}
use Rattle.std.proofs.lemmas.Option.{slice_get_read}
use borrow.Author.Count.{below_more}
use Rattle.std.proofs.lemmas.Bool.Decides.{nat_tests}
use Rattle.run_script.specs.declared.pass_stages.Doing.{Doing}
use Rattle.run_script.specs.declared.pass_stages.Doing.TheVariants as doings
use Rattle.run_script.specs.declared.script.Line.{Line}
use Rattle.run_script.specs.declared.script.Line.TheVariants as lines
use Rattle.run_script.specs.Recording.{place_of, is_at, lines_of, Stage, stage_after, stage_behind, is_idle, has_more, all_rest, comes_at, line_behind}
use Rattle.run_script.specs.RecordingSteps.{stage_of, is_resting, place_in, stage_at, Tells, IsNear, AreNear, comes, comes_behind}
use Rattle.run_script.proofs.Firsts.{left_true, right_true, both_true}

pub lines_append : (r p : ℕ) (before after : List (ℕ × Line)) → lines_of r p (before ++ after) ≡ lines_of r p before ++ lines_of r p after
lines_append r p [] after = refl
lines_append r p (step ∷ before) after = here (is_at r p (place_of step.1)) (lines_append r p before after)
  where
    here : (b : Bool) → lines_of r p (before ++ after) ≡ lines_of r p before ++ lines_of r p after
        → cond b (step.1 ∷ lines_of r p (before ++ after)) (lines_of r p (before ++ after)) ≡ cond b (step.1 ∷ lines_of r p before) (lines_of r p before) ++ lines_of r p after
    here true e = ap (λ l. step.1 ∷ l) e
    here false e = e

pub behind_last : (s : Stage) (ls : List Line) (line : Line) → stage_behind s (ls ++ line ∷ []) ≡ stage_after line
behind_last s [] line = refl
behind_last s (l ∷ ls) line = behind_last (stage_after l) ls line

same_number : (a b : ℕ) → nat_eq a b ≡ true → a ≡ b
same_number a b e = grind (arith, nat_tests)

other_place : (region pass r p : ℕ) → pass < 256 → p < 256 → (nat_eq region r && nat_eq pass p) ≡ false → place_in r p ≢ place_in region pass
other_place region pass r p a b e same = grind (arith, nat_tests)

-- one more step
pub tells_more : (before : List (ℕ × Line)) (doing : List Doing) (number : ℕ) (line : Line) (region pass : ℕ) (next : Doing) → Tells before doing → place_of line ≡ Some (region, pass)
    → region < 64 → pass < 256 → stage_of next ≡ stage_after line → Tells (before ++ (number, line) ∷ []) (slice_set doing (region * 256 + pass) next)
tells_more before doing number line region pass next tells placed low few after = record {
  size = length-set doing (region * 256 + pass) next ∙ tells.size;
  each = λ r p a b. here r p a b (nat_eq region r && nat_eq pass p) refl;
}
  where
    single : (r p : ℕ) (at : Bool) → (nat_eq region r && nat_eq pass p) ≡ at → lines_of r p (before ++ (number, line) ∷ []) ≡ lines_of r p before ++ cond at (line ∷ []) []
    single r p at e = lines_append r p before ((number, line) ∷ []) ∙ ap (λ b. lines_of r p before ++ cond b (line ∷ []) []) (ap (is_at r p) placed ∙ e)

    here : (r p : ℕ) → r < 64 → p < 256 → (at : Bool) → (nat_eq region r && nat_eq pass p) ≡ at
        → stage_at (slice_set doing (region * 256 + pass) next) r p ≡ stage_behind Stage.idle (lines_of r p (before ++ (number, line) ∷ []))
    here r p a b true e =
        let size : length doing ≡ 16384 = tells.size in
        let inside : region * 256 + pass < length doing = omega arith in
        let same_region : region ≡ r = same_number region r (left_true _ _ e) in
        let same_pass : pass ≡ p = same_number pass p (right_true _ _ e) in
        ap stage_of (ap₂ (λ x y. slice_index_or (slice_set doing (region * 256 + pass) next) (x * 256 + y) doings.Idle) (sym same_region) (sym same_pass)
        ∙ get_or-set_same doing (region * 256 + pass) next doings.Idle inside)
        ∙ (after ∙ sym (ap (stage_behind Stage.idle) (single r p true e) ∙ behind_last Stage.idle (lines_of r p before) line))
    here r p a b false e =
        ap stage_of (get_or-set_other doing (region * 256 + pass) (place_in r p) next doings.Idle (other_place region pass r p few b e))
        ∙ (tells.each r p a b ∙ sym (ap (stage_behind Stage.idle) (single r p false e ∙ append-nil (lines_of r p before))))

pub tells_none : (doing : List Doing) → doing ≡ replicate 16384 doings.Idle → Tells [] doing
tells_none doing e = subst (Tells []) (sym e) (all_idle 16384 refl)
  where
    all_idle : (n : ℕ) → n ≡ 16384 → Tells [] (replicate n doings.Idle)
    all_idle n e = record {
      size = length-replicate n doings.Idle ∙ e;
      each = λ region pass a b. ap stage_of (get_or-replicate n (place_in region pass) doings.Idle doings.Idle (omega arith));
    }

-- The steps that may come

pub step_there : (steps : List (ℕ × Line)) (k : ℕ) (step : ℕ × Line) → k < length steps → step ≡ slice_index_or steps k step → slice_get steps k ≡ Some step
step_there steps k step below e = slice_get_read steps (length steps) k step refl below e

pub comes_is : (steps : List (ℕ × Line)) (k : ℕ) (step : ℕ × Line) → k < length steps → step ≡ slice_index_or steps k step → comes steps k ≡ comes_at (take k steps) step.1 (place_of step.1)
comes_is steps k step below e = ap (comes_behind (take k steps)) (step_there steps k step below e)

pub near_at : (steps : List (ℕ × Line)) (k : ℕ) (step : ℕ × Line) → AreNear steps → k < length steps → step ≡ slice_index_or steps k step → IsNear (place_of step.1)
near_at steps k step near below e = near k step (step_there steps k step below e)

pub tells_next : (steps : List (ℕ × Line)) (k : ℕ) (step : ℕ × Line) (doing : List Doing) → k < length steps → step ≡ slice_index_or steps k step → Tells (take k steps ++ step ∷ []) doing
    → Tells (take (k + 1) steps) doing
tells_next steps k step doing below e tells = subst (λ before. Tells before doing) (sym (take_more steps k step below ∙ ap (λ x. take k steps ++ x ∷ []) (sym e))) tells

pub came_more : (steps : List (ℕ × Line)) (k : ℕ) → ((j : ℕ) → j < k → comes steps j ≡ true) → comes steps k ≡ true → (j : ℕ) → j < k + 1 → comes steps j ≡ true
came_more steps k came here = below_more (λ j. comes steps j ≡ true) k came here

pub last_line : (steps : List (ℕ × Line)) (n : ℕ) (step : ℕ × Line) → n + 1 ≡ length steps → Some step ≡ slice_get steps n → step.0 + 1 ≡ line_behind steps
last_line [] n step size e = cc
last_line (first ∷ []) zero step size e = cc
last_line (first ∷ []) (suc n) step size e = absurd (omega arith)
last_line (first ∷ other ∷ steps) zero step size e = absurd (omega arith)
last_line (first ∷ other ∷ steps) (suc n) step size e = last_line (other ∷ steps) n step (omega arith) e

-- Rest

is_there : (a : Bool) → (a || true) ≡ true
is_there true = refl
is_there false = refl

-- lines that end idle do so from any stage before
pub from_idle : (s : Stage) (ls : List Line) → is_idle (stage_behind s ls) ≡ true → is_idle (stage_behind Stage.idle ls) ≡ true
from_idle s [] e = refl
from_idle s (l ∷ ls) e = e

pub no_lines : (r p : ℕ) (steps : List (ℕ × Line)) → list_any (λ step. is_at r p (place_of step.1)) steps ≡ false → lines_of r p steps ≡ []
no_lines r p [] e = refl
no_lines r p (step ∷ steps) e = here (is_at r p (place_of step.1)) e (no_lines r p steps)
  where
    here : (b : Bool) → (b || list_any (λ step. is_at r p (place_of step.1)) steps) ≡ false → (list_any (λ step. is_at r p (place_of step.1)) steps ≡ false → lines_of r p steps ≡ [])
        → cond b (step.1 ∷ lines_of r p steps) (lines_of r p steps) ≡ []
    here true e rest = cc
    here false e rest = rest e

pub some_lines : (s : Stage) (r p : ℕ) (steps : List (ℕ × Line)) → list_any (λ step. is_at r p (place_of step.1)) steps ≡ true
    → stage_behind s (lines_of r p steps) ≡ stage_behind Stage.idle (lines_of r p steps)
some_lines s r p [] e = cc
some_lines s r p (step ∷ steps) e = here (is_at r p (place_of step.1)) e (some_lines s r p steps)
  where
    here : (b : Bool) → (b || list_any (λ step. is_at r p (place_of step.1)) steps) ≡ true
        → (list_any (λ step. is_at r p (place_of step.1)) steps ≡ true → stage_behind s (lines_of r p steps) ≡ stage_behind Stage.idle (lines_of r p steps))
        → stage_behind s (cond b (step.1 ∷ lines_of r p steps) (lines_of r p steps)) ≡ stage_behind Stage.idle (cond b (step.1 ∷ lines_of r p steps) (lines_of r p steps))
    here true e rest = refl
    here false e rest = rest e

idle_without : (line : Line) → place_of line ≡ None → is_idle (stage_after line) ≡ true
idle_without (lines.Attach region pass) e = cc
idle_without (lines.Detach region pass) e = refl
idle_without (lines.Swap region pass item instance value) e = cc
idle_without (lines.Add region pass item instance number) e = cc
idle_without (lines.Begin region pass image moment) e = cc
idle_without (lines.Step region pass) e = cc
idle_without (lines.Finish region pass) e = refl
idle_without (lines.Load region pass) e = refl
idle_without (lines.Word region pass index) e = refl
idle_without (lines.Done region pass) e = refl
idle_without (lines.Tick stamp) e = refl
idle_without lines.Flush e = refl

abbrev some_at : ℕ → ℕ → List (ℕ × Line) → Bool
some_at r p steps = list_any (λ step. is_at r p (place_of step.1)) steps

more_is : (place : Option (ℕ × ℕ)) (r p : ℕ) (steps : List (ℕ × Line)) → is_at r p place ≡ true → has_more place steps ≡ some_at r p steps
more_is None r p steps e = cc
more_is (Some place) r p steps e = ap₂ (λ x y. some_at x y steps) (same_number place.0 r (left_true _ _ e)) (same_number place.1 p (right_true _ _ e))

either : (a b : Bool) → (a || b) ≡ true → b ≡ false → a ≡ true
either true b e f = refl
either false b e f = cc

-- where all rest, the lines of each pass end idle
rest_each : (steps : List (ℕ × Line)) → all_rest steps ≡ true → (r p : ℕ) → is_idle (stage_behind Stage.idle (lines_of r p steps)) ≡ true
rest_each [] e r p = refl
rest_each (step ∷ steps) e r p =
    here (is_at r p (place_of step.1)) refl (some_at r p steps) refl (left_true _ _ e) (rest_each steps (right_true (is_idle (stage_after step.1) || has_more (place_of step.1) steps) (all_rest steps) e) r p)
  where
    here : (a : Bool) → is_at r p (place_of step.1) ≡ a → (b : Bool) → some_at r p steps ≡ b → (is_idle (stage_after step.1) || has_more (place_of step.1) steps) ≡ true
        → is_idle (stage_behind Stage.idle (lines_of r p steps)) ≡ true
        → is_idle (stage_behind Stage.idle (cond a (step.1 ∷ lines_of r p steps) (lines_of r p steps))) ≡ true
    here false f b g test rest = rest
    here true f true g test rest = ap is_idle (some_lines (stage_after step.1) r p steps g) ∙ rest
    here true f false g test rest =
        ap (λ ls. is_idle (stage_behind (stage_after step.1) ls)) (no_lines r p steps g)
        ∙ either (is_idle (stage_after step.1)) (has_more (place_of step.1) steps) test (more_is (place_of step.1) r p steps f ∙ g)

itself : (n : ℕ) → nat_eq n n ≡ true
itself n = grind (arith, nat_tests)

-- where the lines of each pass end idle, all rest
each_rest : (steps : List (ℕ × Line)) → AreNear steps → ((r p : ℕ) → r < 64 → p < 256 → is_idle (stage_behind Stage.idle (lines_of r p steps)) ≡ true) → all_rest steps ≡ true
each_rest [] near each = refl
each_rest (step ∷ steps) near each =
    both_true _ _ (first (place_of step.1) refl (near 0 step refl)) (each_rest steps (λ i x e. near (suc i) x e) (λ r p a b. later r p (is_at r p (place_of step.1)) refl (each r p a b)))
  where
    later : (r p : ℕ) (a : Bool) → is_at r p (place_of step.1) ≡ a → is_idle (stage_behind Stage.idle (lines_of r p (step ∷ steps))) ≡ true
        → is_idle (stage_behind Stage.idle (lines_of r p steps)) ≡ true
    later r p true f g = from_idle (stage_after step.1) (lines_of r p steps) (sym (ap (λ b. is_idle (stage_behind Stage.idle (cond b (step.1 ∷ lines_of r p steps) (lines_of r p steps)))) f) ∙ g)
    later r p false f g = sym (ap (λ b. is_idle (stage_behind Stage.idle (cond b (step.1 ∷ lines_of r p steps) (lines_of r p steps)))) f) ∙ g

    alone : (region pass : ℕ) → place_of step.1 ≡ Some (region, pass) → some_at region pass steps ≡ false → region < 64 → pass < 256 → is_idle (stage_after step.1) ≡ true
    alone region pass f g a b =
        sym (ap (λ c. is_idle (stage_behind Stage.idle (cond c (step.1 ∷ lines_of region pass steps) (lines_of region pass steps)))) (ap (is_at region pass) f ∙ both_true _ _ (itself region) (itself pass))
        ∙ ap (λ ls. is_idle (stage_behind (stage_after step.1) ls)) (no_lines region pass steps g)) ∙ each region pass a b

    or_else : (a b : Bool) → (b ≡ false → a ≡ true) → (a || b) ≡ true
    or_else true b h = refl
    or_else false true h = refl
    or_else false false h = h refl

    first : (place : Option (ℕ × ℕ)) → place_of step.1 ≡ place → IsNear (place_of step.1) → (is_idle (stage_after step.1) || has_more (place_of step.1) steps) ≡ true
    first None f near = ap (λ b. b || has_more (place_of step.1) steps) (idle_without step.1 f)
    first (Some place) f near =
        let here : IsNear (Some place) = subst IsNear f near in
        or_else (is_idle (stage_after step.1)) (has_more (place_of step.1) steps) (λ g. alone place.0 place.1 f (sym (ap (λ o. has_more o steps) f) ∙ g) here.0 here.1)

all_from : {X : Type 0} (f : X → Bool) (d : X) (xs : List X) → ((k : ℕ) → k < length xs → f (slice_index_or xs k d) ≡ true) → list_all f xs ≡ true
all_from f d [] h = refl
all_from f d (x ∷ xs) h = both_true _ _ (h 0 (omega arith)) (all_from f d xs (λ k below. h (suc k) (omega arith)))

all_at : {X : Type 0} (f : X → Bool) (d : X) (xs : List X) → list_all f xs ≡ true → (k : ℕ) → k < length xs → f (slice_index_or xs k d) ≡ true
all_at f d [] h k below = absurd (omega arith)
all_at f d (x ∷ xs) h zero below = left_true _ _ h
all_at f d (x ∷ xs) h (suc k) below = all_at f d xs (right_true (f x) (list_all f xs) h) k (omega arith)

resting_is : (d : Doing) → is_idle (stage_of d) ≡ is_resting d
resting_is doings.Idle = refl
resting_is doings.Attached = refl
resting_is doings.Changing = refl

same_tests : (a b : Bool) → (a ≡ true → b ≡ true) → (b ≡ true → a ≡ true) → a ≡ b
same_tests true b f g = sym (f refl)
same_tests false true f g = cc (g refl)
same_tests false false f g = refl

place_again : (k : ℕ) → place_in (k / 256) (k % 256) ≡ k
place_again k = omega arith

-- all rest exactly where the table says so of each pass
pub rest_is : (steps : List (ℕ × Line)) (doing : List Doing) → Tells steps doing → AreNear steps → all_rest steps ≡ list_all is_resting doing
rest_is steps doing tells near = same_tests (all_rest steps) (list_all is_resting doing)
    (λ rest. all_from is_resting doings.Idle doing (λ k below. there k below rest))
    (λ all. each_rest steps near (λ r p a b. ap is_idle (sym (tells.each r p a b)) ∙ (resting_is (slice_index_or doing (place_in r p) doings.Idle)
    ∙ all_at is_resting doings.Idle doing all (place_in r p) (inside r p a b))))
  where
    inside : (r p : ℕ) → r < 64 → p < 256 → place_in r p < length doing
    inside r p a b = let size : length doing ≡ 16384 = tells.size in omega arith

    there : (k : ℕ) → k < length doing → all_rest steps ≡ true → is_resting (slice_index_or doing k doings.Idle) ≡ true
    there k below rest =
        let size : length doing ≡ 16384 = tells.size in
        let low : k / 256 < 64 = omega arith in
        let few : k % 256 < 256 = omega arith in
        sym (resting_is (slice_index_or doing k doings.Idle)) ∙ (ap (λ n. is_idle (stage_of (slice_index_or doing n doings.Idle))) (sym (place_again k))
        ∙ (ap is_idle (tells.each (k / 256) (k % 256) low few) ∙ rest_each steps rest (k / 256) (k % 256)))
