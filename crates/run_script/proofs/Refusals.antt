-- The first step that a recording refuses.
use Rattle.std.proofs.Common.{◌≡◌, ℕ, zero, suc, ◌+◌, ◌<◌, ◌≤◌, Bool, ◌&&◌, List, [], ◌∷◌, ◌++◌, length, take, Option, Some, None, ap, ap₂, sym, subst, ◌∙◌, refl, arith, cond, append-nil, append_assoc, add-one}
use Rattle.std.specs.List.{list_all, slice_get}
use Rattle.std.proofs.lemmas.List.{length-take-le, take_all}
use Rattle.std.proofs.lemmas.Option.{slice_get_within}
use Rattle.run_script.specs.declared.pass_stages.Doing.{Doing}
use Rattle.run_script.specs.declared.script.Line.{Line}
use Rattle.run_script.specs.declared.script.Line.TheVariants as lines
use Rattle.run_script.specs.declared.script.Script.{Script}
use Rattle.run_script.specs.Recording.{place_of, comes_at, suits, wrong_step, all_rest, line_behind, unrest_line, or_else}
use Rattle.run_script.specs.RecordingSteps.{IsFirst, IsNear, AreNear, Tells, is_resting, comes, comes_behind, line_passes, passes_at, right_with, suits_image}
use Rattle.run_script.specs.Rules.{IsRegion, HasPass, IsPlaced, KeepsRules}
use Rattle.run_script.proofs.Firsts.{first_same, first_both}
use Rattle.run_script.proofs.Stages.{rest_is}
use Rattle.run_script.proofs.Held.{right_is}

-- The places of a script's steps

has_near : (script : Script) → KeepsRules script → (region pass : ℕ) → HasPass script.regions region pass → (region < 64) × (pass < 256)
has_near script rules region pass (row, there, below) =
    let few : length script.regions ≤ 64 = rules.few in
    let inside : region < length script.regions = slice_get_within script.regions region row there in
    let is : IsRegion script.images row = rules.opened region row there in
    let most : row.passes ≤ 255 = is.passes.1 in
    (omega arith, omega arith)

line_near : (script : Script) → KeepsRules script → (line : Line) → IsPlaced script.images script.regions line → IsNear (place_of line)
line_near script rules (lines.Attach region pass) placed = has_near script rules region pass placed
line_near script rules (lines.Detach region pass) placed = has_near script rules region pass placed
line_near script rules (lines.Swap region pass item instance value) placed = has_near script rules region pass placed
line_near script rules (lines.Add region pass item instance number) placed = has_near script rules region pass placed
line_near script rules (lines.Begin region pass image moment) placed = has_near script rules region pass placed.0
line_near script rules (lines.Step region pass) placed = has_near script rules region pass placed
line_near script rules (lines.Finish region pass) placed = has_near script rules region pass placed
line_near script rules (lines.Load region pass) placed = has_near script rules region pass placed
line_near script rules (lines.Word region pass index) placed = has_near script rules region pass placed
line_near script rules (lines.Done region pass) placed = has_near script rules region pass placed
line_near script rules (lines.Tick stamp) placed = tt
line_near script rules lines.Flush placed = tt

pub near_all : (script : Script) → KeepsRules script → AreNear script.steps
near_all script rules i step e = line_near script rules step.1 (rules.placed i step e)

get_take : (steps : List (ℕ × Line)) (n k : ℕ) → k < n → slice_get (take n steps) k ≡ slice_get steps k
get_take [] zero k below = refl
get_take [] (suc n) k below = refl
get_take (step ∷ steps) zero k below = absurd (omega arith)
get_take (step ∷ steps) (suc n) zero below = refl
get_take (step ∷ steps) (suc n) (suc k) below = get_take steps n k (omega arith)

-- a test of the steps before some
pub first_front : (test : Line → Bool) (steps : List (ℕ × Line)) (n m : ℕ) → n ≤ length steps → IsFirst (passes_at test (take n steps)) (length (take n steps)) m → IsFirst (passes_at test steps) n m
first_front test steps n m inside h =
    first_same (passes_at test (take n steps)) (passes_at test steps) n m (λ k below. ap (line_passes test) (get_take steps n k below))
    (subst (λ last. IsFirst (passes_at test (take n steps)) last m) (length-take-le n steps inside) h)

and_passes : (f g : Line → Bool) (step : Option (ℕ × Line)) → (line_passes f step && line_passes g step) ≡ line_passes (λ line. f line && g line) step
and_passes f g None = refl
and_passes f g (Some step) = refl

-- one more image is asked
pub right_more : (script : Script) (at : ℕ) (steps : List (ℕ × Line)) (n m : ℕ) → IsFirst (passes_at (right_with script at) steps) (length steps) n
    → IsFirst (passes_at (suits_image script at) (take n steps)) (length (take n steps)) m → IsFirst (passes_at (right_with script (suc at)) steps) (length steps) m
right_more script at steps n m h g =
    first_same (λ k. passes_at (right_with script at) steps k && passes_at (suits_image script at) steps k) (passes_at (right_with script (suc at)) steps) (length steps) m
    (λ k below. and_passes (right_with script at) (suits_image script at) (slice_get steps k))
    (first_both (passes_at (right_with script at) steps) (passes_at (suits_image script at) steps) (length steps) n m h (first_front (suits_image script at) steps n m h.within g))

pub right_more_at : (script : Script) (at : ℕ) (steps : List (ℕ × Line)) (n m : ℕ) → IsFirst (passes_at (right_with script at) steps) (length steps) n
    → IsFirst (passes_at (suits_image script at) (take n steps)) (length (take n steps)) m → IsFirst (passes_at (right_with script (at + 1)) steps) (length steps) m
right_more_at script at steps n m h g = subst (λ next. IsFirst (passes_at (right_with script next) steps) (length steps) m) (sym (add-one at)) (right_more script at steps n m h g)

-- The first wrong step

abbrev pub line_there : Option (ℕ × Line) → Option ℕ
line_there None = None
line_there (Some step) = Some step.0

wrong_is : (script : Script) (before steps : List (ℕ × Line)) (right : ℕ → Bool) (n : ℕ)
    → ((k : ℕ) (step : ℕ × Line) → slice_get steps k ≡ Some step → right k ≡ (comes_at (before ++ take k steps) step.1 (place_of step.1) && suits script step.1))
    → IsFirst right (length steps) n → wrong_step script before steps ≡ line_there (slice_get steps n)
wrong_is script before [] right n same h = refl
wrong_is script before (step ∷ steps) right zero same h =
    ap (λ b. cond b (wrong_step script (before ++ step ∷ []) steps) (Some step.0))
    (sym (same 0 step refl ∙ ap (λ front. comes_at front step.1 (place_of step.1) && suits script step.1) (append-nil before)) ∙ h.stops (omega arith))
wrong_is script before (step ∷ steps) right (suc n) same h =
    ap (λ b. cond b (wrong_step script (before ++ step ∷ []) steps) (Some step.0))
    (sym (same 0 step refl ∙ ap (λ front. comes_at front step.1 (place_of step.1) && suits script step.1) (append-nil before)) ∙ h.before 0 (omega arith))
    ∙ wrong_is script (before ++ step ∷ []) steps (λ k. right (suc k)) n
    (λ k next e. same (suc k) next e ∙ ap (λ front. comes_at front next.1 (place_of next.1) && suits script next.1) (sym (append_assoc before (step ∷ []) (take k steps))))
    record {
      within = let w : suc n ≤ suc (length steps) = h.within in omega arith;
      before = λ k below. h.before (suc k) (omega arith);
      stops = λ less. h.stops (omega arith);
    }

-- how many steps may come, and how many of these are right, lead to the first wrong one
pub found_is : (script : Script) → KeepsRules script → (came count : ℕ) → IsFirst (comes script.steps) (length script.steps) came
    → IsFirst (passes_at (right_with script (length script.images)) (take came script.steps)) (length (take came script.steps)) count
    → wrong_step script [] script.steps ≡ line_there (slice_get script.steps count)
found_is script rules came count h g =
    wrong_is script [] script.steps (λ k. comes script.steps k && passes_at (right_with script (length script.images)) script.steps k) count
    (λ k step e. ap₂ (λ a b. a && b) (ap (comes_behind (take k script.steps)) e) (ap (line_passes (right_with script (length script.images))) e ∙ sym (right_is script rules step.1)))
    (first_both (comes script.steps) (passes_at (right_with script (length script.images)) script.steps) (length script.steps) came count h
    (first_front (right_with script (length script.images)) script.steps came count h.within g))

none_past : (steps : List (ℕ × Line)) (n : ℕ) → slice_get steps n ≡ None → length steps ≤ n
none_past [] n e = omega arith
none_past (step ∷ steps) zero e = cc
none_past (step ∷ steps) (suc n) e = let rest : length steps ≤ n = none_past steps n e in omega arith

-- without a wrong step the table tells what each pass is doing behind all of them
pub rests_behind : (script : Script) → KeepsRules script → (came count : ℕ) (doing : List Doing) → IsFirst (comes script.steps) (length script.steps) came
    → IsFirst (passes_at (right_with script (length script.images)) (take came script.steps)) (length (take came script.steps)) count → slice_get script.steps count ≡ None
    → Tells (take came script.steps) doing → all_rest script.steps ≡ list_all is_resting doing
rests_behind script rules came count doing h g none tells =
    let past : length script.steps ≤ count = none_past script.steps count none in
    let low : came ≤ length script.steps = h.within in
    let within : count ≤ came = subst (λ n. count ≤ n) (length-take-le came script.steps low) g.within in
    let all : length script.steps ≤ came = omega arith in
    rest_is script.steps doing (subst (λ front. Tells front doing) (take_all came script.steps all) tells) (near_all script rules)

-- The answers

module _ (script : Script) (rules : KeepsRules script) (steps : List (ℕ × Line)) (same : steps ≡ script.steps) (came count : ℕ) where
  found_in : IsFirst (comes steps) (length steps) came → IsFirst (passes_at (right_with script (length script.images)) (take came steps)) (length (take came steps)) count
      → wrong_step script [] script.steps ≡ line_there (slice_get script.steps count)
  found_in =
      subst (λ (s : List (ℕ × Line)). IsFirst (comes s) (length s) came → IsFirst (passes_at (right_with script (length script.images)) (take came s)) (length (take came s)) count
      → wrong_step script [] script.steps ≡ line_there (slice_get script.steps count)) (sym same) (found_is script rules came count)

  rests_in : (doing : List Doing) → IsFirst (comes steps) (length steps) came → IsFirst (passes_at (right_with script (length script.images)) (take came steps)) (length (take came steps)) count
      → slice_get script.steps count ≡ None → Tells (take came steps) doing → all_rest script.steps ≡ list_all is_resting doing
  rests_in doing =
      subst (λ (s : List (ℕ × Line)). IsFirst (comes s) (length s) came → IsFirst (passes_at (right_with script (length script.images)) (take came s)) (length (take came s)) count
      → slice_get script.steps count ≡ None → Tells (take came s) doing → all_rest script.steps ≡ list_all is_resting doing) (sym same) (rests_behind script rules came count doing)

  pub refused_there : (step : ℕ × Line) → IsFirst (comes steps) (length steps) came → IsFirst (passes_at (right_with script (length script.images)) (take came steps)) (length (take came steps)) count
      → Some step ≡ slice_get script.steps count → Some step.0 ≡ or_else (wrong_step script [] script.steps) (unrest_line script.steps)
  refused_there step h g e = sym (ap (λ o. or_else o (unrest_line script.steps)) (found_in h g ∙ ap line_there (sym e)))

  pub refused_behind : (doing : List Doing) (rest : Bool) → IsFirst (comes steps) (length steps) came
      → IsFirst (passes_at (right_with script (length script.images)) (take came steps)) (length (take came steps)) count → None ≡ slice_get script.steps count → Tells (take came steps) doing
      → list_all is_resting doing ≡ rest → cond rest None (Some (line_behind script.steps)) ≡ or_else (wrong_step script [] script.steps) (unrest_line script.steps)
  refused_behind doing rest h g e tells all =
      sym (ap (λ o. or_else o (unrest_line script.steps)) (found_in h g ∙ ap line_there (sym e))
      ∙ ap (λ b. cond b None (Some (line_behind script.steps))) (rests_in doing h g (sym e) tells ∙ all))
