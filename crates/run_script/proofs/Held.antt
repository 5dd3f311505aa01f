-- The regions that may hold an image.
use Rattle.std.proofs.Common.{◌≡◌, ◌≢◌, ℕ, zero, suc, ◌+◌, ◌<◌, ◌⊎◌, ⊎_elim, Bool, true, false, ◌&&◌, ◌||◌, nat_eq, List, [], ◌∷◌, length, take, slice_index_or, slice_set, Option, Some, None, IfSome, ap, sym, subst, ◌∙◌, refl, arith, cond, replicate}
use Rattle.std.specs.List.{list_all, list_any, slice_get}
use Rattle.std.proofs.lemmas.List.{get_or-set_same, get_or-set_other}
use Rattle.std.proofs.lemmas.List.Folds.{list_any_more, list_all-append}
use Rattle.std.proofs.lemmas.Option.{slice_get_within}
use Rattle.std.proofs.lemmas.Bool.Decides.{nat_tests}
use Rattle.run_script.specs.declared.script.Line.{Line}
use Rattle.run_script.specs.declared.script.Line.TheVariants as lines
use Rattle.run_script.specs.declared.script.RegionRow.{RegionRow}
use Rattle.run_script.specs.declared.script.Script.{Script}
use Rattle.run_script.specs.Recording.{place_of, image_words, with_change, changed_to, opened_on, held_by, slot_in, takes_swap, takes_add, suits}
use Rattle.run_script.specs.RecordingSteps.{IsNear, begins, opens, is_place, is_held, may_hold, suits_in, suits_image, right_with, fits_room, TellsHeld, AreNear, passes_at, line_passes}
use Rattle.run_script.proofs.Stages.{step_there, near_at}
use Rattle.run_script.specs.Rules.{AtEach, IsRegion, IsPlaced, KeepsRules}
use Rattle.run_script.proofs.Firsts.{left_true, right_true, both_true}

-- Flags

clear_at : (n i : ℕ) → slice_index_or (replicate n false) i false ≡ false
clear_at zero i = refl
clear_at (suc n) zero = refl
clear_at (suc n) (suc i) = clear_at n i

pub none_held : (held : List Bool) → held ≡ replicate 64 false → (region : ℕ) → is_held held region ≡ false
none_held held e region = ap (λ h. is_held h region) e ∙ clear_at 64 region

pub or_nothing : (b : Bool) → (b || false) ≡ b
or_nothing true = refl
or_nothing false = refl

or_true : (b : Bool) → (b || true) ≡ true
or_true true = refl
or_true false = refl

or_assoc : (a b c : Bool) → ((a || b) || c) ≡ (a || (b || c))
or_assoc true b c = refl
or_assoc false b c = refl

same_number : (a b : ℕ) → nat_eq a b ≡ true → a ≡ b
same_number a b e = grind (arith, nat_tests)

other_number : (a b : ℕ) → nat_eq a b ≡ false → b ≢ a
other_number a b e = grind (arith, nat_tests)

itself : (n : ℕ) → nat_eq n n ≡ true
itself n = grind (arith, nat_tests)

-- one more region is marked
pub marks_one : (held : List Bool) (found region : ℕ) → found < length held → is_held (slice_set held found true) region ≡ (is_held held region || is_place (Some found) region)
marks_one held found region below = here (nat_eq found region) refl
  where
    here : (b : Bool) → nat_eq found region ≡ b → is_held (slice_set held found true) region ≡ (is_held held region || nat_eq found region)
    here true e =
        ap (λ r. is_held (slice_set held found true) r) (sym (same_number found region e)) ∙ (get_or-set_same held found true false below
        ∙ sym (ap (λ b. is_held held region || b) e ∙ or_true (is_held held region)))
    here false e =
        get_or-set_other held found region true false (other_number found region e) ∙ sym (ap (λ b. is_held held region || b) e ∙ or_nothing (is_held held region))

-- one more step
pub held_more : (p : ℕ × Line → Bool) (steps : List (ℕ × Line)) (k : ℕ) (step : ℕ × Line) (now next first : Bool) → k < length steps → step ≡ slice_index_or steps k step
    → now ≡ (first || list_any p (take k steps)) → next ≡ (now || p step) → next ≡ (first || list_any p (take (k + 1) steps))
held_more p steps k step now next first below e so one =
    one ∙ (ap (λ b. b || p step) so ∙ (or_assoc first (list_any p (take k steps)) (p step)
    ∙ ap (λ b. first || b) (ap (λ s. list_any p (take k steps) || p s) e ∙ sym (list_any_more p steps k step below))))

-- A line and the flags of its region

pub suits_same : (f g : ℕ → Bool) (words : List ℕ) (line : Line) → IsNear (place_of line) → ((region : ℕ) → region < 64 → f region ≡ g region) → suits_in f words line ≡ suits_in g words line
suits_same f g words (lines.Attach region pass) near same = refl
suits_same f g words (lines.Detach region pass) near same = refl
suits_same f g words (lines.Swap region pass item instance value) near same = ap (λ b. cond b (takes_swap words (slot_in words item instance) value) true) (same region near.0)
suits_same f g words (lines.Add region pass item instance number) near same = ap (λ b. cond b (takes_add (slot_in words item instance)) true) (same region near.0)
suits_same f g words (lines.Begin region pass image moment) near same = refl
suits_same f g words (lines.Step region pass) near same = refl
suits_same f g words (lines.Finish region pass) near same = refl
suits_same f g words (lines.Load region pass) near same = refl
suits_same f g words (lines.Word region pass index) near same = refl
suits_same f g words (lines.Done region pass) near same = refl
suits_same f g words (lines.Tick stamp) near same = refl
suits_same f g words lines.Flush near same = refl

pub low_in : (held first : List Bool) (n : ℕ) → length held ≡ length first → length first ≡ 64 → n < 64 → n < length held
low_in held first n a b c = omega arith

-- what an image has of a step's line, by the flags
pub suits_at : (script : Script) (at : ℕ) (words : List ℕ) (held : List Bool) (steps : List (ℕ × Line)) (k : ℕ) (step : ℕ × Line) → image_words script.images at ≡ words → TellsHeld script at held
    → AreNear steps → k < length steps → step ≡ slice_index_or steps k step → passes_at (suits_image script at) steps k ≡ suits_in (is_held held) words step.1
suits_at script at words held steps k step same tells near below e =
    ap (line_passes (suits_image script at)) (step_there steps k step below e)
    ∙ (ap (λ (w : List ℕ). suits_in (may_hold script at) w step.1) same
    ∙ sym (suits_same (is_held held) (may_hold script at) words step.1 (near_at steps k step near below e) (λ region low. tells.each region low)))

-- The images that a region may hold

-- the image to which a line begins a region's change
abbrev change_of : ℕ → Line → Option ℕ
change_of region (lines.Begin other pass image moment) = cond (nat_eq other region) (Some image) None
change_of region line = None

abbrev with_one : List (List ℕ × List ℕ) → Option ℕ → List (List ℕ) → List (List ℕ)
with_one images None held = held
with_one images (Some image) held = image_words images image ∷ held

with_is : (images : List (List ℕ × List ℕ)) (region : ℕ) (line : Line) (held : List (List ℕ)) → with_change images region line held ≡ with_one images (change_of region line) held
with_is images region (lines.Attach other pass) held = refl
with_is images region (lines.Detach other pass) held = refl
with_is images region (lines.Swap other pass item instance value) held = refl
with_is images region (lines.Add other pass item instance number) held = refl
with_is images region (lines.Begin other pass image moment) held = here (nat_eq other region)
  where
    here : (b : Bool) → cond b (image_words images image ∷ held) held ≡ with_one images (cond b (Some image) None) held
    here true = refl
    here false = refl
with_is images region (lines.Step other pass) held = refl
with_is images region (lines.Finish other pass) held = refl
with_is images region (lines.Load other pass) held = refl
with_is images region (lines.Word other pass index) held = refl
with_is images region (lines.Done other pass) held = refl
with_is images region (lines.Tick stamp) held = refl
with_is images region lines.Flush held = refl

begins_is : (region image : ℕ) (line : Line) → begins region image line ≡ is_place (change_of region line) image
begins_is region image (lines.Attach other pass) = refl
begins_is region image (lines.Detach other pass) = refl
begins_is region image (lines.Swap other pass item instance value) = refl
begins_is region image (lines.Add other pass item instance number) = refl
begins_is region image (lines.Begin other pass at moment) = here (nat_eq other region)
  where
    here : (b : Bool) → (b && nat_eq at image) ≡ is_place (cond b (Some at) None) image
    here true = refl
    here false = refl
begins_is region image (lines.Step other pass) = refl
begins_is region image (lines.Finish other pass) = refl
begins_is region image (lines.Load other pass) = refl
begins_is region image (lines.Word other pass index) = refl
begins_is region image (lines.Done other pass) = refl
begins_is region image (lines.Tick stamp) = refl
begins_is region image lines.Flush = refl

-- a change leads to an image that is there
change_there : (images : List (List ℕ × List ℕ)) (rows : List RegionRow) (region image : ℕ) (line : Line) → IsPlaced images rows line → change_of region line ≡ Some image → image < length images
change_there images rows region image (lines.Attach other pass) placed e = cc
change_there images rows region image (lines.Detach other pass) placed e = cc
change_there images rows region image (lines.Swap other pass item instance value) placed e = cc
change_there images rows region image (lines.Add other pass item instance number) placed e = cc
change_there images rows region image (lines.Begin other pass at moment) placed e = here (nat_eq other region) e
  where
    same_some : (a b : ℕ) → Some a ≡ Some b → a ≡ b
    same_some a b e = cc

    here : (b : Bool) → cond b (Some at) None ≡ Some image → image < length images
    here true e = subst (λ n. n < length images) (same_some at image e) placed.1
    here false e = cc
change_there images rows region image (lines.Step other pass) placed e = cc
change_there images rows region image (lines.Finish other pass) placed e = cc
change_there images rows region image (lines.Load other pass) placed e = cc
change_there images rows region image (lines.Word other pass index) placed e = cc
change_there images rows region image (lines.Done other pass) placed e = cc
change_there images rows region image (lines.Tick stamp) placed e = cc
change_there images rows region image lines.Flush placed e = cc

abbrev begun : ℕ → ℕ → List (ℕ × Line) → Bool
begun region image steps = list_any (λ (step : ℕ × Line). begins region image step.1) steps

-- what all images of the changes pass, each passes
changed_each : (f : List ℕ → Bool) (images : List (List ℕ × List ℕ)) (region image : ℕ) (steps : List (ℕ × Line)) → list_all f (changed_to images region steps) ≡ true → begun region image steps ≡ true
    → f (image_words images image) ≡ true
changed_each f images region image [] all e = cc
changed_each f images region image (step ∷ steps) all e =
    here (change_of region step.1) (sym (ap (list_all f) (with_is images region step.1 (changed_to images region steps))) ∙ all)
    (sym (ap (λ b. b || begun region image steps) (begins_is region image step.1)) ∙ e) (changed_each f images region image steps)
  where
    here : (found : Option ℕ) → list_all f (with_one images found (changed_to images region steps)) ≡ true → (is_place found image || begun region image steps) ≡ true
        → (list_all f (changed_to images region steps) ≡ true → begun region image steps ≡ true → f (image_words images image) ≡ true) → f (image_words images image) ≡ true
    here None all e rest = rest all e
    here (Some at) all e rest = this (nat_eq at image) refl e
      where
        this : (b : Bool) → nat_eq at image ≡ b → (b || begun region image steps) ≡ true → f (image_words images image) ≡ true
        this true s e = ap (λ n. f (image_words images n)) (sym (same_number at image s)) ∙ left_true _ _ all
        this false s e = rest (right_true (f (image_words images at)) (list_all f (changed_to images region steps)) all) e

-- what each passes, all do
each_changed : (f : List ℕ → Bool) (images : List (List ℕ × List ℕ)) (rows : List RegionRow) (region : ℕ) (steps : List (ℕ × Line)) → AtEach (λ step. IsPlaced images rows step.1) steps
    → ((image : ℕ) → image < length images → begun region image steps ≡ true → f (image_words images image) ≡ true) → list_all f (changed_to images region steps) ≡ true
each_changed f images rows region [] placed each = refl
each_changed f images rows region (step ∷ steps) placed each =
    ap (list_all f) (with_is images region step.1 (changed_to images region steps))
    ∙ here (change_of region step.1) refl
    (each_changed f images rows region steps (λ i x e. placed (suc i) x e) (λ image below e. each image below (ap (λ b. begins region image step.1 || b) e ∙ or_true (begins region image step.1))))
  where
    here : (found : Option ℕ) → change_of region step.1 ≡ found → list_all f (changed_to images region steps) ≡ true → list_all f (with_one images found (changed_to images region steps)) ≡ true
    here None e rest = rest
    here (Some at) e rest =
        both_true _ _ (each at (change_there images rows region at step.1 (placed 0 step refl) e)
        (ap (λ b. b || begun region at steps) (begins_is region at step.1 ∙ (ap (λ o. is_place o at) e ∙ itself at)))) rest

opened_each : (f : List ℕ → Bool) (images : List (List ℕ × List ℕ)) (image : ℕ) (row : Option RegionRow) → list_all f (opened_on images row) ≡ true → opens image row ≡ true → f (image_words images image) ≡ true
opened_each f images image None all e = cc
opened_each f images image (Some row) all e = ap (λ n. f (image_words images n)) (sym (same_number row.image image e)) ∙ left_true _ _ all

each_opened : (f : List ℕ → Bool) (images : List (List ℕ × List ℕ)) (row : Option RegionRow) → IfSome row (λ r. r.image < length images)
    → ((image : ℕ) → image < length images → opens image row ≡ true → f (image_words images image) ≡ true) → list_all f (opened_on images row) ≡ true
each_opened f images None there each = refl
each_opened f images (Some row) there each = both_true _ _ (each row.image there (itself row.image)) refl

row_there : (script : Script) → KeepsRules script → (region : ℕ) (row : Option RegionRow) → slice_get script.regions region ≡ row → IfSome row (λ r. r.image < length script.images)
row_there script rules region None e = tt
row_there script rules region (Some row) e =
    let is : IsRegion script.images row = rules.opened region row e in
    slice_get_within script.images row.image is.opens.0 is.opens.1

-- an image's part of a test of all images that a region may hold
abbrev part : Script → ℕ → (List ℕ → Bool) → ℕ → Bool
part script region f image = cond (may_hold script image region) (f (image_words script.images image)) true

pub held_each : (script : Script) (region : ℕ) (f : List ℕ → Bool) → list_all f (held_by script region) ≡ true → (image : ℕ) → part script region f image ≡ true
held_each script region f all image = here (opens image (slice_get script.regions region)) refl (begun region image script.steps) refl
  where
    opened : list_all f (opened_on script.images (slice_get script.regions region)) ≡ true
    opened = left_true _ _ (sym (list_all-append f (opened_on script.images (slice_get script.regions region)) (changed_to script.images region script.steps)) ∙ all)

    changed : list_all f (changed_to script.images region script.steps) ≡ true
    changed = right_true (list_all f (opened_on script.images (slice_get script.regions region))) (list_all f (changed_to script.images region script.steps))
        (sym (list_all-append f (opened_on script.images (slice_get script.regions region)) (changed_to script.images region script.steps)) ∙ all)

    here : (a : Bool) → opens image (slice_get script.regions region) ≡ a → (b : Bool) → begun region image script.steps ≡ b → cond (a || b) (f (image_words script.images image)) true ≡ true
    here true d b e = opened_each f script.images image (slice_get script.regions region) opened d
    here false d true e = changed_each f script.images region image script.steps changed e
    here false d false e = refl

pub each_held : (script : Script) → KeepsRules script → (region : ℕ) (f : List ℕ → Bool) → ((image : ℕ) → image < length script.images → part script region f image ≡ true) → list_all f (held_by script region) ≡ true
each_held script rules region f each =
    list_all-append f (opened_on script.images (slice_get script.regions region)) (changed_to script.images region script.steps)
    ∙ both_true _ _
    (each_opened f script.images (slice_get script.regions region) (row_there script rules region (slice_get script.regions region) refl)
    (λ image below e. sym (ap (λ b. cond (b || begun region image script.steps) (f (image_words script.images image)) true) e) ∙ each image below))
    (each_changed f script.images script.regions region script.steps rules.placed
    (λ image below e. sym (ap (λ b. cond b (f (image_words script.images image)) true) (ap (λ b. opens image (slice_get script.regions region) || b) e ∙ or_true (opens image (slice_get script.regions region)))) ∙ each image below))

-- A line is right with all images exactly where the rule says so

-- so far
right_each : (script : Script) (n : ℕ) (line : Line) → right_with script n line ≡ true → (fits_room script line ≡ true) × ((image : ℕ) → image < n → suits_image script image line ≡ true)
right_each script zero line e = (e, λ image below. absurd (omega arith))
right_each script (suc n) line e =
    let before = right_each script n line (left_true _ _ e) in
    (before.0, λ image below. below_suc image below before.1 (right_true (right_with script n line) (suits_image script n line) e))
  where
    cases : (image : ℕ) → image < suc n → (image < n) ⊎ (image ≡ n)
    cases image below = grind arith

    below_suc : (image : ℕ) → image < suc n → ((image : ℕ) → image < n → suits_image script image line ≡ true) → suits_image script n line ≡ true → suits_image script image line ≡ true
    below_suc image below before here = ⊎_elim (λ (less : image < n). before image less) (λ (same : image ≡ n). ap (λ i. suits_image script i line) same ∙ here) (cases image below)

each_right : (script : Script) (n : ℕ) (line : Line) → fits_room script line ≡ true → ((image : ℕ) → image < n → suits_image script image line ≡ true) → right_with script n line ≡ true
each_right script zero line e each = e
each_right script (suc n) line e each = both_true _ _ (each_right script n line e (λ image below. each image (omega arith))) (each n (omega arith))

same_tests : (a b : Bool) → (a ≡ true → b ≡ true) → (b ≡ true → a ≡ true) → a ≡ b
same_tests true b f g = sym (f refl)
same_tests false true f g = cc (g refl)
same_tests false false f g = refl

-- a line that no image is asked of
room_alone : (script : Script) (n : ℕ) (line : Line) → ((image : ℕ) → suits_image script image line ≡ true) → fits_room script line ≡ right_with script n line
room_alone script n line each = same_tests (fits_room script line) (right_with script n line) (λ e. each_right script n line e (λ image below. each image)) (λ e. (right_each script n line e).0)

pub right_is : (script : Script) → KeepsRules script → (line : Line) → suits script line ≡ right_with script (length script.images) line
right_is script rules (lines.Attach region pass) = room_alone script (length script.images) (lines.Attach region pass) (λ image. refl)
right_is script rules (lines.Detach region pass) = room_alone script (length script.images) (lines.Detach region pass) (λ image. refl)
right_is script rules (lines.Swap region pass item instance value) =
    same_tests _ _ (λ all. each_right script (length script.images) (lines.Swap region pass item instance value) refl
    (λ image below. held_each script region (λ words. takes_swap words (slot_in words item instance) value) all image))
    (λ e. each_held script rules region (λ words. takes_swap words (slot_in words item instance) value) (right_each script (length script.images) (lines.Swap region pass item instance value) e).1)
right_is script rules (lines.Add region pass item instance number) =
    same_tests _ _ (λ all. each_right script (length script.images) (lines.Add region pass item instance number) refl
    (λ image below. held_each script region (λ words. takes_add (slot_in words item instance)) all image))
    (λ e. each_held script rules region (λ words. takes_add (slot_in words item instance)) (right_each script (length script.images) (lines.Add region pass item instance number) e).1)
right_is script rules (lines.Begin region pass image moment) = room_alone script (length script.images) (lines.Begin region pass image moment) (λ image. refl)
right_is script rules (lines.Step region pass) = room_alone script (length script.images) (lines.Step region pass) (λ image. refl)
right_is script rules (lines.Finish region pass) = room_alone script (length script.images) (lines.Finish region pass) (λ image. refl)
right_is script rules (lines.Load region pass) = room_alone script (length script.images) (lines.Load region pass) (λ image. refl)
right_is script rules (lines.Word region pass index) = room_alone script (length script.images) (lines.Word region pass index) (λ image. refl)
right_is script rules (lines.Done region pass) = room_alone script (length script.images) (lines.Done region pass) (λ image. refl)
right_is script rules (lines.Tick stamp) = room_alone script (length script.images) (lines.Tick stamp) (λ image. refl)
right_is script rules lines.Flush = room_alone script (length script.images) lines.Flush (λ image. refl)
