-- What a script that a recording may take says of the lines of one pass of a region, and of the words that the region opens with.
use Rattle.std.proofs.Common.{◌≡◌, ℕ, zero, suc, ◌+◌, ◌-◌, ◌<◌, ◌≤◌, ◌^◌, ◌==◌, Bool, true, false, nat_le, nat_lt, leb-true, eq-eqb, if◌then◌else◌, List, [], ◌∷◌, ◌++◌, All, length, length-append, replicate, slice_index, slice_get, Option, Some, None, sym, refl, ap, ◌∙◌, subst, arith}
use Rattle.std.specs.List.{list_all}
use Rattle.std.proofs.lemmas.Bool.{ltb-true}
use Rattle.std.proofs.lemmas.List.{get_or_append_left, length-replicate}
use Rattle.std.proofs.lemmas.List.Elements.{All-nil, All-cons}
use Rattle.std.proofs.lemmas.Option.{get_or_from_slice_get, slice_get_within}
use Rattle.mmv_layout.specs.Fields.{number64}
use Rattle.mmv_layout.specs.Form.{form_of}
use Rattle.region_core.specs.Shape.{IsWord, IsLike}
use Rattle.region_core.specs.State.{with_zeros, opening}
use Rattle.region_words.specs.Images.{mmv, mmv_laws}
use Rattle.run_script.specs.Recording.{changed_to, fits_in, held_by, high_region, image_words, is_at, lines_of, opened_on, opens_low, or_else, place_of, refused_line, slot_in, suits, takes_add, takes_swap, unrest_line, with_change, words_or_none, wrong_step}
use Rattle.run_script.specs.Rules.{KeepsRules, IsPlaced}
use Rattle.run_script.specs.declared.script.Line.{Line}
use Rattle.run_script.specs.declared.script.Line.TheVariants as lines
use Rattle.run_script.specs.declared.script.RegionRow.{RegionRow}
use Rattle.run_script.specs.declared.script.Script.{Script}
use Rattle.run_passes.proofs.Begun.{get_there}
use Rattle.script_runs.specs.Regions as regions
use Rattle.run_passes.proofs.Lined.{at_place, both_true, may_stand}
use Rattle.record_run.specs.Pictured.{AreImages, AreOfWords}
use Rattle.region_rule.proofs.Places.{word_of}
use Rattle.record_run.proofs.Owned.{LineFits, LinesFit}
use Rattle.record_run.proofs.Summing.{AreWords}
use Rattle.record_run.proofs.Wrote.{LineSuits, LinesSuit, IsHeld}

-- Tests of images

all_right : (test : List ℕ → Bool) (xs ys : List (List ℕ)) → list_all test (xs ++ ys) ≡ true → list_all test ys ≡ true
all_right test [] ys e = e
all_right test (x ∷ xs) ys e = all_right test xs ys (both_true (test x) (list_all test (xs ++ ys)) e).1

place_region : (a b c d : ℕ) → ◌≡◌ {A = Option (ℕ × ℕ)} (Some (a, b)) (Some (c, d)) → a ≡ c
place_region a b c d e = some_first (a, b) (c, d) e
  where
    some_first : (x y : ℕ × ℕ) → Some x ≡ Some y → x.0 ≡ y.0
    some_first x y f = let same : x ≡ y = cc in ap (λ (z : ℕ × ℕ). z.0) same

or_none : (a b : Option ℕ) → or_else a b ≡ None → (a ≡ None) × (b ≡ None)
or_none None b e = (refl, e)
or_none (Some x) b e = absurd (cc)

module _ (images : List (List ℕ × List ℕ)) (i : ℕ) where
  -- a change of the region leads to an image that passes each test which all pass to which it is changed
  abbrev Tested : (List ℕ → Bool) → Line → Type 0
  Tested test (lines.Begin region pass image moment) = region ≡ i → test (image_words images image) ≡ true
  Tested test line = Unit {0}

  first_tested : (test : List ℕ → Bool) (line : Line) (rest : List (List ℕ)) → list_all test (with_change images i line rest) ≡ true → Tested test line
  first_tested test (lines.Begin region pass image moment) rest e = λ same. by_test (region == i) (eq-eqb region i same) e
    where
      by_test : (b : Bool) → b ≡ true → list_all test (if b then image_words images image ∷ rest else rest) ≡ true → test (image_words images image) ≡ true
      by_test true f g = (both_true (test (image_words images image)) (list_all test rest) g).0
      by_test false f g = absurd (cc)
  first_tested test line rest e = tt

  rest_tested : (test : List ℕ → Bool) (line : Line) (rest : List (List ℕ)) → list_all test (with_change images i line rest) ≡ true → list_all test rest ≡ true
  rest_tested test (lines.Begin region pass image moment) rest e = by_test (region == i) e
    where
      by_test : (b : Bool) → list_all test (if b then image_words images image ∷ rest else rest) ≡ true → list_all test rest ≡ true
      by_test true g = (both_true (test (image_words images image)) (list_all test rest) g).1
      by_test false g = g
  rest_tested test line rest e = e

  changed_tested : (test : List ℕ → Bool) (steps : List (ℕ × Line)) (m : ℕ) (step : ℕ × Line) → slice_get steps m ≡ Some step → list_all test (changed_to images i steps) ≡ true → Tested test step.1
  changed_tested test [] m step e f = absurd (cc)
  changed_tested test (x ∷ xs) zero step e f =
      let same : x ≡ step = cc in
      subst (λ (s : ℕ × Line). Tested test s.1) same (first_tested test x.1 (changed_to images i xs) f)
  changed_tested test (x ∷ xs) (suc m) step e f = changed_tested test xs m step e (rest_tested test x.1 (changed_to images i xs) f)

-- The lines of a pass

short_lines : (i k : ℕ) (steps : List (ℕ × Line)) → length (lines_of i k steps) ≤ length steps
short_lines i k [] = omega arith
short_lines i k (x ∷ xs) = by_test (is_at i k (place_of x.1)) (short_lines i k xs)
  where
    by_test : (b : Bool) → length (lines_of i k xs) ≤ length xs → length (if b then x.1 ∷ lines_of i k xs else lines_of i k xs) ≤ suc (length xs)
    by_test true h = omega arith
    by_test false h = omega arith

pub few_lines : (i k : ℕ) (steps : List (ℕ × Line)) → length (lines_of i k steps) ≤ length steps
few_lines i k steps = short_lines i k steps

module _ (script : Script) (keeps : KeepsRules script) (refused : refused_line script ≡ None) (are_images : AreImages script) (i : ℕ) (row : RegionRow) (row_is : slice_get script.regions i ≡ Some row) where
  abbrev held : List (List ℕ)
  held = held_by script i

  -- the image that the region opens on
  abbrev pub opened_image : List ℕ
  opened_image = image_words script.images row.image

  pub opened_held : IsHeld held opened_image
  opened_held test e =
      (both_true (test opened_image) (list_all test (changed_to script.images i script.steps))
      (subst (λ (o : Option RegionRow). list_all test (opened_on script.images o ++ changed_to script.images i script.steps) ≡ true) row_is e)).0

  changed_part : (test : List ℕ → Bool) → list_all test held ≡ true → list_all test (changed_to script.images i script.steps) ≡ true
  changed_part test e = all_right test (opened_on script.images (slice_get script.regions i)) (changed_to script.images i script.steps) e

  -- an image to which the region may be changed
  abbrev pub MayChange : List ℕ → Type 0
  MayChange image = mmv.IsImage image × (length image ≤ row.capacity) × IsHeld held image

  pub image_at : (at : ℕ) → at < length script.images → mmv.IsImage (image_words script.images at)
  image_at at below =
      let found = get_there script.images at below in
      let is : image_words script.images at ≡ found.0.1 = ap words_or_none found.1 in
      let good : mmv.IsImage found.0.1 = subst (λ (x : List ℕ × List ℕ). mmv.IsImage x.1) (get_or_from_slice_get script.images at found.0 found.0 found.1) (are_images at found.0 below) in
      subst (λ (ws : List ℕ). mmv.IsImage ws) (sym is) good

  module _ (k : ℕ) where
    record Fits (line : Line) : Type 0 where
      fits : LineFits MayChange script.images line
      suits_it : LineSuits held line

    by_line : (line : Line) → suits script line ≡ true → place_of line ≡ Some (i, k) → IsPlaced script.images script.regions line → ((test : List ℕ → Bool) → list_all test held ≡ true → Tested script.images i test line) → Fits line
    by_line (lines.Attach region pass) s p placed tested = record { fits = tt; suits_it = tt }
    by_line (lines.Detach region pass) s p placed tested = record { fits = tt; suits_it = tt }
    by_line (lines.Swap region pass item instance value) s p placed tested =
        record { fits = tt; suits_it = subst (λ (r : ℕ). list_all (λ words. takes_swap words (slot_in words item instance) value) (held_by script r) ≡ true) (place_region region pass i k p) s }
    by_line (lines.Add region pass item instance number) s p placed tested =
        record { fits = tt; suits_it = subst (λ (r : ℕ). list_all (λ words. takes_add (slot_in words item instance)) (held_by script r) ≡ true) (place_region region pass i k p) s }
    by_line (lines.Begin region pass image moment) s p placed tested =
        let same : region ≡ i = place_region region pass i k p in
        let both = both_true (fits_in (length (image_words script.images image)) (slice_get script.regions region)) (nat_lt moment (2 ^ 63)) s in
        let row_there : slice_get script.regions region ≡ Some row = ap (λ (r : ℕ). slice_get script.regions r) same ∙ row_is in
        let room : nat_le (length (image_words script.images image)) row.capacity ≡ true = sym (ap (λ (o : Option RegionRow). fits_in (length (image_words script.images image)) o) row_there) ∙ both.0 in
        record {
          fits = ((image_at image placed.1, leb-true (length (image_words script.images image)) row.capacity room, λ test e. tested test e same), ltb-true moment (2 ^ 63) both.1);
          suits_it = tt;
        }
    by_line (lines.Step region pass) s p placed tested = record { fits = tt; suits_it = tt }
    by_line (lines.Finish region pass) s p placed tested = record { fits = tt; suits_it = tt }
    by_line (lines.Load region pass) s p placed tested = record { fits = tt; suits_it = tt }
    by_line (lines.Word region pass index) s p placed tested = record { fits = tt; suits_it = tt }
    by_line (lines.Done region pass) s p placed tested = record { fits = tt; suits_it = tt }
    by_line (lines.Tick stamp) s p placed tested = record { fits = tt; suits_it = tt }
    by_line lines.Flush s p placed tested = record { fits = tt; suits_it = tt }

    step_fits : (m : ℕ) (step : ℕ × Line) → slice_get script.steps m ≡ Some step → place_of step.1 ≡ Some (i, k) → Fits step.1
    step_fits m step e p =
        by_line step.1 (may_stand script m step refused e).suits_it p (keeps.placed m step e) (λ test f. changed_tested script.images i test script.steps m step e (changed_part test f))

    all_fit : (steps : List (ℕ × Line)) → ((m : ℕ) (step : ℕ × Line) → slice_get steps m ≡ Some step → place_of step.1 ≡ Some (i, k) → Fits step.1)
        → LinesFit MayChange script.images (lines_of i k steps) × LinesSuit held (lines_of i k steps)
    all_fit [] each = (tt, tt)
    all_fit (x ∷ xs) each = by_test (is_at i k (place_of x.1)) refl (all_fit xs (λ m step. each (suc m) step))
      where
        by_test : (b : Bool) → is_at i k (place_of x.1) ≡ b → LinesFit MayChange script.images (lines_of i k xs) × LinesSuit held (lines_of i k xs)
            → LinesFit MayChange script.images (if b then x.1 ∷ lines_of i k xs else lines_of i k xs) × LinesSuit held (if b then x.1 ∷ lines_of i k xs else lines_of i k xs)
        by_test true e rest = let here = each 0 x refl (at_place i k (place_of x.1) e) in ((here.fits, rest.0), (here.suits_it, rest.1))
        by_test false e rest = rest

    pub lines_fit : LinesFit MayChange script.images (lines_of i k script.steps) × LinesSuit held (lines_of i k script.steps)
    lines_fit = all_fit script.steps step_fits

  -- The words that it opens with

  zeros_words : (n : ℕ) → All IsWord (replicate n 0)
  zeros_words zero = All-nil IsWord
  zeros_words (suc n) = All-cons IsWord 0 (replicate n 0) (omega arith) (zeros_words n)

  joined_words : (xs ys : List ℕ) → All IsWord xs → All IsWord ys → All IsWord (xs ++ ys)
  joined_words [] ys a b = b
  joined_words (x ∷ xs) ys a b = All-cons IsWord x (xs ++ ys) (a 0 0 (omega arith)) (joined_words xs ys (λ k d h. a (suc k) d (omega arith)) b)

  words_are : regions.words_at script.images row.image ≡ opened_image
  words_are = let opens = (keeps.opened i row row_is).opens in ap regions.words_or_none opens.1 ∙ sym (ap words_or_none opens.1)

  fits_there : length opened_image ≤ row.capacity
  fits_there = let opens = (keeps.opened i row row_is).opens in subst (λ (ws : List ℕ). length ws ≤ row.capacity) (sym (ap words_or_none opens.1)) opens.2

  opened_good : mmv.IsImage opened_image
  opened_good = let opens = (keeps.opened i row row_is).opens in image_at row.image (slice_get_within script.images row.image opens.0 opens.1)

  pub opened_form : form_of (with_zeros (regions.words_at script.images row.image) row.capacity) ≡ form_of opened_image
  opened_form =
      let n : ℕ = row.capacity - length opened_image in
      let few = (keeps.opened i row row_is).capacity in
      let room : length opened_image ≤ row.capacity = fits_there in
      let behind : List ℕ = replicate n 0 in
      let long : length (opened_image ++ behind) ≡ length opened_image + length behind = length-append opened_image behind in
      let zeros : length behind ≡ n = length-replicate n 0 in
      let wide : length (opened_image ++ behind) ≤ 65536 = omega arith in
      let like : IsLike mmv opened_image (opened_image ++ replicate n 0) = mmv_laws.longer opened_image (replicate n 0) opened_good (zeros_words n) wide in
      ap (λ (ws : List ℕ). form_of (with_zeros ws row.capacity)) words_are ∙ like.form

  pub opened_words : AreOfWords script → (passes : ℕ) → AreWords (opening (with_zeros (regions.words_at script.images row.image) row.capacity) passes)
  opened_words words passes u =
      let opens = (keeps.opened i row row_is).opens in
      let all : All IsWord opens.0.1 = subst (λ (x : List ℕ × List ℕ). All IsWord x.1) (get_or_from_slice_get script.images row.image opens.0 opens.0 opens.1) (words row.image opens.0 (slice_get_within script.images row.image opens.0 opens.1)) in
      let image : All IsWord opened_image = subst (λ (ws : List ℕ). All IsWord ws) (sym (ap words_or_none opens.1)) all in
      subst (λ (ws : List ℕ). IsWord (slice_index (with_zeros ws row.capacity) u)) (sym words_are) (word_of (with_zeros opened_image row.capacity) u (joined_words opened_image (replicate (row.capacity - length opened_image) 0) image (zeros_words (row.capacity - length opened_image))))

  low_row : (rows : List RegionRow) (m : ℕ) (r : RegionRow) → slice_get rows m ≡ Some r → high_region script rows ≡ None → opens_low script r ≡ true
  low_row [] m r e f = absurd (cc)
  low_row (x ∷ xs) m r e f = by_test (opens_low script x) refl f (λ rest q g. low_row xs q r g rest)
    where
      at : (n : ℕ) → slice_get (x ∷ xs) n ≡ Some r → opens_low script x ≡ true → ((q : ℕ) → slice_get xs q ≡ Some r → opens_low script r ≡ true) → opens_low script r ≡ true
      at zero g ok more = let same : x ≡ r = cc in subst (λ (y : RegionRow). opens_low script y ≡ true) same ok
      at (suc n) g ok more = more n g

      by_test : (b : Bool) → opens_low script x ≡ b → (if b then high_region script xs else Some x.line) ≡ None
          → (high_region script xs ≡ None → (q : ℕ) → slice_get xs q ≡ Some r → opens_low script r ≡ true) → opens_low script r ≡ true
      by_test true ok rest more = at m e ok (more rest)
      by_test false ok rest more = absurd (cc)

  pub opened_low : slice_index (with_zeros (regions.words_at script.images row.image) row.capacity) 1 < 2 ^ 63
  unfolding number64
  opened_low =
      let first = or_none (high_region script script.regions) (or_else (wrong_step script [] script.steps) (unrest_line script.steps)) refused in
      let low : opens_low script row ≡ true = low_row script.regions i row row_is first.0 in
      let below : slice_index opened_image 1 < 2 ^ 63 = ltb-true (slice_index opened_image 1) (2 ^ 63) low in
      let both = mmv_laws.generations opened_image opened_good in
      let wide = both.0 in
      let same : slice_index (with_zeros opened_image row.capacity) 1 ≡ slice_index opened_image 1 = get_or_append_left opened_image (replicate (row.capacity - length opened_image) 0) 0 1 (omega arith) in
      subst (λ (ws : List ℕ). slice_index (with_zeros ws row.capacity) 1 < 2 ^ 63) (sym words_are) (omega arith)
