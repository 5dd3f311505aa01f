-- The toy layout keeps the laws of a shape.
use Rattle.std.specs.Prelude.{◌≡◌, ℕ, ◌+◌, ◌<◌, ◌≤◌, ◌⊎◌, List, ◌++◌, length, slice_index, slice_set}
use Rattle.std.proofs.Common.{set, get_or-set_same, get_or-set_other, length-set, length-append, subst, sym, ◌∙◌, ⊎_elim, arith}
use Rattle.std.proofs.lemmas.List.{get_or_append_left}
use Rattle.region_core.specs.Shape.{IsShape, IsLike, with_generation}
use Rattle.region_slate.specs.Slate.{IsText, IsSlate, SlateTakes, slate}

takes_above : (counters w v : ℕ) → SlateTakes counters w v → 2 < w
takes_above counters w v = ⊎_elim (λ (h : (2 < w) × (w < counters + 3)). h.0) (λ (h : (w ≡ counters + 3) × IsText v). let e = h.0 in omega arith)

-- another allowed value leaves a slate of as many counters
slate_value : (words : List ℕ) (w v : ℕ) → IsSlate words → SlateTakes (slice_index words 0) w v → IsLike slate words (slice_set words w v)
slate_value words w v image takes =
    let above : 2 < w = takes_above (slice_index words 0) w v takes in
    let zeroth : slice_index (set words w v) 0 ≡ slice_index words 0 = get_or-set_other words w 0 v 0 (λ (e : 0 ≡ w). omega arith) in
    let first : slice_index (set words w v) 1 ≡ slice_index words 1 = get_or-set_other words w 1 v 0 (λ (e : 1 ≡ w). omega arith) in
    let second : slice_index (set words w v) 2 ≡ slice_index words 2 = get_or-set_other words w 2 v 0 (λ (e : 2 ≡ w). omega arith) in
    let wide : length (set words w v) ≡ length words = length-set words w v in
    let room = image.room in
    let text : IsText (slice_index (set words w v) (slice_index words 0 + 3)) = ⊎_elim
    (λ (h : (2 < w) × (w < slice_index words 0 + 3)). let b = h.1 in
    subst IsText (sym (get_or-set_other words w (slice_index words 0 + 3) v 0 (λ (e : slice_index words 0 + 3 ≡ w). omega arith))) image.text)
    (λ (h : (w ≡ slice_index words 0 + 3) × IsText v). let e = h.0 in
    subst (λ (i : ℕ). IsText (slice_index (set words w v) i)) e (subst IsText (sym (get_or-set_same words w v 0 (omega arith))) h.1))
    takes in
    record {
      image = record { room = omega arith; same = first ∙ image.same ∙ sym second; text = subst (λ (n : ℕ). IsText (slice_index (set words w v) (n + 3))) (sym zeroth) text };
      form = zeroth;
    }

-- and so do further words
slate_longer : (words more : List ℕ) → IsSlate words → IsLike slate words (words ++ more)
slate_longer words more image =
    let room = image.room in
    let zeroth : slice_index (words ++ more) 0 ≡ slice_index words 0 = get_or_append_left words more 0 0 (omega arith) in
    let first : slice_index (words ++ more) 1 ≡ slice_index words 1 = get_or_append_left words more 0 1 (omega arith) in
    let second : slice_index (words ++ more) 2 ≡ slice_index words 2 = get_or_append_left words more 0 2 (omega arith) in
    let text : slice_index (words ++ more) (slice_index words 0 + 3) ≡ slice_index words (slice_index words 0 + 3) = get_or_append_left words more 0 (slice_index words 0 + 3) (omega arith) in
    let wide = length-append words more in
    record {
      image = record {
        room = omega arith;
        same = first ∙ image.same ∙ sym second;
        text = subst (λ (n : ℕ). IsText (slice_index (words ++ more) (n + 3))) (sym zeroth) (subst IsText (sym text) image.text);
      };
      form = zeroth;
    }

-- and another generation
slate_renumbered : (words : List ℕ) (n : ℕ) → IsSlate words → IsLike slate words (with_generation words n)
slate_renumbered words n image =
    let front : List ℕ = set words 1 n in
    let room = image.room in
    let wide : length front ≡ length words = length-set words 1 n in
    let wider : length (set front 2 n) ≡ length front = length-set front 2 n in
    let zeroth : slice_index (set front 2 n) 0 ≡ slice_index words 0 =
    get_or-set_other front 2 0 n 0 (λ (e : 0 ≡ 2). omega arith) ∙ get_or-set_other words 1 0 n 0 (λ (e : 0 ≡ 1). omega arith) in
    let first : slice_index (set front 2 n) 1 ≡ n =
    get_or-set_other front 2 1 n 0 (λ (e : 1 ≡ 2). omega arith) ∙ get_or-set_same words 1 n 0 (omega arith) in
    let second : slice_index (set front 2 n) 2 ≡ n = get_or-set_same front 2 n 0 (omega arith) in
    let text_word : ℕ = slice_index words 0 + 3 in
    let text : slice_index (set front 2 n) text_word ≡ slice_index words text_word =
    get_or-set_other front 2 text_word n 0 (λ (e : slice_index words 0 + 3 ≡ 2). omega arith) ∙ get_or-set_other words 1 text_word n 0 (λ (e : slice_index words 0 + 3 ≡ 1). omega arith) in
    record {
      image = record {
        room = omega arith;
        same = first ∙ sym second;
        text = subst (λ (k : ℕ). IsText (slice_index (set front 2 n) (k + 3))) (sym zeroth) (subst IsText (sym text) image.text);
      };
      form = zeroth;
    }

-- the laws
pub slate_laws : IsShape slate
slate_laws = record {
  generations = λ words image. let room = image.room in (omega arith, image.same);
  fixed = λ words v image. ((λ takes. let above = takes_above (slice_index words 0) 1 v takes in omega arith), (λ takes. let above = takes_above (slice_index words 0) 2 v takes in omega arith));
  value = λ words w v image fits takes. slate_value words w v image takes;
  longer = λ words more image fits wide. slate_longer words more image;
  renumbered = λ words n image fits. slate_renumbered words n image;
}
