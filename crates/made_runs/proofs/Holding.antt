-- Words of a region that hold an image, up to contents and its generation, and what stores leave of that.
use Rattle.std.proofs.Common.{◌≡◌, ◌≢◌, ℕ, zero, suc, negsuc, ◌+◌, ◌-◌, ◌<◌, ◌≤◌, true, List, [], ◌∷◌, length, drop, replicate, set, slice_index, slice_set, Option, Some, None, All, Contains, MatchOption, refl, sym, ap, ◌∙◌, subst, arith, length-append, length-drop}
use Rattle.std.specs.Prelude.{find}
use Rattle.std.proofs.lemmas.List.{length-replicate, get_or_append_left, get_or-drop, length-set, get_or-set_same, get_or-set_other}
use Rattle.std.proofs.lemmas.List.Elements.{All-append, All-drop, All-replicate, All-set}
use Rattle.pcp_base.specs.declared.kind.Kind.{Kind}
use Rattle.pcp_base.specs.declared.kind.Kind.TheVariants as kinds
use Rattle.mmv_layout.specs.declared.rows.Slot.{Slot}
use Rattle.mmv_layout.specs.Images.{is_image}
use Rattle.mmv_layout.specs.Form.{Form, IsOther, IsSlotOf, form_of, is_slot_of, slots_of}
use Rattle.mmv_layout.specs.Rows.{metrics_of}
use Rattle.mmv_layout.specs.ShapeLaws.{IsAlike, Takes, TakesAs}
use Rattle.mmv_layout.proofs.Shapes.{generation_keeps, has_twice, length_keeps, value_keeps}
use Rattle.mmv_layout.proofs.SlotFacts.{slot_found, slot_lies}
use Rattle.region_core.specs.Shape.{IsWord, with_generation}
use Rattle.region_core.specs.State.{plus, with_zeros}
use Rattle.region_rule.proofs.Places.{over, renewed}
use Rattle.script_runs.specs.Slots.{holds_number, slot_with}
use Rattle.made_runs.proofs.Images.{IsMade, has_item, has_number}

-- an image of the form of another, in 2048 words, under a generation that is not above this one
pub record Contents (image : List ℕ) (most : ℕ) (words : List ℕ) : Type 0 where
  pub is : is_image words ≡ true
  pub form : form_of words ≡ form_of image
  pub size : length words ≡ 2048
  pub fit : All IsWord words
  pub generation : slice_index words 1 ≤ most

-- so it is below any greater one
pub weaker : (image : List ℕ) (n m : ℕ) (words : List ℕ) → n ≤ m → Contents image n words → Contents image m words
weaker image n m words less h = let low : slice_index words 1 ≤ n = h.generation in record { is = h.is; form = h.form; size = h.size; fit = h.fit; generation = omega arith }

pub later : (image : List ℕ) (n : ℕ) (words : List ℕ) → Contents image n words → Contents image (suc n) words
later image n words h = weaker image n (suc n) words (omega arith) h

-- words of one form have the same slots and metrics
slots_same : (words image : List ℕ) → form_of words ≡ form_of image → slots_of words ≡ slots_of image
unfolding form_of
slots_same words image e = ap (λ (f : Form). f.slots) e

pub metrics_same : (words image : List ℕ) → form_of words ≡ form_of image → metrics_of words ≡ metrics_of image
unfolding form_of
metrics_same words image e = ap (λ (f : Form). f.metrics) e

-- Adds

-- the slot of a number takes each value
takes_any : (kind : Kind) (offsets : List ℕ) (value : ℕ) → holds_number kind ≡ true → TakesAs kind offsets value
takes_any kinds.I32 offsets value h = tt
takes_any kinds.U32 offsets value h = tt
takes_any kinds.I64 offsets value h = tt
takes_any kinds.U64 offsets value h = tt
takes_any kinds.Float offsets value h = tt
takes_any kinds.Double offsets value h = tt
takes_any kinds.Text offsets value h = absurd (cc)
takes_any kinds.Elapsed offsets value h = tt

in_form : (words : List ℕ) (slot : Slot) (value : ℕ) → Contains (slots_of words) slot → holds_number slot.kind ≡ true → Takes (form_of words) slot.word value
unfolding form_of
in_form words slot value among number = record { slot = slot; among = among; stands = refl; takes = takes_any slot.kind (form_of words).offsets value number }

plus_fits : (n d : ℕ) → IsWord (plus n d)
plus_fits n d = omega arith

-- so an add leaves such words
stored : (image : List ℕ) (most : ℕ) (words : List ℕ) (slot : Slot) (d : ℕ) → Contents image most words → Contains (slots_of words) slot → holds_number slot.kind ≡ true
    → Contents image most (slice_set words slot.word (plus (slice_index words slot.word) d))
stored image most words slot d h among number =
    let value : ℕ = plus (slice_index words slot.word) d in
    let alike : IsAlike words (slice_set words slot.word value) = value_keeps words slot.word value h.is (plus_fits (slice_index words slot.word) d) (in_form words slot value among number) in
    let lies : (5 ≤ slot.word) × (slot.word < length words) = slot_lies words slot h.is among in
    record {
      is = alike.image;
      form = alike.form ∙ h.form;
      size = length-set words slot.word value ∙ h.size;
      fit = All-set IsWord words slot.word value (plus_fits (slice_index words slot.word) d) h.fit;
      generation = subst (λ (g : ℕ). g ≤ most) (sym (get_or-set_other words slot.word 1 value 0 (λ (e : 1 ≡ slot.word). omega arith))) h.generation;
    }

-- the slot of a counter is there
pub record HasCounter (image : List ℕ) (most : ℕ) (words : List ℕ) (item : ℕ) : Type 0 where
  pub slot : Slot
  pub found : slot_with words item None ≡ Some slot
  pub number : holds_number slot.kind ≡ true
  pub kept : (d : ℕ) → Contents image most (slice_set words slot.word (plus (slice_index words slot.word) d))

-- each counter has its slot
pub has_counter : (cluster : ℕ) (image : List ℕ) (most : ℕ) (words : List ℕ) (item : ℕ) → IsMade cluster image → Contents image most words → 1 ≤ item → item ≤ 12 → HasCounter image most words item
has_counter cluster image most words item made h low high =
    by_slot (slot_with words item None) refl (sym same ∙ made.numbers item low high) (slot_found words item (negsuc 0) (slot_with words item None) refl)
  where
    same : has_item image item ≡ has_number (slot_with words item None)
    same = ap (λ (slots : List Slot). has_number (find (is_slot_of item (negsuc 0)) slots)) (sym (slots_same words image h.form))

    by_slot : (found : Option Slot) → slot_with words item None ≡ found → has_number found ≡ true
        → MatchOption found (All (IsOther item (negsuc 0)) (slots_of words)) (λ slot. Contains (slots_of words) slot × IsSlotOf item (negsuc 0) slot) → HasCounter image most words item
    by_slot None e has among = absurd (cc)
    by_slot (Some slot) e has among = record { slot = slot; found = e; number = has; kept = λ d. stored image most words slot d h among.0 has }

-- The words of an image, one stored after another

unfoldable pub put_words : List ℕ → ℕ → List ℕ → List ℕ
put_words words w [] = words
put_words words w (x ∷ xs) = put_words (slice_set words w x) (suc w) xs

-- they are as many words as before, all of 64 bits, the same before the first one stored, and then those
put_length : (words : List ℕ) (w : ℕ) (xs : List ℕ) → length (put_words words w xs) ≡ length words
unfolding put_words
put_length words w [] = refl
put_length words w (x ∷ xs) = put_length (slice_set words w x) (suc w) xs ∙ length-set words w x

put_fit : (words : List ℕ) (w : ℕ) (xs : List ℕ) → All IsWord words → All IsWord xs → All IsWord (put_words words w xs)
unfolding put_words
put_fit words w [] h g = h
put_fit words w (x ∷ xs) h g = put_fit (slice_set words w x) (suc w) xs (All-set IsWord words w x (g 0 0 (omega arith)) h) (λ k d less. g (suc k) d (omega arith))

put_before : (words : List ℕ) (w : ℕ) (xs : List ℕ) (i : ℕ) → i < w → slice_index (put_words words w xs) i ≡ slice_index words i
unfolding put_words
put_before words w [] i h = refl
put_before words w (x ∷ xs) i h = put_before (slice_set words w x) (suc w) xs i (omega arith) ∙ get_or-set_other words w i x 0 (λ (e : i ≡ w). omega arith)

put_there : (words : List ℕ) (w : ℕ) (xs : List ℕ) (j : ℕ) → j < length xs → w + length xs ≤ length words → slice_index (put_words words w xs) (w + j) ≡ slice_index xs j
unfolding put_words
put_there words w [] j h room = absurd (omega arith)
put_there words w (x ∷ xs) zero h room =
    let here : w + 0 ≡ w = omega arith in
    ap (slice_index (put_words (slice_set words w x) (suc w) xs)) here ∙ put_before (slice_set words w x) (suc w) xs w (omega arith) ∙ get_or-set_same words w x 0 (omega arith)
put_there words w (x ∷ xs) (suc j) h room =
    let here : w + suc j ≡ suc w + j = omega arith in
    let long : length (slice_set words w x) ≡ length words = length-set words w x in
    ap (slice_index (put_words (slice_set words w x) (suc w) xs)) here ∙ put_there (slice_set words w x) (suc w) xs j (omega arith) (omega arith)

-- all words but the generations, after the first generation
abbrev pub rewritten : List ℕ → List ℕ → ℕ → List ℕ
rewritten image words n = put_words (slice_set (slice_set words 1 n) 0 (slice_index image 0)) 3 (drop 3 image)

module _ (image words : List ℕ) (n : ℕ) (wide : 2 < length image) (room : length image ≤ length words) where
  front_long : length (slice_set (slice_set words 1 n) 0 (slice_index image 0)) ≡ length words
  front_long = length-set (slice_set words 1 n) 0 (slice_index image 0) ∙ length-set words 1 n

  -- so all words but the second generation are the image's, under the new first generation
  pub rewritten_long : length (rewritten image words n) ≡ length words
  rewritten_long = put_length (slice_set (slice_set words 1 n) 0 (slice_index image 0)) 3 (drop 3 image) ∙ front_long

  rewritten_first : slice_index (rewritten image words n) 1 ≡ n
  rewritten_first =
      put_before (slice_set (slice_set words 1 n) 0 (slice_index image 0)) 3 (drop 3 image) 1 (omega arith)
      ∙ get_or-set_other (slice_set words 1 n) 0 1 (slice_index image 0) 0 (λ (e : ◌≡◌ {A = ℕ} 1 0). omega arith) ∙ get_or-set_same words 1 n 0 (omega arith)

  rewritten_zero : slice_index (rewritten image words n) 0 ≡ slice_index image 0
  rewritten_zero =
      let long : length (slice_set words 1 n) ≡ length words = length-set words 1 n in
      put_before (slice_set (slice_set words 1 n) 0 (slice_index image 0)) 3 (drop 3 image) 0 (omega arith) ∙ get_or-set_same (slice_set words 1 n) 0 (slice_index image 0) 0 (omega arith)

  rewritten_at : (i : ℕ) → i < length image → i ≢ 1 → i ≢ 2 → slice_index (rewritten image words n) i ≡ slice_index image i
  rewritten_at zero below one two = rewritten_zero
  rewritten_at (suc zero) below one two = absurd (one refl)
  rewritten_at (suc (suc zero)) below one two = absurd (two refl)
  rewritten_at (suc (suc (suc j))) below one two =
      let there : suc (suc (suc j)) ≡ 3 + j = omega arith in
      let left : length (drop 3 image) ≡ length image - 3 = length-drop 3 image in
      let long : length (slice_set (slice_set words 1 n) 0 (slice_index image 0)) ≡ length words = front_long in
      ap (slice_index (rewritten image words n)) there ∙ put_there (slice_set (slice_set words 1 n) 0 (slice_index image 0)) 3 (drop 3 image) j (omega arith) (omega arith)
      ∙ (get_or-drop 3 image j 0 ∙ ap (slice_index image) (sym there))

-- zeros up to 2,048 words
abbrev pub zeros_behind : List ℕ → List ℕ
zeros_behind image = replicate (2048 - length image) 0

-- an image behind which zeros stand
pub opened : (cluster : ℕ) (image : List ℕ) → IsMade cluster image → Contents image 1 (with_zeros image 2048)
opened cluster image made =
    let few : length image ≤ 2048 = made.few in
    let zeros : length (zeros_behind image) ≡ 2048 - length image = length-replicate (2048 - length image) 0 in
    let long : length (with_zeros image 2048) ≡ length image + length (zeros_behind image) = length-append image (zeros_behind image) in
    let none : All IsWord (zeros_behind image) = All-replicate IsWord (2048 - length image) 0 (omega arith) in
    let size : length (with_zeros image 2048) ≡ 2048 = omega arith in
    let alike : IsAlike image (with_zeros image 2048) = length_keeps image (zeros_behind image) made.image none (omega arith) in
    let wide : (2 < length image) × (slice_index image 1 ≡ slice_index image 2) = has_twice image made.image in
    record {
      is = alike.image;
      form = alike.form;
      size = size;
      fit = All-append IsWord image (zeros_behind image) made.fit none;
      generation = subst (λ (g : ℕ). g ≤ 1) (sym (get_or_append_left image (zeros_behind image) 0 1 (omega arith) ∙ made.generation)) (omega arith);
    }

-- an image that was stored over another, under a new generation
pub changed : (cluster : ℕ) (image : List ℕ) (words : List ℕ) (n : ℕ) → IsMade cluster image → length words ≡ 2048 → All IsWord words → IsWord n → Contents image n (slice_set (rewritten image words n) 2 n)
changed cluster image words n made size fit small =
    let few : length image ≤ 2048 = made.few in
    let wide : (2 < length image) × (slice_index image 1 ≡ slice_index image 2) = has_twice image made.image in
    let long : length (rewritten image words n) ≡ length words = rewritten_long image words n wide.0 (omega arith) in
    let full : All IsWord (rewritten image words n) = put_fit (slice_set (slice_set words 1 n) 0 (slice_index image 0)) 3 (drop 3 image)
    (All-set IsWord (slice_set words 1 n) 0 (slice_index image 0) (made.fit 0 0 (omega arith)) (All-set IsWord words 1 n small fit)) (All-drop IsWord 3 image made.fit) in
    let behind : All IsWord (drop (length image) (rewritten image words n)) = All-drop IsWord (length image) (rewritten image words n) full in
    let left : length (drop (length image) (rewritten image words n)) ≡ length (rewritten image words n) - length image = length-drop (length image) (rewritten image words n) in
    let both : length (over image (rewritten image words n)) ≡ length image + length (drop (length image) (rewritten image words n)) = length-append image (drop (length image) (rewritten image words n)) in
    let longer : IsAlike image (over image (rewritten image words n)) = length_keeps image (drop (length image) (rewritten image words n)) made.image behind (omega arith) in
    let numbered : IsAlike (over image (rewritten image words n)) (with_generation (over image (rewritten image words n)) n) = generation_keeps (over image (rewritten image words n)) n longer.image small in
    let is : with_generation (over image (rewritten image words n)) n ≡ set (rewritten image words n) 2 n = renewed image (rewritten image words n) n wide.0 (omega arith) (rewritten_first image words n wide.0 (omega arith))
    (rewritten_at image words n wide.0 (omega arith)) in
    record {
      is = subst (λ (ws : List ℕ). is_image ws ≡ true) is numbered.image;
      form = subst (λ (ws : List ℕ). form_of ws ≡ form_of image) is (numbered.form ∙ longer.form);
      size = length-set (rewritten image words n) 2 n ∙ (long ∙ size);
      fit = All-set IsWord (rewritten image words n) 2 n small full;
      generation = subst (λ (g : ℕ). g ≤ n) (sym (get_or-set_other (rewritten image words n) 2 1 n 0 (λ (e : ◌≡◌ {A = ℕ} 1 2). omega arith) ∙ rewritten_first image words n wide.0 (omega arith))) (omega arith);
    }
