-- The offsets at which the tests of an image look: neither its generation nor the contents of its values.
use Rattle.std.proofs.Common.{◌≡◌, ◌≢◌, ℕ, ◌+◌, ◌*◌, ◌<◌, ◌≤◌, Bool, true, false, not, ◌||◌, ◌⊎◌, inl, inr, List, length, ap, ap₂, sym, subst, ◌∙◌, refl, arith, nat_eq, nat_le, nat_lt, ⊎_elim}
use Rattle.std.proofs.lemmas.Bool.Decides.{nat_tests}
use Rattle.std.proofs.lemmas.Bool.{cases_order}
use Rattle.mmv_layout.specs.Contents.{version_in, bytes_in, is_short, contents_in, type_in, count_in, offset_in, section_bytes, end_in, are_apart, is_first_of_type, has_good_section, sections_are_good, find_section, section_of, entry_at, entry_end}
use Rattle.mmv_layout.specs.Sizes.{header_size, entry_size, indom_size, instance_size, metric_size, value_size, string_size}
use Rattle.mmv_layout.specs.EntryFields.{metric_offset_in_value}
use Rattle.mmv_layout.specs.Entries.{indom_count, indom_at, instance_count, instance_at, metric_count, metric_at, value_count, value_at, string_count, string_at}
use Rattle.mmv_layout.specs.Images.{has_good_header, is_image}
use Rattle.mmv_layout.proofs.Below.{all_at, both_left, both_right}
use Rattle.mmv_layout.proofs.Widths.{entry_inside}
use Rattle.mmv_layout.proofs.Images.{short_words}
use Rattle.mmv_layout.proofs.Goods.{le_of, header, sections}
use Rattle.mmv_layout.proofs.EntryOffsets.{Entry, entry_of, Lies, section_stands, some_of, Stands, value_stands}

-- an offset in the words, outside of the generation and of the first two fields of each value
pub record Looked (words : List ℕ) (offset : ℕ) : Type 0 where
  pub within : offset < 8 * length words
  pub outside : (offset < 8) ⊎ (24 ≤ offset)
  pub apart : (i : ℕ) → i < value_count words → (offset < value_at words i) ⊎ (metric_offset_in_value (value_at words i) ≤ offset)

some_words : (short : Bool) (n : ℕ) → short ≡ nat_lt n 5 → not short ≡ true → 5 ≤ n
some_words short n e h = grind (arith, nat_tests)

pub five_words : (words : List ℕ) → is_image words ≡ true → 5 ≤ length words
unfolding has_good_header
five_words words h =
    some_words (is_short (bytes_in words)) (length words) (short_words words) (both_left _ _ (both_left _ _ (both_left _ _ (both_left _ _ (both_left _ _ (header words h))))))

pub looked_header : (words : List ℕ) (offset : ℕ) → is_image words ≡ true → offset < header_size → (offset < 8) ⊎ (24 ≤ offset) → Looked words offset
looked_header words offset h below outside =
    let five : 5 ≤ length words = five_words words h in record {
      within = omega arith;
      outside = outside;
      apart = λ i some. let stands : Stands words (value_at words i) value_size = value_stands words i h some in inl (before offset (value_at words i) below stands.behind);
    }
  where
    before : (p v : ℕ) → p < header_size → header_size ≤ v → p < v
    before p v a b = omega arith

good_section : (words : List ℕ) (i : ℕ) → is_image words ≡ true → i < contents_in words → has_good_section words i ≡ true
unfolding sections_are_good
good_section words i h below = all_at (contents_in words) i (has_good_section words) (sections words h) below

entry_within : (words : List ℕ) (i : ℕ) → has_good_section words i ≡ true → entry_end i ≤ bytes_in words
unfolding has_good_section
entry_within words i good = le_of (entry_end i) (bytes_in words) (both_left _ _ (both_left _ _ (both_left _ _ good)))

pub values_behind : (words : List ℕ) (i : ℕ) → is_image words ≡ true → i < value_count words → entry_at (contents_in words) ≤ value_at words i
values_behind words i h below =
    let lies : Lies words (section_of words 4).offset (section_bytes (version_in words) 4 (section_of words 4).count) = section_stands words 4 h (some_of i (value_count words) below) in
    let behind : entry_at (contents_in words) ≤ (section_of words 4).offset = lies.behind in omega arith

pub looked_contents : (words : List ℕ) (i o : ℕ) → is_image words ≡ true → i < contents_in words → o < entry_size → Looked words (entry_at i + o)
looked_contents words i o h below small =
    let inside : entry_end i ≤ 8 * length words = entry_within words i (good_section words i h below) in record {
      within = omega arith;
      outside = inr (omega arith);
      apart = λ j some. inl (before (contents_in words) (value_at words j) below small (values_behind words j h some));
    }
  where
    before : (n v : ℕ) → i < n → o < entry_size → entry_at n ≤ v → entry_at i + o < v
    before n v a b c = omega arith

first_of : (words : List ℕ) (i : ℕ) → has_good_section words i ≡ true → is_first_of_type words i ≡ true
unfolding has_good_section
first_of words i good = both_right _ _ good

either_end : (a b c d : Bool) → (a || b || c || d) ≡ true → a ≡ false → b ≡ false → (c ≡ true) ⊎ (d ≡ true)
either_end true b c d h p q = cc
either_end false true c d h p q = cc
either_end false false true d h p q = inl refl
either_end false false false d h p q = inr h

isnt_zero : (n : ℕ) → n ≢ 0 → nat_eq n 0 ≡ false
isnt_zero n h = grind (arith, nat_tests)

entries_apart : (words : List ℕ) (j i : ℕ) → is_first_of_type words i ≡ true → j < i → count_in words j ≢ 0 → count_in words i ≢ 0
    → (end_in words j ≤ offset_in words i) ⊎ (end_in words i ≤ offset_in words j)
unfolding is_first_of_type are_apart
entries_apart words j i first less some others =
    ⊎_elim (λ (c : nat_le (end_in words j) (offset_in words i) ≡ true). inl (le_of (end_in words j) (offset_in words i) c))
    (λ (d : nat_le (end_in words i) (offset_in words j) ≡ true). inr (le_of (end_in words i) (offset_in words j) d))
    (either_end (nat_eq (count_in words j) 0) (nat_eq (count_in words i) 0) _ _
    (both_right _ _ (all_at i j (λ j. are_apart words j i) first less)) (isnt_zero (count_in words j) some) (isnt_zero (count_in words i) others))

section_end : (words : List ℕ) (type n offset count : ℕ) (e : Entry words type n offset count) → end_in words e.index ≡ offset + section_bytes (version_in words) type count
unfolding end_in
section_end words type n offset count e = ap₂ (λ p m. p + m) e.offset_is (ap₂ (section_bytes (version_in words)) e.type_is e.count_is)

turned : {A B : Type 0} → A ⊎ B → B ⊎ A
turned (inl a) = inr a
turned (inr b) = inl b

both_entries : (words : List ℕ) (s t n p q c d : ℕ) (e : Entry words s n p c) (f : Entry words t n q d) → (end_in words e.index ≤ offset_in words f.index) ⊎ (end_in words f.index ≤ offset_in words e.index)
    → (p + section_bytes (version_in words) s c ≤ q) ⊎ (q + section_bytes (version_in words) t d ≤ p)
both_entries words s t n p q c d e f h =
    ⊎_elim
    (λ (a : end_in words e.index ≤ offset_in words f.index). inl (subst (λ m. m ≤ q) (section_end words s n p c e) (subst (λ m. end_in words e.index ≤ m) f.offset_is a)))
    (λ (b : end_in words f.index ≤ offset_in words e.index). inr (subst (λ m. m ≤ p) (section_end words t n q d f) (subst (λ m. end_in words f.index ≤ m) e.offset_is b))) h

-- two sections with entries lie apart
pub sections_apart : (words : List ℕ) (s t : ℕ) → is_image words ≡ true → s ≢ t → (section_of words s).count ≢ 0 → (section_of words t).count ≢ 0
    → ((section_of words s).offset + section_bytes (version_in words) s (section_of words s).count ≤ (section_of words t).offset)
    ⊎ ((section_of words t).offset + section_bytes (version_in words) t (section_of words t).count ≤ (section_of words s).offset)
unfolding section_of
sections_apart words s t h differ some others =
    let n : ℕ = contents_in words in
    let e : Entry words s n (find_section words s n).offset (find_section words s n).count = entry_of words s n some in
    let f : Entry words t n (find_section words t n).offset (find_section words t n).count = entry_of words t n others in
    let some_e : count_in words e.index ≢ 0 = λ z. some (sym e.count_is ∙ z) in
    let some_f : count_in words f.index ≢ 0 = λ z. others (sym f.count_is ∙ z) in
    both_entries words s t n _ _ _ _ e f
    (⊎_elim
    (λ (same : e.index ≡ f.index). absurd (differ (sym e.type_is ∙ ap (type_in words) same ∙ f.type_is)))
    (λ (apart : (e.index < f.index) ⊎ (f.index < e.index)).
    ⊎_elim (λ (before : e.index < f.index). entries_apart words e.index f.index (first_of words f.index (good_section words f.index h f.below)) before some_e some_f)
    (λ (behind : f.index < e.index). turned (entries_apart words f.index e.index (first_of words e.index (good_section words e.index h e.below)) behind some_f some_e)) apart)
    (cases_order e.index f.index))

-- an offset in another section than that of the values
pub looked_in : (words : List ℕ) (type d : ℕ) → is_image words ≡ true → type ≢ 4 → (section_of words type).count ≢ 0 → d < section_bytes (version_in words) type (section_of words type).count
    → Looked words ((section_of words type).offset + d)
unfolding section_bytes
looked_in words type d h other some below =
    let lies : Lies words (section_of words type).offset (section_bytes (version_in words) type (section_of words type).count) = section_stands words type h some in
    record {
      within = before (section_of words type).offset (section_bytes (version_in words) type (section_of words type).count) (length words) below lies.within;
      outside = inr (behind (contents_in words) (section_of words type).offset lies.behind);
      apart = λ j values. ⊎_elim
          (λ (a : (section_of words type).offset + section_bytes (version_in words) type (section_of words type).count ≤ (section_of words 4).offset).
          inl (first (section_of words type).offset (section_bytes (version_in words) type (section_of words type).count) (section_of words 4).offset j below a))
          (λ (b : (section_of words 4).offset + value_size * (section_of words 4).count ≤ (section_of words type).offset).
          inr (last (section_of words type).offset (section_of words 4).offset (section_of words 4).count j values b))
          (sections_apart words type 4 h other some (some_of j (value_count words) values));
    }
  where
    before : (p n w : ℕ) → d < n → p + n ≤ 8 * w → p + d < 8 * w
    before p n w a b = omega arith

    behind : (n p : ℕ) → entry_at n ≤ p → 24 ≤ p + d
    behind n p a = omega arith

    first : (p n v j : ℕ) → d < n → p + n ≤ v → p + d < v + value_size * j
    first p n v j a b = omega arith

    last : (p v n j : ℕ) → j < n → v + value_size * n ≤ p → metric_offset_in_value (v + value_size * j) ≤ p + d
    last p v n j a b = omega arith

pub looked_indom : (words : List ℕ) (i o : ℕ) → is_image words ≡ true → i < indom_count words → o < indom_size → Looked words (indom_at words i + o)
unfolding section_bytes
looked_indom words i o h below small =
    let offset : (section_of words 1).offset + (indom_size * i + o) ≡ indom_at words i + o = omega arith in
    subst (Looked words) offset (looked_in words 1 (indom_size * i + o) h (λ e. absurd (omega arith)) (some_of i (indom_count words) below) (inside (section_of words 1).count below))
  where
    inside : (n : ℕ) → i < n → indom_size * i + o < indom_size * n
    inside n a = omega arith

pub looked_instance : (words : List ℕ) (i o : ℕ) → is_image words ≡ true → i < instance_count words → o < instance_size (version_in words) → Looked words (instance_at words i + o)
unfolding section_bytes
looked_instance words i o h below small =
    let offset : (section_of words 2).offset + (instance_size (version_in words) * i + o) ≡ instance_at words i + o = omega arith in
    subst (Looked words) offset (looked_in words 2 (instance_size (version_in words) * i + o) h (λ e. absurd (omega arith)) (some_of i (instance_count words) below) (inside (section_of words 2).count below))
  where
    inside : (n : ℕ) → i < n → instance_size (version_in words) * i + o < instance_size (version_in words) * n
    inside n a = entry_inside (instance_size (version_in words)) i n o a small

pub looked_metric : (words : List ℕ) (i o : ℕ) → is_image words ≡ true → i < metric_count words → o < metric_size (version_in words) → Looked words (metric_at words i + o)
unfolding section_bytes
looked_metric words i o h below small =
    let offset : (section_of words 3).offset + (metric_size (version_in words) * i + o) ≡ metric_at words i + o = omega arith in
    subst (Looked words) offset (looked_in words 3 (metric_size (version_in words) * i + o) h (λ e. absurd (omega arith)) (some_of i (metric_count words) below) (inside (section_of words 3).count below))
  where
    inside : (n : ℕ) → i < n → metric_size (version_in words) * i + o < metric_size (version_in words) * n
    inside n a = entry_inside (metric_size (version_in words)) i n o a small

pub looked_string : (words : List ℕ) (i o : ℕ) → is_image words ≡ true → i < string_count words → o < string_size → Looked words (string_at words i + o)
unfolding section_bytes
looked_string words i o h below small =
    let offset : (section_of words 5).offset + (string_size * i + o) ≡ string_at words i + o = omega arith in
    subst (Looked words) offset (looked_in words 5 (string_size * i + o) h (λ e. absurd (omega arith)) (some_of i (string_count words) below) (inside (section_of words 5).count below))
  where
    inside : (n : ℕ) → i < n → string_size * i + o < string_size * n
    inside n a = omega arith

-- the last two words of a value
pub looked_value : (words : List ℕ) (i o : ℕ) → is_image words ≡ true → i < value_count words → metric_offset_in_value 0 ≤ o → o < value_size → Looked words (value_at words i + o)
looked_value words i o h below some small =
    let stands : Stands words (value_at words i) value_size = value_stands words i h below in record {
      within = inside (value_at words i) (length words) stands.within;
      outside = inr (behind (value_at words i) stands.behind);
      apart = λ j others. others_apart (section_of words 4).offset j;
    }
  where
    inside : (v n : ℕ) → v + value_size ≤ 8 * n → v + o < 8 * n
    inside v n a = omega arith

    behind : (v : ℕ) → header_size ≤ v → 24 ≤ v + o
    behind v a = omega arith

    others_apart : (v j : ℕ) → ((v + value_size * i) + o < v + value_size * j) ⊎ (metric_offset_in_value (v + value_size * j) ≤ (v + value_size * i) + o)
    others_apart v j = grind arith
