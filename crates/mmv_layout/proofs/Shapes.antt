-- The laws of images as a kind of layout.
use Rattle.std.proofs.Common.{refl, ◌≡◌, ◌≢◌, ℕ, ◌+◌, ◌*◌, ◌/◌, ◌%◌, ◌<◌, ◌≤◌, Bool, true, false, not, ◌||◌, ◌⊎◌, inr, List, ◌++◌, length, length-append, slice_index, slice_set, unwrap_or, ap, sym, subst, ◌∙◌, arith, nat_eq, ⊎_elim, Contains}
use Rattle.std.proofs.Math.ListN.{get_or-append}
use Rattle.std.proofs.lemmas.List.{get_or-set_same, get_or-set_other, length-set}
use Rattle.std.proofs.lemmas.Bool.{cases_eq, eq-eqb}
use Rattle.pcp_base.specs.Codes.{kind_of_code}
use Rattle.pcp_base.specs.declared.kind.Kind.{Kind}
use Rattle.pcp_base.specs.declared.kind.Kind.TheVariants as kinds
use Rattle.mmv_layout.specs.Fields.{number64}
use Rattle.mmv_layout.specs.Sizes.{header_size, value_size}
use Rattle.mmv_layout.specs.EntryFields.{extra_offset_in_value, extra_in_value, metric_offset_in_value}
use Rattle.mmv_layout.specs.Contents.{version_in, section_bytes, section_of}
use Rattle.mmv_layout.specs.Entries.{leads, leads_to_string, value_count, value_at, string_count, string_at, choice_leads, is_good_value}
use Rattle.mmv_layout.specs.Images.{has_good_header, is_image}
use Rattle.mmv_layout.proofs.Below.{both_left, both_right, some_holds}
use Rattle.mmv_layout.specs.declared.rows.Slot.{Slot}
use Rattle.mmv_layout.specs.Rows.{type_of}
use Rattle.mmv_layout.specs.Form.{slot_in, slot_at, slots_of, offsets_of, form_of}
use Rattle.mmv_layout.specs.ShapeLaws.{TakesAs, IsAlike, HasGenerationTwice, GenerationIsNoValue, ValueKeepsTheForm, LengthKeepsTheForm, GenerationKeepsTheForm}
use Rattle.mmv_layout.proofs.Goods.{eq_of, header, good_value}
use Rattle.mmv_layout.proofs.EntryOffsets.{Lies, section_stands, some_of, Stands, value_stands, few_words}
use Rattle.mmv_layout.proofs.RowLists.{among_rows}
use Rattle.mmv_layout.proofs.Looked.{five_words}
use Rattle.mmv_layout.proofs.SlotLists.{GivenBy}
use Rattle.mmv_layout.proofs.SlotFacts.{SlotIs, slot_is, slot_value, slot_lies}
use Rattle.mmv_layout.proofs.Alike.{Agrees}
use Rattle.mmv_layout.proofs.AlikeForm.{image_still, form_same}

alike : (a b : List ℕ) → is_image a ≡ true → Agrees a b → IsAlike a b
alike a b h g = record { image = image_still a b h g; form = form_same a b h g }

-- both generations are one number
twice : (words : List ℕ) → is_image words ≡ true → number64 words 8 ≡ number64 words 16
unfolding has_good_header
twice words h = eq_of (number64 words 8) (number64 words 16) (both_right _ _ (both_left _ _ (header words h)))

pub has_twice : HasGenerationTwice
unfolding number64
has_twice words h = let five : 5 ≤ length words = five_words words h in (omega arith, twice words h)

not_near : (w n : ℕ) → 5 ≤ n → n ≡ w → w ≤ 2 → ⊥
not_near w n a e b = omega arith

slots_in_form : (words : List ℕ) (slot : Slot) → Contains (form_of words).slots slot → Contains (slots_of words) slot
unfolding form_of
slots_in_form words slot h = h

pub is_no_value : GenerationIsNoValue
is_no_value words value h = (
  λ t. not_near 1 t.slot.word (slot_lies words t.slot h (slots_in_form words t.slot t.among)).0 t.stands (omega arith),
  λ t. not_near 2 t.slot.word (slot_lies words t.slot h (slots_in_form words t.slot t.among)).0 t.stands (omega arith),
)

-- a string value leads to a string
leads_of : (six leads : Bool) → (not six || leads) ≡ true → six ≡ true → leads ≡ true
leads_of true leads h e = h
leads_of false leads h e = cc

choice_good : (words : List ℕ) (i : ℕ) → is_good_value words i ≡ true → choice_leads words (value_at words i) ≡ true
unfolding is_good_value
choice_good words i good = both_right _ _ (both_left _ _ good)

chosen : (words : List ℕ) (i : ℕ) → is_image words ≡ true → i < value_count words → type_of words (value_at words i) ≡ 6 → leads_to_string words (extra_in_value words (value_at words i)) ≡ true
unfolding choice_leads
chosen words i h below six =
    leads_of (nat_eq (type_of words (value_at words i)) 6) _ (choice_good words i (good_value words i h below)) (eq-eqb (type_of words (value_at words i)) 6 six)

-- further words

pub number_before : (a more : List ℕ) (offset : ℕ) → offset < 8 * length a → number64 (a ++ more) offset ≡ number64 a offset
unfolding number64
number_before a more offset below = get_or-append a more 0 (offset / 8) (omega arith)

pub longer_agrees : (a more : List ℕ) → is_image a ≡ true → length (a ++ more) ≤ 65536 → Agrees a (a ++ more)
longer_agrees a more h few =
    let five : 5 ≤ length a = five_words a h in
    let sum : length (a ++ more) ≡ length a + length more = length-append a more in record {
      longer = omega arith;
      few = few;
      again = number_before a more 8 (omega arith) ∙ twice a h ∙ sym (number_before a more 16 (omega arith));
      same = λ offset looked. number_before a more offset looked.within;
      choices = λ i below six. let stands : Stands a (value_at a i) value_size = value_stands a i h below in
          ap (leads_to_string a) (number_before a more (extra_offset_in_value (value_at a i)) (inside (value_at a i) stands.within)) ∙ chosen a i h below six;
    }
  where
    inside : (v : ℕ) → v + value_size ≤ 8 * length a → v + 8 < 8 * length a
    inside v b = omega arith

pub length_keeps : LengthKeepsTheForm
length_keeps words more h fit few = alike words (words ++ more) h (longer_agrees words more h few)

-- another generation

with_twice : List ℕ → ℕ → List ℕ
with_twice a n = slice_set (slice_set a 1 n) 2 n

twice_length : (a : List ℕ) (n : ℕ) → length (with_twice a n) ≡ length a
unfolding with_twice
twice_length a n = length-set (slice_set a 1 n) 2 n ∙ length-set a 1 n

number_beside : (a : List ℕ) (n offset : ℕ) → (offset < 8) ⊎ (24 ≤ offset) → number64 (with_twice a n) offset ≡ number64 a offset
unfolding number64 with_twice
number_beside a n offset outside =
    get_or-set_other (slice_set a 1 n) 2 (offset / 8) n 0 (λ e. far (offset / 8) outside (omega arith) e) ∙ get_or-set_other a 1 (offset / 8) n 0 (λ e. close (offset / 8) outside (omega arith) e)
  where
    far : (q : ℕ) → (offset < 8) ⊎ (24 ≤ offset) → q ≡ offset / 8 → q ≡ 2 → ⊥
    far q o d e = grind arith

    close : (q : ℕ) → (offset < 8) ⊎ (24 ≤ offset) → q ≡ offset / 8 → q ≡ 1 → ⊥
    close q o d e = grind arith

first_is : (a : List ℕ) (n : ℕ) → 5 ≤ length a → number64 (with_twice a n) 8 ≡ n
unfolding number64 with_twice
first_is a n five = get_or-set_other (slice_set a 1 n) 2 1 n 0 (λ e. absurd (omega arith)) ∙ get_or-set_same a 1 n 0 (omega arith)

second_is : (a : List ℕ) (n : ℕ) → 5 ≤ length a → number64 (with_twice a n) 16 ≡ n
unfolding number64 with_twice
second_is a n five = get_or-set_same (slice_set a 1 n) 2 n 0 (let e : length (slice_set a 1 n) ≡ length a = length-set a 1 n in omega arith)

twice_agrees : (a : List ℕ) (n : ℕ) → is_image a ≡ true → Agrees a (with_twice a n)
twice_agrees a n h =
    let five : 5 ≤ length a = five_words a h in
    let few : length a ≤ 65536 = few_words a h in
    let long : length (with_twice a n) ≡ length a = twice_length a n in record {
      longer = omega arith;
      few = omega arith;
      again = first_is a n five ∙ sym (second_is a n five);
      same = λ offset looked. number_beside a n offset looked.outside;
      choices = λ i below six. let stands : Stands a (value_at a i) value_size = value_stands a i h below in
          ap (leads_to_string a) (number_beside a n (extra_offset_in_value (value_at a i)) (inr (behind (value_at a i) stands.behind))) ∙ chosen a i h below six;
    }
  where
    behind : (v : ℕ) → header_size ≤ v → 24 ≤ extra_offset_in_value v
    behind v b = omega arith

pub generation_keeps : GenerationKeepsTheForm
unfolding with_twice
generation_keeps words n h fits = alike words (with_twice words n) h (twice_agrees words n h)

-- another value

number_other : (a : List ℕ) (w v offset : ℕ) → offset / 8 ≢ w → number64 (slice_set a w v) offset ≡ number64 a offset
unfolding number64
number_other a w v offset other = get_or-set_other a w (offset / 8) v 0 other

number_there : (a : List ℕ) (w v offset : ℕ) → w < length a → offset / 8 ≡ w → number64 (slice_set a w v) offset ≡ v
unfolding number64
number_there a w v offset below here = ap (slice_index (slice_set a w v)) here ∙ get_or-set_same a w v 0 below

-- offsets outside of a value's first two fields lie in other words
off_first : (value offset : ℕ) → value % 8 ≡ 0 → (offset < value) ⊎ (metric_offset_in_value value ≤ offset) → offset / 8 ≢ value / 8
off_first value offset whole outside e = ⊎_elim (λ (x : offset < value). absurd (omega arith)) (λ (y : metric_offset_in_value value ≤ offset). absurd (omega arith)) outside

off_second : (value offset : ℕ) → value % 8 ≡ 0 → (offset < value) ⊎ (metric_offset_in_value value ≤ offset) → offset / 8 ≢ value / 8 + 1
off_second value offset whole outside e = ⊎_elim (λ (x : offset < value). absurd (omega arith)) (λ (y : metric_offset_in_value value ≤ offset). absurd (omega arith)) outside

-- the extra field of a value is not the value field of one
extra_apart : (first i j : ℕ) → first % 8 ≡ 0 → ((first + value_size * i) + 8) / 8 ≡ (first + value_size * j) / 8 → ⊥
extra_apart first i j whole e = omega arith

string_leads : (words : List ℕ) (value : ℕ) → Contains (offsets_of words) value → leads_to_string words value ≡ true
unfolding offsets_of leads
string_leads words value h =
    let (k, below, is) = among_rows (string_count words) (string_at words) value h in
    some_holds (string_count words) k (λ k. nat_eq (string_at words k) value) below (eq-eqb (string_at words k) value (sym is))

text_kind : (words : List ℕ) (value : ℕ) (slot : Slot) → slot ≡ slot_in words value slot.word → type_of words value ≡ 6 → slot.kind ≡ kinds.Text
text_kind words value slot is six = ap (λ s. s.kind) is ∙ ap (λ n. unwrap_or (kind_of_code n) kinds.I32) six

text_takes : (words : List ℕ) (kind : Kind) (value : ℕ) → kind ≡ kinds.Text → TakesAs kind (form_of words).offsets value → Contains (offsets_of words) value
unfolding form_of
text_takes words kind value is takes = subst (λ k. TakesAs k (offsets_of words) value) is takes

section_whole : (words : List ℕ) (i : ℕ) → is_image words ≡ true → i < value_count words → (section_of words 4).offset % 8 ≡ 0
section_whole words i h below =
    let lies : Lies words (section_of words 4).offset (section_bytes (version_in words) 4 (section_of words 4).count) = section_stands words 4 h (some_of i (value_count words) below) in lies.whole

-- the word of a slot as the first or the second word of its value
slot_offset : (words : List ℕ) (value : ℕ) (slot : Slot) (offset : ℕ) → value % 8 ≡ 0 → SlotIs words value slot → (offset < value) ⊎ (metric_offset_in_value value ≤ offset) → offset / 8 ≢ slot.word
slot_offset words value slot offset whole is outside e =
    ⊎_elim
    (λ (x : (type_of words value ≤ 3) × (slot.word ≡ value / 8)). off_first value offset whole outside (e ∙ x.1))
    (λ (y : (type_of words value ≡ 6) × (slot.word ≡ value / 8 + 1)). off_second value offset whole outside (e ∙ y.1)) is.word

-- where the extra field of a string value is the word of a slot, that takes offsets of strings alone
extra_takes : (words : List ℕ) (i j v : ℕ) (slot : Slot) → is_image words ≡ true → i < value_count words → SlotIs words (value_at words j) slot
    → (extra_offset_in_value (value_at words i)) / 8 ≡ slot.word → TakesAs slot.kind (form_of words).offsets v → leads_to_string words v ≡ true
extra_takes words i j v slot h below is here takes =
    ⊎_elim
    (λ (x : (type_of words (value_at words j) ≤ 3) × (slot.word ≡ value_at words j / 8)).
    absurd (extra_apart (section_of words 4).offset i j (section_whole words i h below) (here ∙ x.1)))
    (λ (y : (type_of words (value_at words j) ≡ 6) × (slot.word ≡ value_at words j / 8 + 1)).
    string_leads words v (text_takes words slot.kind v (text_kind words (value_at words j) slot is.is y.0) takes)) is.word

far_from : (w n : ℕ) → 5 ≤ w → n ≤ 2 → n ≢ w
far_from w n a b e = omega arith

slot_agrees : (a : List ℕ) (v : ℕ) (slot : Slot) → is_image a ≡ true → Contains (slots_of a) slot → TakesAs slot.kind (form_of a).offsets v → Agrees a (slice_set a slot.word v)
slot_agrees a v slot h among takes =
    let few : length a ≤ 65536 = few_words a h in
    let long : length (slice_set a slot.word v) ≡ length a = length-set a slot.word v in
    let lies : (5 ≤ slot.word) × (slot.word < length a) = slot_lies a slot h among in
    let given : GivenBy (slot_at a) (value_count a) (value_at a) slot = slot_value a slot among in
    let stands : Stands a (value_at a given.index) value_size = value_stands a given.index h given.below in
    let is : SlotIs a (value_at a given.index) slot = slot_is a (value_at a given.index) slot given.gives in record {
      longer = omega arith;
      few = omega arith;
      again = number_other a slot.word v 8 (far_from slot.word 1 lies.0 (omega arith)) ∙ twice a h ∙ sym (number_other a slot.word v 16 (far_from slot.word 2 lies.0 (omega arith)));
      same = λ offset looked. number_other a slot.word v offset (slot_offset a (value_at a given.index) slot offset stands.whole is (looked.apart given.index given.below));
      choices = λ i below six. ⊎_elim
          (λ (here : (extra_offset_in_value (value_at a i)) / 8 ≡ slot.word).
          ap (leads_to_string a) (number_there a slot.word v (extra_offset_in_value (value_at a i)) lies.1 here) ∙ extra_takes a i given.index v slot h below is here takes)
          (λ (other : (extra_offset_in_value (value_at a i)) / 8 ≡ slot.word → ⊥). ap (leads_to_string a) (number_other a slot.word v (extra_offset_in_value (value_at a i)) other) ∙ chosen a i h below six)
          (cases_eq ((extra_offset_in_value (value_at a i)) / 8) slot.word);
    }

pub value_keeps : ValueKeepsTheForm
value_keeps words word value h fits t =
    subst (λ w. IsAlike words (slice_set words w value)) t.stands
    (alike words (slice_set words t.slot.word value) h (slot_agrees words value t.slot h (slots_in_form words t.slot t.among) t.takes))

-- an image agrees with itself
pub self_agrees : (a : List ℕ) → is_image a ≡ true → Agrees a a
self_agrees a h = record {
  longer = omega arith;
  few = few_words a h;
  again = twice a h;
  same = λ offset looked. refl;
  choices = λ i below six. chosen a i h below six;
}
