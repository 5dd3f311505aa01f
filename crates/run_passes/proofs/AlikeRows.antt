-- What two images say that are alike: the same but for their generations and for contents that no metric shows.
use Rattle.std.proofs.Common.{cond, ◌≡◌, ℕ, ℤ, zero, suc, negsuc, ◌+◌, ◌/◌, ◌%◌, ◌<◌, ◌≤◌, Bool, true, false, ◌||◌, not, List, ◌∷◌, length, nat_eq, nat_le, map, slice_index, Option, Some, None, unwrap_or, Contains, ap, sym, subst, ◌∙◌, refl, arith, ⊎_elim}
use Rattle.std.proofs.lemmas.Bool.Decides.{nat_tests}
use Rattle.pcp_base.specs.Codes.{kind_of_code}
use Rattle.pcp_base.specs.declared.kind.Kind.{Kind}
use Rattle.pcp_base.specs.declared.kind.Kind.TheVariants as kinds
use Rattle.mmv_layout.specs.Fields.{number64}
use Rattle.mmv_layout.specs.Sizes.{string_size, value_size}
use Rattle.mmv_layout.specs.EntryFields.{extra_in_value}
use Rattle.mmv_layout.specs.Contents.{section_of}
use Rattle.mmv_layout.specs.Entries.{value_count, value_at, string_count, string_at, leads_to_string, choice_leads, is_good_value}
use Rattle.mmv_layout.specs.Images.{is_image}
use Rattle.mmv_layout.specs.declared.rows.Content.{Content}
use Rattle.mmv_layout.specs.declared.rows.Content.TheVariants.{Number, Choice, Raw}
use Rattle.mmv_layout.specs.declared.rows.Layout.{Layout}
use Rattle.mmv_layout.specs.declared.rows.Slot.{Slot}
use Rattle.mmv_layout.specs.declared.rows.ValueRow.{ValueRow}
use Rattle.mmv_layout.proofs.Below.{both_left, both_right}
use Rattle.mmv_layout.specs.Form.{Form, form_of, slot_in, slot_at, slots_of, offsets_of, subjects_of}
use Rattle.mmv_layout.specs.Rows.{list_below, string_text, item_of, type_of, instance_of, content_of, value_row, values_of, strings_of, layout_of}
use Rattle.mmv_layout.specs.Says.{LeadsTo}
use Rattle.mmv_layout.specs.ShapeLaws.{content_of_kind}
use Rattle.mmv_layout.proofs.EntryOffsets.{Stands, value_stands}
use Rattle.mmv_layout.proofs.FormSays.{slot_holds}
use Rattle.mmv_layout.proofs.Goods.{good_value, leads_there}
use Rattle.mmv_layout.proofs.RowLists.{among_rows, rows_front, rows_length, rows_mapped, rows_same}
use Rattle.mmv_layout.proofs.SlotFacts.{SlotIs, slot_is}
use Rattle.mmv_layout.proofs.SlotLists.{given_among}
use Rattle.mmv_layout.proofs.SlotsOnce.{value_once}
use Rattle.run_passes.specs.Alike.{AreAlike, SayAlike}

-- What is shown of contents: of those of kinds without a value word nothing

abbrev pub plain : Content → Content
plain (Number n) = Number n
plain (Choice text) = Choice text
plain (Raw n extra) = Raw 0 0

abbrev pub plain_row : ValueRow → ValueRow
plain_row row = record { item = row.item; instance = row.instance; content = plain row.content }

abbrev pub plain_layout : Layout → Layout
plain_layout layout = record layout { generation = 0; values = map plain_row layout.values }

-- Lists

head_same : {X : Type 0} (x y : X) (xs ys : List X) → x ∷ xs ≡ y ∷ ys → x ≡ y
head_same x y xs ys e = cc

tail_same : {X : Type 0} (x y : X) (xs ys : List X) → x ∷ xs ≡ y ∷ ys → xs ≡ ys
tail_same x y xs ys e = cc

-- lists of rows that are the same have the same row for each number
rows_each : {X : Type 0} (n : ℕ) (f g : ℕ → X) → list_below n f ≡ list_below n g → (k : ℕ) → k < n → f k ≡ g k
rows_each zero f g e k below = absurd (omega arith)
rows_each (suc n) f g e zero below = head_same (f 0) (g 0) (list_below n (λ i. f (suc i))) (list_below n (λ i. g (suc i))) (sym (rows_front n f) ∙ (e ∙ rows_front n g))
rows_each (suc n) f g e (suc k) below =
    rows_each n (λ i. f (suc i)) (λ i. g (suc i)) (tail_same (f 0) (g 0) (list_below n (λ i. f (suc i))) (list_below n (λ i. g (suc i))) (sym (rows_front n f) ∙ (e ∙ rows_front n g))) k (omega arith)

-- Contents

-- the content of the value that a slot is of
content_by : (words : List ℕ) (i : ℕ) (slot : Slot) → is_image words ≡ true → i < value_count words → Contains (slots_of words) slot → item_of words (value_at words i) ≡ slot.item
    → unwrap_or (instance_of words (value_at words i)) (negsuc 0) ≡ slot.instance → content_of words (value_at words i) ≡ content_of_kind words slot.kind (slice_index words slot.word)
unfolding value_row values_of
content_by words i slot h below among item instance =
    let (row, there, items, instances, contents) = slot_holds words slot h among in
    let (j, j_below, is) = among_rows (value_count words) (λ i. value_row words (value_at words i)) row there in
    let same : i ≡ j = value_once words h i j below j_below
    (item ∙ (sym items ∙ ap (λ (r : ValueRow). r.item) is)) (instance ∙ (sym instances ∙ ap (λ (r : ValueRow). unwrap_or r.instance (negsuc 0)) is)) in
    ap (λ (n : ℕ). content_of words (value_at words n)) same ∙ (sym (ap (λ (r : ValueRow). r.content) is) ∙ contents)

-- a value without a slot has a content that isn't shown
content_bare : (words : List ℕ) (value : ℕ) → slot_at words value ≡ None → plain (content_of words value) ≡ Raw 0 0
unfolding slot_at content_of
content_bare words value e = by_test (nat_le (type_of words value) 3) refl (nat_eq (type_of words value) 6) refl e
  where
    by_test : (a : Bool) → nat_le (type_of words value) 3 ≡ a → (b : Bool) → nat_eq (type_of words value) 6 ≡ b
        → cond a (Some (slot_in words value (value / 8))) (cond b (Some (slot_in words value (value / 8 + 1))) None) ≡ None
        → plain (cond a (Number (number64 words value)) (cond b (Choice (string_text words (extra_in_value words value))) (Raw (number64 words value) (extra_in_value words value)))) ≡ Raw 0 0
    by_test true e b f g = absurd (cc)
    by_test false e true f g = absurd (cc)
    by_test false e false f g = refl

-- Texts

-- the kind of a code up to 3 is that of a number
not_text : (code : ℕ) → code ≤ 3 → unwrap_or (kind_of_code code) kinds.I32 ≡ kinds.Text → ⊥
not_text zero h e = cc
not_text (suc zero) h e = cc
not_text (suc (suc zero)) h e = cc
not_text (suc (suc (suc zero))) h e = cc
not_text (suc (suc (suc (suc code)))) h e = omega arith

choice_good : (words : List ℕ) (i : ℕ) → is_good_value words i ≡ true → type_of words (value_at words i) ≡ 6 → leads_to_string words (extra_in_value words (value_at words i)) ≡ true
unfolding is_good_value choice_leads
choice_good words i good is =
    by_test (nat_eq (type_of words (value_at words i)) 6) refl (both_right _ _ (both_left _ _ good))
  where
    by_test : (b : Bool) → nat_eq (type_of words (value_at words i)) 6 ≡ b → (not b || leads_to_string words (extra_in_value words (value_at words i))) ≡ true → leads_to_string words (extra_in_value words (value_at words i)) ≡ true
    by_test true e h = h
    by_test false e h = absurd (none (type_of words (value_at words i)) is e)
      where
        none : (n : ℕ) → n ≡ 6 → nat_eq n 6 ≡ false → ⊥
        none n same test = grind (arith, nat_tests)

extra_word : (words : List ℕ) (value : ℕ) → value % 8 ≡ 0 → extra_in_value words value ≡ slice_index words (value / 8 + 1)
unfolding number64
extra_word words value whole = ap (slice_index words) (omega arith)

-- a value word of a string holds the place of one
word_leads : (words : List ℕ) (i : ℕ) (slot : Slot) → is_image words ≡ true → i < value_count words → slot_at words (value_at words i) ≡ Some slot → slot.kind ≡ kinds.Text
    → LeadsTo (string_count words) (string_at words) (slice_index words slot.word)
word_leads words i slot h below gives text =
    let is : SlotIs words (value_at words i) slot = slot_is words (value_at words i) slot gives in
    let stands : Stands words (value_at words i) value_size = value_stands words i h below in
    ⊎_elim
    (λ (x : (type_of words (value_at words i) ≤ 3) × (slot.word ≡ value_at words i / 8)). absurd (not_text (type_of words (value_at words i)) x.0 (sym (ap (λ (s : Slot). s.kind) is.is) ∙ text)))
    (λ (x : (type_of words (value_at words i) ≡ 6) × (slot.word ≡ value_at words i / 8 + 1)).
    subst (λ (n : ℕ). LeadsTo (string_count words) (string_at words) n) (extra_word words (value_at words i) stands.whole ∙ ap (slice_index words) (sym x.1))
    (leads_there (section_of words 5).offset (section_of words 5).count string_size (extra_in_value words (value_at words i)) (choice_good words i (good_value words i h below) x.0)))
    is.word

-- Two images that are alike

alike_back : (words others : List ℕ) → AreAlike words others → AreAlike others words
unfolding form_of
alike_back words others h = record {
  image = h.other_image;
  other_image = h.image;
  form = sym h.form;
  values = λ slot among. sym (h.values slot (subst (λ (slots : List Slot). Contains slots slot) (sym (ap (λ (f : Form). f.slots) h.form)) among));
}

module _ (words others : List ℕ) (h : AreAlike words others) where
  slots_same : slots_of words ≡ slots_of others
  unfolding form_of
  slots_same = ap (λ (f : Form). f.slots) h.form

  subjects_same : subjects_of words ≡ subjects_of others
  unfolding form_of
  subjects_same = ap (λ (f : Form). f.subjects) h.form

  count_same : value_count words ≡ value_count others
  unfolding subjects_of
  count_same =
      sym (rows_length (value_count words) (λ i. (item_of words (value_at words i), instance_of words (value_at words i))))
      ∙ (ap (λ (l : List (ℕ × Option ℤ)). length l) subjects_same ∙ rows_length (value_count others) (λ i. (item_of others (value_at others i), instance_of others (value_at others i))))

  subject_same : (i : ℕ) → i < value_count words → (item_of words (value_at words i) ≡ item_of others (value_at others i)) × (instance_of words (value_at words i) ≡ instance_of others (value_at others i))
  unfolding subjects_of
  subject_same i below =
      let lists : list_below (value_count words) (λ i. (item_of words (value_at words i), instance_of words (value_at words i))) ≡ list_below (value_count words) (λ i. (item_of others (value_at others i), instance_of others (value_at others i)))
      = subjects_same ∙ ap (λ (n : ℕ). list_below n (λ i. (item_of others (value_at others i), instance_of others (value_at others i)))) (sym count_same) in
      let same = rows_each (value_count words) (λ i. (item_of words (value_at words i), instance_of words (value_at words i))) (λ i. (item_of others (value_at others i), instance_of others (value_at others i))) lists i below in
      (ap (λ (s : ℕ × Option ℤ). s.0) same, ap (λ (s : ℕ × Option ℤ). s.1) same)

  string_counts : string_count words ≡ string_count others
  unfolding form_of offsets_of
  string_counts =
      sym (rows_length (string_count words) (string_at words)) ∙ (ap (λ (f : Form). length f.offsets) h.form ∙ rows_length (string_count others) (string_at others))

  place_same : (k : ℕ) → k < string_count words → string_at words k ≡ string_at others k
  unfolding form_of offsets_of
  place_same k below =
      rows_each (string_count words) (string_at words) (string_at others) (ap (λ (f : Form). f.offsets) h.form ∙ ap (λ (n : ℕ). list_below n (string_at others)) (sym string_counts)) k below

  text_same : (k : ℕ) → k < string_count words → string_text words (string_at words k) ≡ string_text others (string_at others k)
  unfolding form_of strings_of
  text_same k below =
      rows_each (string_count words) (λ k. string_text words (string_at words k)) (λ k. string_text others (string_at others k))
      (ap (λ (f : Form). f.strings) h.form ∙ ap (λ (n : ℕ). list_below n (λ k. string_text others (string_at others k))) (sym string_counts)) k below

  -- where a place is that of a string, both have one text there
  text_there : (place : ℕ) → LeadsTo (string_count words) (string_at words) place → string_text words place ≡ string_text others place
  text_there place (k, below, is) =
      ap (λ (n : ℕ). string_text words n) is ∙ (text_same k below ∙ ap (λ (n : ℕ). string_text others n) (sym (is ∙ place_same k below)))

  held_same : (kind : Kind) (n : ℕ) → (kind ≡ kinds.Text → LeadsTo (string_count words) (string_at words) n) → content_of_kind words kind n ≡ content_of_kind others kind n
  held_same kinds.I32 n leads = refl
  held_same kinds.U32 n leads = refl
  held_same kinds.I64 n leads = refl
  held_same kinds.U64 n leads = refl
  held_same kinds.Float n leads = refl
  held_same kinds.Double n leads = refl
  held_same kinds.Text n leads = ap Choice (text_there n (leads refl))
  held_same kinds.Elapsed n leads = refl

  -- a value with a slot has one content in both
  content_slot : (i : ℕ) (slot : Slot) → i < value_count words → slot_at words (value_at words i) ≡ Some slot → content_of words (value_at words i) ≡ content_of others (value_at others i)
  unfolding slots_of
  content_slot i slot below gives =
      let is : SlotIs words (value_at words i) slot = slot_is words (value_at words i) slot gives in
      let among : Contains (slots_of words) slot = given_among (slot_at words) (value_count words) i (value_at words) slot below gives in
      let item : item_of words (value_at words i) ≡ slot.item = sym (ap (λ (s : Slot). s.item) is.is) in
      let instance : unwrap_or (instance_of words (value_at words i)) (negsuc 0) ≡ slot.instance = sym (ap (λ (s : Slot). s.instance) is.is) in
      let same = subject_same i below in
      let here : content_of words (value_at words i) ≡ content_of_kind words slot.kind (slice_index words slot.word) = content_by words i slot h.image below among item instance in
      let there : content_of others (value_at others i) ≡ content_of_kind others slot.kind (slice_index others slot.word) =
      content_by others i slot h.other_image (subst (λ (n : ℕ). i < n) count_same below) (subst (λ (slots : List Slot). Contains slots slot) slots_same among)
      (sym same.0 ∙ item) (ap (λ (o : Option ℤ). unwrap_or o (negsuc 0)) (sym same.1) ∙ instance) in
      here ∙ (held_same slot.kind (slice_index words slot.word) (λ text. word_leads words i slot h.image below gives text)
      ∙ (ap (λ (n : ℕ). content_of_kind others slot.kind n) (h.values slot among) ∙ sym there))

module _ (words others : List ℕ) (h : AreAlike words others) where
  content_plain : (i : ℕ) → i < value_count words → plain (content_of words (value_at words i)) ≡ plain (content_of others (value_at others i))
  content_plain i below = by_slots (slot_at words (value_at words i)) refl (slot_at others (value_at others i)) refl
    where
      by_slots : (o : Option Slot) → slot_at words (value_at words i) ≡ o → (p : Option Slot) → slot_at others (value_at others i) ≡ p → plain (content_of words (value_at words i)) ≡ plain (content_of others (value_at others i))
      by_slots (Some slot) e p f = ap plain (content_slot words others h i slot below e)
      by_slots None e (Some slot) f = ap plain (sym (content_slot others words (alike_back words others h) i slot (subst (λ (n : ℕ). i < n) (count_same words others h) below) f))
      by_slots None e None f = content_bare words (value_at words i) e ∙ sym (content_bare others (value_at others i) f)

  row_plain : (i : ℕ) → i < value_count words → plain_row (value_row words (value_at words i)) ≡ plain_row (value_row others (value_at others i))
  unfolding value_row
  row_plain i below =
      let same = subject_same words others h i below in
      let content = content_plain i below in
      λ j. record { item = same.0 j; instance = same.1 j; content = content j }

  rows_plain : map plain_row (values_of words) ≡ map plain_row (values_of others)
  unfolding values_of
  rows_plain =
      rows_mapped plain_row (value_count words) (λ i. value_row words (value_at words i))
      ∙ (rows_same (value_count words) (λ i. plain_row (value_row words (value_at words i))) (λ i. plain_row (value_row others (value_at others i))) row_plain
      ∙ (ap (λ (n : ℕ). list_below n (λ i. plain_row (value_row others (value_at others i)))) (count_same words others h)
      ∙ sym (rows_mapped plain_row (value_count others) (λ i. value_row others (value_at others i)))))

  layout_plain : plain_layout (layout_of words) ≡ plain_layout (layout_of others)
  unfolding form_of layout_of
  layout_plain =
      let values = rows_plain in
      λ j. record {
        version = ap (λ (f : Form). f.version) h.form j;
        generation = 0;
        flags = ap (λ (f : Form). f.flags) h.form j;
        pid = ap (λ (f : Form). f.pid) h.form j;
        cluster = ap (λ (f : Form). f.cluster) h.form j;
        indoms = ap (λ (f : Form). f.indoms) h.form j;
        metrics = ap (λ (f : Form). f.metrics) h.form j;
        values = values j;
        strings = ap (λ (f : Form). f.strings) h.form j;
      }

pub say_plain : (layout other : Layout) → SayAlike layout other → plain_layout layout ≡ plain_layout other
say_plain layout other s = ap plain_layout s.says ∙ (layout_plain s.words s.others s.alike ∙ ap plain_layout (sym s.other_says))
