-- What is known of the value words of an image.
use Rattle.std.proofs.Common.{◌≡◌, ◌≢◌, ℕ, ℤ, ◌+◌, ◌*◌, ◌/◌, ◌<◌, ◌≤◌, Bool, true, false, ◌&&◌, ◌⊎◌, inl, inr, List, length, slice_index_or, Option, None, Some, ap, sym, subst, ◌∙◌, refl, arith, cond, nat_eq, nat_le, ⊎_elim, MatchOption, All, Contains}
use Rattle.std.specs.List.{find}
use Rattle.std.specs.Ordering.{int_eq}
use Rattle.std.proofs.lemmas.Bool.Decides.{nat_tests, Decides-int_eq, not_from_Decides}
use Rattle.mmv_layout.specs.EntryFields.{item_in_metric}
use Rattle.mmv_layout.specs.Sizes.{header_size, value_size}
use Rattle.mmv_layout.specs.Entries.{value_count, value_at, metric_at, is_good_metric, has_good_fields}
use Rattle.mmv_layout.specs.Images.{is_image}
use Rattle.mmv_layout.proofs.Below.{both_left, both_right}
use Rattle.mmv_layout.specs.declared.rows.Slot.{Slot}
use Rattle.mmv_layout.specs.Rows.{type_of}
use Rattle.mmv_layout.specs.Form.{slot_in, slot_at, slots_of, is_slot_of, IsSlotOf, IsOther}
use Rattle.mmv_layout.proofs.Goods.{le_of, eq_of, good_metric, good_value}
use Rattle.mmv_layout.proofs.EntryOffsets.{Stands, value_stands}
use Rattle.mmv_layout.proofs.Saying.{value_metric}
use Rattle.mmv_layout.proofs.SlotLists.{GivenBy, given_of, found_among, found_none}

-- A value word: its value, its word there, by the type
pub record SlotIs (words : List ℕ) (value : ℕ) (slot : Slot) : Type 0 where
  pub is : slot ≡ slot_in words value slot.word
  pub word : ((type_of words value ≤ 3) × (slot.word ≡ value / 8)) ⊎ ((type_of words value ≡ 6) × (slot.word ≡ value / 8 + 1))

some_same : {X : Type 0} (x y : X) → Some x ≡ Some y → x ≡ y
some_same x y h = cc

none_some : {X : Type 0} (x : X) → None ≡ Some x → ⊥
none_some x h = cc

slot_with : (words : List ℕ) (value word : ℕ) (slot : Slot) → Some (slot_in words value word) ≡ Some slot → (slot.word ≡ word) × (slot ≡ slot_in words value slot.word)
slot_with words value word slot h =
    let same : slot_in words value word ≡ slot = some_same (slot_in words value word) slot h in
    (sym (ap (λ s. s.word) same), sym same ∙ ap (λ w. slot_in words value w) (ap (λ s. s.word) same))

pub slot_is : (words : List ℕ) (value : ℕ) (slot : Slot) → slot_at words value ≡ Some slot → SlotIs words value slot
unfolding slot_at
slot_is words value slot h = first (nat_le (type_of words value) 3) refl (nat_eq (type_of words value) 6) refl h
  where
    first : (a : Bool) → nat_le (type_of words value) 3 ≡ a → (b : Bool) → nat_eq (type_of words value) 6 ≡ b
        → cond a (Some (slot_in words value (value / 8))) (cond b (Some (slot_in words value (value / 8 + 1))) None) ≡ Some slot → SlotIs words value slot
    first true e b f h = let is = slot_with words value (value / 8) slot h in record { is = is.1; word = inl (le_of (type_of words value) 3 e, is.0) }
    first false e true f h = let is = slot_with words value (value / 8 + 1) slot h in record { is = is.1; word = inr (eq_of (type_of words value) 6 f, is.0) }
    first false e false f h = absurd (none_some slot h)

-- the value of a value word
pub slot_value : (words : List ℕ) (slot : Slot) → Contains (slots_of words) slot → GivenBy (slot_at words) (value_count words) (value_at words) slot
unfolding slots_of
slot_value words slot h = given_of (slot_at words) (value_count words) (value_at words) slot h

near : (value word n : ℕ) → header_size ≤ value → value + value_size ≤ 8 * n → (word ≡ value / 8) ⊎ (word ≡ value / 8 + 1) → (5 ≤ word) × (word < n)
near value word n a b h = (grind arith, grind arith)

-- a value word is one of the words, behind the header
pub slot_lies : (words : List ℕ) (slot : Slot) → is_image words ≡ true → Contains (slots_of words) slot → (5 ≤ slot.word) × (slot.word < length words)
slot_lies words slot h among =
    let given : GivenBy (slot_at words) (value_count words) (value_at words) slot = slot_value words slot among in
    let stands : Stands words (value_at words given.index) value_size = value_stands words given.index h given.below in
    let is : SlotIs words (value_at words given.index) slot = slot_is words (value_at words given.index) slot given.gives in
    near (value_at words given.index) slot.word (length words) stands.behind stands.within
    (⊎_elim (λ (a : (type_of words (value_at words given.index) ≤ 3) × (slot.word ≡ value_at words given.index / 8)). inl a.1)
    (λ (b : (type_of words (value_at words given.index) ≡ 6) × (slot.word ≡ value_at words given.index / 8 + 1)). inr b.1) is.word)

metric_item : (words : List ℕ) (i : ℕ) → is_good_metric words i ≡ true → item_in_metric words (metric_at words i) ≤ 1023
unfolding is_good_metric has_good_fields
metric_item words i good = le_of (item_in_metric words (metric_at words i)) 1023 (both_right _ _ (both_right _ _ (both_left _ _ good)))

pub slot_item : (words : List ℕ) (slot : Slot) → is_image words ≡ true → Contains (slots_of words) slot → slot.item ≤ 1023
slot_item words slot h among =
    let given : GivenBy (slot_at words) (value_count words) (value_at words) slot = slot_value words slot among in
    let is : SlotIs words (value_at words given.index) slot = slot_is words (value_at words given.index) slot given.gives in
    let (k, below, stands) = value_metric words given.index (good_value words given.index h given.below) in
    subst (λ item. item ≤ 1023) (sym (ap (λ metric. item_in_metric words metric) stands) ∙ sym (ap (λ s. s.item) is.is)) (metric_item words k (good_metric words k h below))

passes_is : (item : ℕ) (instance : ℤ) (slot : Slot) → is_slot_of item instance slot ≡ true → IsSlotOf item instance slot
passes_is item instance slot h = (eq_of slot.item item (both_left _ _ h), (Decides-int_eq slot.instance instance).0 (both_right _ _ h))

ne_of : (a b : ℕ) → nat_eq a b ≡ false → a ≢ b
ne_of a b h = grind (arith, nat_tests)

fails_by : (a b : Bool) → (a && b) ≡ false → (a ≡ false) ⊎ (b ≡ false)
fails_by true b h = inr h
fails_by false b h = inl refl

fails_other : (item : ℕ) (instance : ℤ) (slot : Slot) → is_slot_of item instance slot ≡ false → IsOther item instance slot
fails_other item instance slot h =
    ⊎_elim (λ (a : nat_eq slot.item item ≡ false). inl (ne_of slot.item item a))
    (λ (b : int_eq slot.instance instance ≡ false). inr (not_from_Decides (int_eq slot.instance instance) (Decides-int_eq slot.instance instance) b))
    (fails_by (nat_eq slot.item item) (int_eq slot.instance instance) h)

-- what is found among the value words is that of the item and the instance, and where nothing is, there is none
pub slot_found : (words : List ℕ) (item : ℕ) (instance : ℤ) (found : Option Slot) → found ≡ find (is_slot_of item instance) (slots_of words)
    → MatchOption found (All (IsOther item instance) (slots_of words)) (λ slot. Contains (slots_of words) slot × IsSlotOf item instance slot)
slot_found words item instance None h = λ k d below. fails_other item instance (slice_index_or (slots_of words) k d) (found_none Slot (is_slot_of item instance) (slots_of words) (sym h) k d below)
slot_found words item instance (Some slot) h =
    let (among, passes) = found_among (is_slot_of item instance) (slots_of words) slot (sym h) in (among, passes_is item instance slot passes)
