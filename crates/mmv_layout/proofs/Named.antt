-- Names in their fields and in strings.
use Rattle.std.proofs.Common.{◌≡◌, ℕ, ◌<◌, true, false, inl, inr, List, ap, sym, ◌∙◌, arith, cond, nat_eq, ⊎_elim}
use Rattle.std.proofs.lemmas.Bool.Decides.{nat_tests}
use Rattle.std.proofs.lemmas.Bool.{eq-eqb}
use Rattle.mmv_layout.specs.Fields.{number64, text_at}
use Rattle.mmv_layout.specs.Sizes.{has_inline_names, name_width, name_room, string_size}
use Rattle.mmv_layout.specs.EntryFields.{name_start, name_text, name_offset_in_instance}
use Rattle.mmv_layout.specs.Contents.{version_in, section_of}
use Rattle.mmv_layout.specs.Entries.{instance_at, instance_count, metric_at, metric_count, string_at, string_count, name_leads, is_good_instance, is_good_metric}
use Rattle.mmv_layout.specs.Images.{is_image}
use Rattle.mmv_layout.specs.Says.{LeadsTo, NameAt}
use Rattle.mmv_layout.proofs.Below.{both_left, both_right}
use Rattle.mmv_layout.proofs.Goods.{eq_of, ne_of, either, or_right, leads_there, good_instance, good_metric}

pub isnt : (a b : ℕ) → (a ≡ b → ⊥) → nat_eq a b ≡ false
isnt a b h = grind (arith, nat_tests)

-- in version 1 a name is what its field holds
pub inline_text : (words : List ℕ) (field : ℕ) → has_inline_names (version_in words) ≡ true → name_text words field ≡ text_at words field (name_width 1)
unfolding name_text name_start name_room name_width
inline_text words field e = ap (λ t. text_at words (cond t field (number64 words field)) (cond t 64 string_size)) e

-- in version 2 it is the text of the string to which the field leads
pub outline_text : (words : List ℕ) (field : ℕ) → has_inline_names (version_in words) ≡ false → name_text words field ≡ text_at words (number64 words field) string_size
unfolding name_text name_start name_room
outline_text words field e = ap (λ t. text_at words (cond t field (number64 words field)) (cond t 64 string_size)) e

pub outline_leads : (words : List ℕ) (field : ℕ) → name_leads words field ≡ true → has_inline_names (version_in words) ≡ false → LeadsTo (string_count words) (string_at words) (number64 words field)
unfolding name_leads
outline_leads words field leads e = leads_there (section_of words 5).offset (section_of words 5).count string_size (number64 words field) (or_right _ _ leads e)

pub name_there : (words : List ℕ) (field : ℕ) → name_leads words field ≡ true → NameAt words field (name_text words field)
name_there words field leads =
    ⊎_elim
    (λ (inside : has_inline_names (version_in words) ≡ true). inl (eq_of (version_in words) 1 inside, inline_text words field inside))
    (λ (outside : has_inline_names (version_in words) ≡ false). inr (ne_of (version_in words) 1 outside, (outline_leads words field leads outside, outline_text words field outside)))
    (either (has_inline_names (version_in words)))

pub name_only : (words : List ℕ) (field : ℕ) (name : List ℕ) → NameAt words field name → name ≡ name_text words field
name_only words field name =
    ⊎_elim
    (λ (inside : (version_in words ≡ 1) × (name ≡ text_at words field (name_width 1))). inside.1 ∙ sym (inline_text words field (eq-eqb (version_in words) 1 inside.0)))
    (λ (outside : (version_in words ≡ 1 → ⊥) × (LeadsTo (string_count words) (string_at words) (number64 words field) × (name ≡ text_at words (number64 words field) string_size))).
    outside.1.1 ∙ sym (outline_text words field (isnt (version_in words) 1 outside.0)))

-- the name fields of an image lead to names

leads_instance : (words : List ℕ) (i : ℕ) → is_good_instance words i ≡ true → name_leads words (name_offset_in_instance (instance_at words i)) ≡ true
unfolding is_good_instance
leads_instance words i good = both_right _ _ (both_left _ _ (both_left _ _ (both_left _ _ good)))

pub instance_named : (words : List ℕ) (i : ℕ) → is_image words ≡ true → i < instance_count words → name_leads words (name_offset_in_instance (instance_at words i)) ≡ true
instance_named words i h below = leads_instance words i (good_instance words i h below)

leads_metric : (words : List ℕ) (i : ℕ) → is_good_metric words i ≡ true → name_leads words (metric_at words i) ≡ true
unfolding is_good_metric
leads_metric words i good = both_right _ _ (both_left _ _ (both_left _ _ good))

pub metric_named : (words : List ℕ) (i : ℕ) → is_image words ≡ true → i < metric_count words → name_leads words (metric_at words i) ≡ true
metric_named words i h below = leads_metric words i (good_metric words i h below)
