-- Where the sections of an image lie.
use Rattle.std.proofs.Common.{◌≡◌, ◌≢◌, ℕ, zero, suc, ◌+◌, ◌*◌, ◌%◌, ◌^◌, ◌<◌, ◌≤◌, Bool, true, false, not, List, length, ap₂, sym, subst, ◌∙◌, refl, arith, nat_eq, nat_le, if◌then◌else◌}
use Rattle.std.proofs.lemmas.Bool.Decides.{nat_tests}
use Rattle.mmv_layout.specs.Contents.{version_in, bytes_in, contents_in, type_in, count_in, offset_in, section_bytes, end_in, section_lies, has_good_section, is_aligned, sections_are_good, sections_are_aligned, find_section, section_of, entry_at}
use Rattle.mmv_layout.specs.Sizes.{header_size, value_size, string_size}
use Rattle.mmv_layout.specs.Entries.{value_count, value_at, string_count, string_at}
use Rattle.mmv_layout.specs.Images.{has_good_header, is_image}
use Rattle.mmv_layout.proofs.Below.{all_at, both_left, both_right}
use Rattle.mmv_layout.proofs.Goods.{le_of, eq_of, or_right, header, sections, aligned}

-- a contents entry of a type, with the section's offset and number of entries
pub record Entry (words : List ℕ) (type n offset count : ℕ) : Type 0 where
  pub index : ℕ
  pub below : index < n
  pub type_is : type_in words index ≡ type
  pub offset_is : offset_in words index ≡ offset
  pub count_is : count_in words index ≡ count

-- a section with entries is that of a contents entry of its type
pub entry_of : (words : List ℕ) (type n : ℕ) → (find_section words type n).count ≢ 0 → Entry words type n (find_section words type n).offset (find_section words type n).count
unfolding find_section
entry_of words type zero some = absurd (some refl)
entry_of words type (suc n) some = here (nat_eq (type_in words n) type) refl some (entry_of words type n)
  where
    here : (t : Bool) → nat_eq (type_in words n) type ≡ t → (if t then record { offset = offset_in words n; count = count_in words n } else find_section words type n).count ≢ 0 → ((find_section words type n).count ≢ 0 → Entry words type n (find_section words type n).offset (find_section words type n).count) → Entry words type (suc n) (if t then record { offset = offset_in words n; count = count_in words n } else find_section words type n).offset (if t then record { offset = offset_in words n; count = count_in words n } else find_section words type n).count
    here true e some before = record { index = n; below = omega arith; type_is = eq_of (type_in words n) type e; offset_is = refl; count_is = refl }
    here false e some before = let b : Entry words type n (find_section words type n).offset (find_section words type n).count = before some in record { index = b.index; below = omega arith; type_is = b.type_is; offset_is = b.offset_is; count_is = b.count_is }

isnt_zero : (n : ℕ) → n ≢ 0 → nat_eq n 0 ≡ false
isnt_zero n h = grind (arith, nat_tests)

-- a section with entries lies in the words behind the contents, at a multiple of 8
pub record Lies (words : List ℕ) (offset bytes : ℕ) : Type 0 where
  pub behind : entry_at (contents_in words) ≤ offset
  pub within : offset + bytes ≤ bytes_in words
  pub whole : offset % 8 ≡ 0

entry_lies : (words : List ℕ) (i : ℕ) → has_good_section words i ≡ true → is_aligned words i ≡ true → count_in words i ≢ 0
    → Lies words (offset_in words i) (section_bytes (version_in words) (type_in words i) (count_in words i))
unfolding has_good_section section_lies end_in is_aligned
entry_lies words i good straight some =
    let none : nat_eq (count_in words i) 0 ≡ false = isnt_zero (count_in words i) some in
    let lies = or_right (nat_eq (count_in words i) 0) _ (both_right _ _ (both_left _ _ good)) none in record {
      behind = le_of (entry_at (contents_in words)) (offset_in words i) (both_left _ _ lies);
      within = le_of (offset_in words i + section_bytes (version_in words) (type_in words i) (count_in words i)) (bytes_in words) (both_right _ _ lies);
      whole = eq_of (offset_in words i % 8) 0 (or_right (nat_eq (count_in words i) 0) _ straight none);
    }

pub section_stands : (words : List ℕ) (type : ℕ) → is_image words ≡ true → (section_of words type).count ≢ 0
    → Lies words (section_of words type).offset (section_bytes (version_in words) type (section_of words type).count)
unfolding section_of sections_are_good sections_are_aligned
section_stands words type h some =
    let e : Entry words type (contents_in words) (find_section words type (contents_in words)).offset (find_section words type (contents_in words)).count = entry_of words type (contents_in words) some in
    let lies : Lies words (offset_in words e.index) (section_bytes (version_in words) (type_in words e.index) (count_in words e.index)) =
    entry_lies words e.index (all_at (contents_in words) e.index (has_good_section words) (sections words h) e.below)
    (all_at (contents_in words) e.index (is_aligned words) (aligned words h) e.below) (λ z. some (sym e.count_is ∙ z)) in
    subst (λ offset. Lies words offset (section_bytes (version_in words) type (find_section words type (contents_in words)).count)) e.offset_is
    (subst (λ bytes. Lies words (offset_in words e.index) bytes) (ap₂ (section_bytes (version_in words)) e.type_is e.count_is) lies)

pub some_of : (i n : ℕ) → i < n → n ≢ 0
some_of i n h e = omega arith

not_above : (n : ℕ) → not (not (nat_le n 65536)) ≡ true → n ≤ 65536
not_above n h = grind (arith, nat_tests)

pub few_words : (words : List ℕ) → is_image words ≡ true → length words ≤ 65536
unfolding has_good_header
few_words words h = not_above (length words) (both_right _ _ (both_left _ _ (both_left _ _ (both_left _ _ (both_left _ _ (header words h))))))

-- a value lies in the words behind the header
pub record Stands (words : List ℕ) (offset bytes : ℕ) : Type 0 where
  pub behind : header_size ≤ offset
  pub within : offset + bytes ≤ 8 * length words
  pub whole : offset % 8 ≡ 0

pub value_stands : (words : List ℕ) (i : ℕ) → is_image words ≡ true → i < value_count words → Stands words (value_at words i) value_size
unfolding section_bytes
value_stands words i h below =
    let lies : Lies words (section_of words 4).offset (value_size * (section_of words 4).count) = section_stands words 4 h (some_of i (value_count words) below) in
    record { behind = omega arith; within = omega arith; whole = omega arith }

-- so its words have small numbers
pub value_near : (words : List ℕ) (i : ℕ) → is_image words ≡ true → i < value_count words → value_at words i < 2 ^ 20
value_near words i h below =
    let stands : Stands words (value_at words i) value_size = value_stands words i h below in
    let few : length words ≤ 65536 = few_words words h in omega arith

pub string_near : (words : List ℕ) (i : ℕ) → is_image words ≡ true → i < string_count words → string_at words i < 2 ^ 20
unfolding section_bytes
string_near words i h below =
    let lies : Lies words (section_of words 5).offset (string_size * (section_of words 5).count) = section_stands words 5 h (some_of i (string_count words) below) in
    let few : length words ≤ 65536 = few_words words h in
    let inside : (section_of words 5).offset + string_size * (section_of words 5).count ≤ 8 * length words = lies.within in omega arith
