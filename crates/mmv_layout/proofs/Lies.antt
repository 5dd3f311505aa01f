-- Where sections end, and that their entries lie in the words.
use Rattle.std.proofs.Common.{◌≡◌, ◌≢◌, ℕ, zero, suc, ◌+◌, ◌<◌, ◌≤◌, Bool, true, false, not, ◌&&◌, ◌||◌, List, length, ap, sym, ◌∙◌, refl, arith, nat_eq, nat_le, if◌then◌else◌}
use Rattle.std.proofs.lemmas.Bool.Decides.{nat_tests}
use Rattle.mmv_layout.specs.Contents.{version_in, bytes_in, contents_in, type_in, count_in, offset_in, section_bytes, end_in, section_lies, has_good_section, sections_are_good, find_section, section_of, entry_at}
use Rattle.mmv_layout.specs.Sizes.{indom_size, instance_size, metric_size, value_size, string_size}
use Rattle.mmv_layout.specs.Entries.{indom_at, indom_count, instance_at, instance_count, metric_at, metric_count, value_at, value_count, string_at, string_count}
use Rattle.mmv_layout.specs.Faults.{has_sections}
use Rattle.mmv_layout.proofs.Below.{all_at, both_left, both_right}
use Rattle.mmv_layout.proofs.Widths.{entry_ends}

pub le_of : (a b : ℕ) → nat_le a b ≡ true → a ≤ b
le_of a b h = grind (arith, nat_tests)

pub eq_of : (a b : ℕ) → nat_eq a b ≡ true → a ≡ b
eq_of a b h = grind (arith, nat_tests)

pub not_above : (n : ℕ) → not (not (nat_le n 65536)) ≡ true → n ≤ 65536
not_above n h = grind (arith, nat_tests)

-- a section with entries is that of a contents entry of its type
Found : List ℕ → ℕ → ℕ → ℕ → ℕ → Type 0
Found words type n offset count = (i : ℕ) × (i < n) × (type_in words i ≡ type) × (offset ≡ offset_in words i) × (count ≡ count_in words i)

found : (words : List ℕ) (type n : ℕ) → (find_section words type n).count ≢ 0 → Found words type n (find_section words type n).offset (find_section words type n).count
unfolding find_section Found
found words type zero some = absurd (some refl)
found words type (suc n) some = here (nat_eq (type_in words n) type) refl some (found words type n)
  where
    here : (t : Bool) → nat_eq (type_in words n) type ≡ t → (if t then record { offset = offset_in words n; count = count_in words n } else find_section words type n).count ≢ 0 → ((find_section words type n).count ≢ 0 → Found words type n (find_section words type n).offset (find_section words type n).count) → Found words type (suc n) (if t then record { offset = offset_in words n; count = count_in words n } else find_section words type n).offset (if t then record { offset = offset_in words n; count = count_in words n } else find_section words type n).count
    here true e some before = (n, omega arith, eq_of (type_in words n) type e, refl, refl)
    here false e some before = let (i, below, type_is, offset_is, count_is) = before some in (i, omega arith, type_is, offset_is, count_is)

lies_of : (count below inside : Bool) → (count || (below && inside)) ≡ true → count ≡ false → inside ≡ true
lies_of true below inside h e = cc
lies_of false below inside h e = both_right _ _ h

isnt_zero : (n : ℕ) → n ≢ 0 → nat_eq n 0 ≡ false
isnt_zero n h = grind (arith, nat_tests)

section_of_entry : (words : List ℕ) (i : ℕ) → has_good_section words i ≡ true → section_lies words i ≡ true
unfolding has_good_section
section_of_entry words i good = both_right _ _ (both_left _ _ good)

contents_end : (words : List ℕ) (i : ℕ) → section_lies words i ≡ true → count_in words i ≢ 0 → offset_in words i + section_bytes (version_in words) (type_in words i) (count_in words i) ≤ bytes_in words
unfolding section_lies end_in
contents_end words i lies some =
    le_of (end_in words i) (bytes_in words) (lies_of (nat_eq (count_in words i) 0) (nat_le (entry_at (contents_in words)) (offset_in words i)) _ lies (isnt_zero (count_in words i) some))

-- a section with entries ends in the words
pub section_ends : (words : List ℕ) (type : ℕ) → sections_are_good words ≡ true → (section_of words type).count ≢ 0 → (section_of words type).offset + section_bytes (version_in words) type (section_of words type).count ≤ bytes_in words
unfolding section_of sections_are_good Found
section_ends words type good some =
    let (i, below, type_is, offset_is, count_is) = found words type (contents_in words) some in
    let entry : has_good_section words i ≡ true = all_at (contents_in words) i (has_good_section words) good below in
    let ends : offset_in words i + section_bytes (version_in words) (type_in words i) (count_in words i) ≤ bytes_in words = contents_end words i (section_of_entry words i entry) (λ e. some (count_is ∙ e)) in
    let same : section_bytes (version_in words) type (find_section words type (contents_in words)).count ≡ section_bytes (version_in words) (type_in words i) (count_in words i) =
    ap (λ t. section_bytes (version_in words) t (find_section words type (contents_in words)).count) (sym type_is) ∙ ap (section_bytes (version_in words) (type_in words i)) count_is in
    omega arith

sections : (words : List ℕ) → has_sections words ≡ true → sections_are_good words ≡ true
unfolding has_sections
sections words h = both_right _ _ h

few : (words : List ℕ) → has_sections words ≡ true → length words ≤ 65536
unfolding has_sections
few words h = not_above (length words) (both_left _ _ h)

some_of : (i n : ℕ) → i < n → n ≢ 0
some_of i n h = λ e. absurd (omega arith)

-- each entry lies in the words
pub indom_lies : (words : List ℕ) (i : ℕ) → has_sections words ≡ true → i < indom_count words → indom_at words i + indom_size ≤ 524288
unfolding section_bytes
indom_lies words i h below = let n = few words h in let ends = section_ends words 1 (sections words h) (some_of i _ below) in omega arith

pub instance_lies : (words : List ℕ) (i : ℕ) → has_sections words ≡ true → i < instance_count words → instance_at words i + instance_size (version_in words) ≤ 524288
unfolding section_bytes
instance_lies words i h below =
    let n = few words h in
    let ends = section_ends words 2 (sections words h) (some_of i _ below) in
    let inside = entry_ends (instance_size (version_in words)) i (instance_count words) below in omega arith

pub metric_lies : (words : List ℕ) (i : ℕ) → has_sections words ≡ true → i < metric_count words → metric_at words i + metric_size (version_in words) ≤ 524288
unfolding section_bytes
metric_lies words i h below =
    let n = few words h in
    let ends = section_ends words 3 (sections words h) (some_of i _ below) in
    let inside = entry_ends (metric_size (version_in words)) i (metric_count words) below in omega arith

pub value_lies : (words : List ℕ) (i : ℕ) → has_sections words ≡ true → i < value_count words → value_at words i + value_size ≤ 524288
unfolding section_bytes
value_lies words i h below = let n = few words h in let ends = section_ends words 4 (sections words h) (some_of i _ below) in omega arith

pub string_lies : (words : List ℕ) (i : ℕ) → has_sections words ≡ true → i < string_count words → string_at words i + string_size ≤ 524288
unfolding section_bytes
string_lies words i h below = let n = few words h in let ends = section_ends words 5 (sections words h) (some_of i _ below) in omega arith
