-- The header and the contents of an image (mmv(5)): which sections it has and where they lie.
-- The header has the magic number, the version, the two generations, the number of contents entries, the flags, the
-- process and the cluster. A contents entry has its section's type, the section's number of entries and its offset.
use Rattle.std.specs.Prelude.{ℕ, zero, suc, ◌+◌, ◌*◌, ◌%◌, Bool, not, ◌&&◌, ◌||◌, ◌==◌, nat_le, if◌then◌else◌, List, length}
use Rattle.mmv_layout.specs.declared.contents.Section.{Section}
use Rattle.mmv_layout.specs.Below.{all_below}
use Rattle.mmv_layout.specs.Fields.{number32, number64}
use Rattle.mmv_layout.specs.Sizes.{header_size, entry_size, indom_size, instance_size, metric_size, value_size, string_size}

abbrev pub bytes_in : List ℕ → ℕ
bytes_in words = 8 * length words

-- `MMV` and a zero byte
abbrev pub has_magic : List ℕ → Bool
has_magic words = number32 words 0 == 5655885

abbrev pub version_in : List ℕ → ℕ
version_in words = number32 words 4

abbrev pub first_generation : List ℕ → ℕ
first_generation words = number64 words 8

abbrev pub second_generation : List ℕ → ℕ
second_generation words = number64 words 16

abbrev pub contents_in : List ℕ → ℕ
contents_in words = number32 words 24

abbrev pub flags_in : List ℕ → ℕ
flags_in words = number32 words 28

abbrev pub process_in : List ℕ → ℕ
process_in words = number32 words 32

abbrev pub cluster_offset : ℕ
cluster_offset = 36

abbrev pub cluster_in : List ℕ → ℕ
cluster_in words = number32 words cluster_offset

-- fewer than 40 bytes, or no whole number of words
abbrev pub is_short : ℕ → Bool
is_short bytes = not (nat_le header_size bytes && bytes % 8 == 0)

-- contents entry i, and its fields
abbrev pub entry_at : ℕ → ℕ
entry_at i = header_size + entry_size * i

-- the offset behind it
abbrev pub entry_end : ℕ → ℕ
entry_end i = 56 + 16 * i

abbrev pub type_in : List ℕ → ℕ → ℕ
type_in words i = number32 words (entry_at i)

abbrev pub count_offset_in : ℕ → ℕ
count_offset_in i = 44 + 16 * i

abbrev pub count_in : List ℕ → ℕ → ℕ
count_in words i = number32 words (count_offset_in i)

abbrev pub offset_field_in : ℕ → ℕ
offset_field_in i = 48 + 16 * i

abbrev pub offset_in : List ℕ → ℕ → ℕ
offset_in words i = number64 words (offset_field_in i)

-- how many bytes so many entries of a type take in a version: 1 instance domains, 2 instances, 3 metrics, 4 values,
-- 5 strings
unfoldable pub section_bytes : ℕ → ℕ → ℕ → ℕ
section_bytes version type count =
    if type == 1 then indom_size * count else
    if type == 2 then instance_size version * count else
    if type == 3 then metric_size version * count else
    if type == 4 then value_size * count else
    if type == 5 then string_size * count else 0

-- the offset behind the section of contents entry i
unfoldable pub end_in : List ℕ → ℕ → ℕ
end_in words i = offset_in words i + section_bytes (version_in words) (type_in words i) (count_in words i)

-- contents entry i lies in the words
abbrev pub entry_lies : List ℕ → ℕ → Bool
entry_lies words i = nat_le (entry_end i) (bytes_in words)

abbrev pub is_type : ℕ → Bool
is_type type = nat_le 1 type && nat_le type 5

-- entry i has no section, or one that lies in the words behind the contents
unfoldable pub section_lies : List ℕ → ℕ → Bool
section_lies words i =
    count_in words i == 0 || (nat_le (entry_at (contents_in words)) (offset_in words i) && nat_le (end_in words i) (bytes_in words))

-- entries j and i have different types, and their sections no byte in common
unfoldable pub are_apart : List ℕ → ℕ → ℕ → Bool
are_apart words j i =
    not (type_in words j == type_in words i)
    && (count_in words j == 0 || count_in words i == 0 || nat_le (end_in words j) (offset_in words i) || nat_le (end_in words i) (offset_in words j))

-- entry i's type stood in no earlier entry, and its section overlaps no earlier one
unfoldable pub is_first_of_type : List ℕ → ℕ → Bool
is_first_of_type words i = all_below i (λ j. are_apart words j i)

-- contents entry i is good. Where it isn't is the fault Section, of its type, or of 0 where it doesn't lie in the words
unfoldable pub has_good_section : List ℕ → ℕ → Bool
has_good_section words i = entry_lies words i && is_type (type_in words i) && section_lies words i && is_first_of_type words i

-- entry i has no section, or one at a multiple of 8. Where it isn't is the fault Offset
unfoldable pub is_aligned : List ℕ → ℕ → Bool
is_aligned words i = count_in words i == 0 || offset_in words i % 8 == 0

unfoldable pub sections_are_good : List ℕ → Bool
sections_are_good words = all_below (contents_in words) (has_good_section words)

unfoldable pub sections_are_aligned : List ℕ → Bool
sections_are_aligned words = all_below (contents_in words) (is_aligned words)

-- the section of a type among the first n contents entries
unfoldable pub find_section : List ℕ → ℕ → ℕ → Section
find_section words type zero = record { offset = 0; count = 0 }
find_section words type (suc n) =
    if type_in words n == type then record { offset = offset_in words n; count = count_in words n } else find_section words type n

-- the section of a type, without entries where the contents have none
unfoldable pub section_of : List ℕ → ℕ → Section
section_of words type = find_section words type (contents_in words)
