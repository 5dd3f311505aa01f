-- Why words are no image (mmv(5)): the first fault in the order of the kinds, and of one kind the one at the
-- lowest offset. A section's entries lie one behind another, so the first faulty entry of a section has its lowest offset.
use Rattle.std.specs.Prelude.{ℕ, zero, suc, Bool, not, ◌==◌, ◌&&◌, nat_le, if◌then◌else◌, IsTrue, List, length, Option, Some, None, Result, Ok, Err}
use Rattle.mmv_layout.specs.declared.fault.ImageFault.{ImageFault}
use Rattle.mmv_layout.specs.declared.fault.ImageFault.TheVariants.{Short, TooLarge, Magic, Version, Generations, Section, Offset, Name, Kind, Reference, Duplicate, Serial}
use Rattle.mmv_layout.specs.Fields.{words_of}
use Rattle.mmv_layout.specs.Sizes.{is_version}
use Rattle.mmv_layout.specs.EntryFields.{serial_in_indom, first_offset_in_indom, short_offset_in_indom, long_offset_in_indom, number_offset_in_instance, number_in_instance, name_offset_in_instance, item_offset_in_metric, item_in_metric, type_offset_in_metric, type_in_metric, semantics_offset_in_metric, semantics_in_metric, serial_offset_in_metric, serial_in_metric, short_offset_in_metric, long_offset_in_metric, extra_offset_in_value, metric_offset_in_value, instance_offset_in_value}
use Rattle.mmv_layout.specs.Contents.{bytes_in, has_magic, version_in, first_generation, second_generation, contents_in, cluster_in, is_short, type_in, entry_lies, has_good_section, is_aligned, sections_are_good, cluster_offset, offset_field_in}
use Rattle.mmv_layout.specs.Entries.{indom_count, indom_at, instance_count, instance_at, metric_count, metric_at, value_count, value_at, string_count, string_at, has_text, has_name, is_good_string, is_kind, is_semantics, has_good_run, help_leads, name_leads, lies_in_run, serial_leads, leads_to_metric, metric_of, choice_leads, instance_leads, is_new_indom, is_new_instance, is_new_metric, is_new_value, is_serial, is_instance_number, is_item}
use Rattle.mmv_layout.specs.Images.{is_too_large, is_cluster}

-- what is found first, of two
unfoldable pub or_else : {A : Type 0} → Option A → Option A → Option A
or_else (Some a) other = Some a
or_else None other = other

-- the lower of two offsets
unfoldable pub lower : Option ℕ → Option ℕ → Option ℕ
lower None b = b
lower (Some a) None = Some a
lower (Some a) (Some b) = if nat_le a b then Some a else Some b

-- an offset where a test fails
unfoldable pub unless : Bool → ℕ → Option ℕ
unless good at = if good then None else Some at

-- what the first of n entries has, of those that have something
unfoldable pub first_below : ℕ → (ℕ → Option ℕ) → Option ℕ
first_below zero found = None
first_below (suc n) found = or_else (first_below n found) (found n)

-- so few words that they may be an image, and the sections lie in them
unfoldable pub has_sections : List ℕ → Bool
has_sections words = not (is_too_large words) && sections_are_good words

abbrev pub HasSections : List ℕ → Type 0
HasSections words = IsTrue (has_sections words)

-- Section: the type of the first contents entry that isn't good, or 0 where it doesn't lie in the words
unfoldable pub bad_type : List ℕ → ℕ → ℕ
bad_type words i = if entry_lies words i then type_in words i else 0

unfoldable pub section_fault : List ℕ → Option ℕ
section_fault words = first_below (contents_in words) (λ i. unless (has_good_section words i) (bad_type words i))

-- Offset: the offset field of a section that doesn't begin at a multiple of 8
unfoldable pub offset_fault : List ℕ → Option ℕ
offset_fault words = first_below (contents_in words) (λ i. unless (is_aligned words i) (offset_field_in i))

-- Name: the name field of an instance or of a metric, or a string
unfoldable pub instance_name_fault : List ℕ → Option ℕ
instance_name_fault words = first_below (instance_count words) (λ i. unless (has_text words (name_offset_in_instance (instance_at words i))) (name_offset_in_instance (instance_at words i)))

unfoldable pub metric_name_fault : List ℕ → Option ℕ
metric_name_fault words = first_below (metric_count words) (λ i. unless (has_name words (metric_at words i)) (metric_at words i))

unfoldable pub string_fault : List ℕ → Option ℕ
string_fault words = first_below (string_count words) (λ i. unless (is_good_string words i) (string_at words i))

unfoldable pub name_fault : List ℕ → Option ℕ
name_fault words = lower (instance_name_fault words) (lower (metric_name_fault words) (string_fault words))

-- Kind: a metric's type, or its semantics
unfoldable pub code_fault : List ℕ → ℕ → Option ℕ
code_fault words metric =
    or_else (unless (is_kind (type_in_metric words metric)) (type_offset_in_metric words metric)) (unless (is_semantics (semantics_in_metric words metric)) (semantics_offset_in_metric words metric))

unfoldable pub kind_fault : List ℕ → Option ℕ
kind_fault words = first_below (metric_count words) (λ i. code_fault words (metric_at words i))

-- Reference: of an instance domain its first instance, or a help
unfoldable pub help_fault : List ℕ → ℕ → Option ℕ
help_fault words field = unless (help_leads words field) field

unfoldable pub indom_reference_fault : List ℕ → ℕ → Option ℕ
indom_reference_fault words domain =
    or_else (unless (has_good_run words domain) (first_offset_in_indom domain)) (or_else (help_fault words (short_offset_in_indom domain)) (help_fault words (long_offset_in_indom domain)))

-- of an instance its domain, or its name
unfoldable pub name_reference_fault : List ℕ → ℕ → Option ℕ
name_reference_fault words field = unless (name_leads words field) field

unfoldable pub instance_reference_fault : List ℕ → ℕ → Option ℕ
instance_reference_fault words instance = or_else (unless (lies_in_run words instance) instance) (name_reference_fault words (name_offset_in_instance instance))

-- of a metric its name, its serial, or a help
unfoldable pub metric_reference_fault : List ℕ → ℕ → Option ℕ
metric_reference_fault words metric =
    or_else (name_reference_fault words metric) (or_else (unless (serial_leads words (serial_in_metric words metric)) (serial_offset_in_metric words metric)) (or_else (help_fault words (short_offset_in_metric words metric)) (help_fault words (long_offset_in_metric words metric))))

-- of a value its metric; and where that is one, its string, or its instance
unfoldable pub value_reference_fault : List ℕ → ℕ → Option ℕ
value_reference_fault words value =
    if leads_to_metric words (metric_of words value) then or_else (unless (choice_leads words value) (extra_offset_in_value value)) (unless (instance_leads words value) (instance_offset_in_value value))
    else Some (metric_offset_in_value value)

unfoldable pub indoms_reference_fault : List ℕ → Option ℕ
indoms_reference_fault words = first_below (indom_count words) (λ i. indom_reference_fault words (indom_at words i))

unfoldable pub instances_reference_fault : List ℕ → Option ℕ
instances_reference_fault words = first_below (instance_count words) (λ i. instance_reference_fault words (instance_at words i))

unfoldable pub metrics_reference_fault : List ℕ → Option ℕ
metrics_reference_fault words = first_below (metric_count words) (λ i. metric_reference_fault words (metric_at words i))

unfoldable pub values_reference_fault : List ℕ → Option ℕ
values_reference_fault words = first_below (value_count words) (λ i. value_reference_fault words (value_at words i))

unfoldable pub reference_fault : List ℕ → Option ℕ
reference_fault words =
    lower (lower (indoms_reference_fault words) (instances_reference_fault words)) (lower (metrics_reference_fault words) (values_reference_fault words))

-- Duplicate: the later of two entries that are the same
unfoldable pub indoms_duplicate_fault : List ℕ → Option ℕ
indoms_duplicate_fault words = first_below (indom_count words) (λ i. unless (is_new_indom words i) (indom_at words i))

unfoldable pub instances_duplicate_fault : List ℕ → Option ℕ
instances_duplicate_fault words = first_below (instance_count words) (λ i. unless (is_new_instance words i) (instance_at words i))

unfoldable pub metrics_duplicate_fault : List ℕ → Option ℕ
metrics_duplicate_fault words = first_below (metric_count words) (λ i. unless (is_new_metric words i) (metric_at words i))

unfoldable pub values_duplicate_fault : List ℕ → Option ℕ
values_duplicate_fault words = first_below (value_count words) (λ i. unless (is_new_value words i) (value_at words i))

unfoldable pub duplicate_fault : List ℕ → Option ℕ
duplicate_fault words =
    lower (lower (indoms_duplicate_fault words) (instances_duplicate_fault words)) (lower (metrics_duplicate_fault words) (values_duplicate_fault words))

-- Serial: the header's cluster, a domain's serial, an instance's number, a metric's item
unfoldable pub indoms_serial_fault : List ℕ → Option ℕ
indoms_serial_fault words = first_below (indom_count words) (λ i. unless (is_serial (serial_in_indom words (indom_at words i))) (indom_at words i))

unfoldable pub instances_serial_fault : List ℕ → Option ℕ
instances_serial_fault words =
    first_below (instance_count words) (λ i. unless (is_instance_number (number_in_instance words (instance_at words i))) (number_offset_in_instance (instance_at words i)))

unfoldable pub metrics_serial_fault : List ℕ → Option ℕ
metrics_serial_fault words = first_below (metric_count words) (λ i. unless (is_item (item_in_metric words (metric_at words i))) (item_offset_in_metric words (metric_at words i)))

unfoldable pub cluster_fault : List ℕ → Option ℕ
cluster_fault words = unless (is_cluster (cluster_in words)) cluster_offset

unfoldable pub serial_fault : List ℕ → Option ℕ
serial_fault words =
    lower (cluster_fault words) (lower (indoms_serial_fault words) (lower (instances_serial_fault words) (metrics_serial_fault words)))

-- the fault at an offset, where there is one
abbrev pub fault_where : (ℕ → ImageFault) → Option ℕ → Option ImageFault
fault_where fault (Some at) = Some (fault at)
fault_where fault None = None

-- the faults of the entries, in the order of their kinds
unfoldable pub entries_fault : List ℕ → Option ImageFault
entries_fault words =
    or_else (fault_where Section (section_fault words)) (or_else (fault_where Offset (offset_fault words)) (or_else (fault_where Name (name_fault words))
    (or_else (fault_where Kind (kind_fault words)) (or_else (fault_where Reference (reference_fault words)) (or_else (fault_where Duplicate (duplicate_fault words))
    (fault_where Serial (serial_fault words)))))))

-- the faults of whole words, not too many: those of the header first
unfoldable pub header_fault : List ℕ → Option ImageFault
header_fault words =
    if not (has_magic words) then Some Magic else
    if not (is_version (version_in words)) then Some (Version (version_in words)) else
    if not (first_generation words == second_generation words) then Some (Generations (first_generation words) (second_generation words)) else None

unfoldable pub image_fault : List ℕ → Option ImageFault
image_fault words =
    if is_short (bytes_in words) then Some (Short (bytes_in words)) else
    if is_too_large words then Some (TooLarge (length words)) else or_else (header_fault words) (entries_fault words)

-- words that have no fault
abbrev pub unless_fault : List ℕ → Option ImageFault → Result (List ℕ) ImageFault
unless_fault words None = Ok words
unless_fault words (Some fault) = Err fault

-- what words are: an image, or their first fault
unfoldable pub image_in : List ℕ → Result (List ℕ) ImageFault
image_in words = unless_fault words (image_fault words)

-- what bytes are
unfoldable pub image_of : List ℕ → Result (List ℕ) ImageFault
image_of bytes = if is_short (length bytes) then Err (Short (length bytes)) else image_in (words_of bytes)
