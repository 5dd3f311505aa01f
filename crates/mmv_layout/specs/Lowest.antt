-- What is told of words that are no image: of the kinds the first in their order, and of one kind the lowest offset at
-- which something fails. Nothing is told exactly where nothing fails.
use Rattle.std.specs.Prelude.{◌≡◌, ◌≢◌, ℕ, ◌+◌, ◌<◌, ◌≤◌, ◌⊎◌, Bool, true, false, List, [], length, Option, Some, None}
use Rattle.mmv_layout.specs.declared.fault.ImageFault.{ImageFault}
use Rattle.mmv_layout.specs.declared.fault.ImageFault.TheVariants as faults
use Rattle.pcp_base.specs.Names.{spells}
use Rattle.mmv_layout.specs.Fields.{number64, text_at, has_zero}
use Rattle.mmv_layout.specs.Sizes.{header_size, is_version, string_size}
use Rattle.mmv_layout.specs.EntryFields.{serial_in_indom, first_offset_in_indom, short_offset_in_indom, long_offset_in_indom, domain_in_instance, number_offset_in_instance, number_in_instance, name_offset_in_instance, item_offset_in_metric, item_in_metric, type_offset_in_metric, type_in_metric, semantics_offset_in_metric, semantics_in_metric, serial_offset_in_metric, serial_in_metric, short_offset_in_metric, long_offset_in_metric, extra_offset_in_value, metric_offset_in_value, instance_offset_in_value, instance_in_value}
use Rattle.mmv_layout.specs.Contents.{bytes_in, has_magic, version_in, first_generation, second_generation, contents_in, cluster_offset, cluster_in, entry_at, type_in, offset_field_in, has_good_section, is_aligned}
use Rattle.mmv_layout.specs.Entries.{indom_count, indom_at, instance_count, instance_at, metric_count, metric_at, value_count, value_at, string_count, string_at, is_good_string, is_kind, is_semantics, has_good_run, help_leads, name_leads, lies_in_run, serial_leads, leads_to_metric, metric_of, choice_leads, is_new_indom, is_new_instance, is_new_metric, is_new_value}
use Rattle.mmv_layout.specs.Faults.{section_fault, offset_fault, name_fault, kind_fault, reference_fault, duplicate_fault, serial_fault, image_fault}

-- an offset is told that is the lowest at which something fails, or none where nothing fails
abbrev pub IsLowest : (ℕ → Type 0) → Option ℕ → Type 0
IsLowest fails None = (at : ℕ) → fails at → ⊥
IsLowest fails (Some at) = fails at × ((other : ℕ) → fails other → at ≤ other)

-- a test fails at an offset
abbrev pub Fails : Bool → ℕ → ℕ → Type 0
Fails good offset at = (good ≡ false) × (at ≡ offset)

-- something fails at an offset in one of so many entries
abbrev pub InSome : ℕ → (ℕ → ℕ → Type 0) → ℕ → Type 0
InSome count fails at = (i : ℕ) × (i < count) × fails i at

abbrev pub OffsetFails : List ℕ → ℕ → Type 0
OffsetFails words at = InSome (contents_in words) (λ i. Fails (is_aligned words i) (offset_field_in i)) at

-- a string stands at an offset and ends, and its text fails
pub record IsBadString (fails : List ℕ → Type 0) (words : List ℕ) (offset : ℕ) : Type 0 where
  pub string : ℕ
  pub known : string < string_count words
  pub stands : offset ≡ string_at words string
  pub ends : is_good_string words string ≡ true
  pub bad : fails (text_at words offset string_size)

-- a name field has no name: in version 1 it has no zero byte, or what it holds fails; in version 2 it leads to a string
-- that has one, and that fails
abbrev pub LacksName : (List ℕ → Type 0) → List ℕ → ℕ → Type 0
LacksName fails words field =
    ((version_in words ≡ 1) × ((has_zero words field 64 ≡ false) ⊎ fails (text_at words field 64)))
    ⊎ ((version_in words ≢ 1) × IsBadString fails words (number64 words field))

-- an instance's name may not be empty, and a metric's keeps the rule for names
abbrev pub IsEmpty : List ℕ → Type 0
IsEmpty name = name ≡ []

abbrev pub BreaksTheRule : List ℕ → Type 0
BreaksTheRule name = spells true name ≡ false

abbrev pub NameFails : List ℕ → ℕ → Type 0
NameFails words at =
    InSome (instance_count words) (λ i at. LacksName IsEmpty words (name_offset_in_instance (instance_at words i)) × (at ≡ name_offset_in_instance (instance_at words i))) at
    ⊎ (InSome (metric_count words) (λ i at. LacksName BreaksTheRule words (metric_at words i) × (at ≡ metric_at words i)) at
    ⊎ InSome (string_count words) (λ i. Fails (is_good_string words i) (string_at words i)) at)

abbrev pub CodeFails : List ℕ → ℕ → ℕ → Type 0
CodeFails words metric at =
    Fails (is_kind (type_in_metric words metric)) (type_offset_in_metric words metric) at
    ⊎ Fails (is_semantics (semantics_in_metric words metric)) (semantics_offset_in_metric words metric) at

abbrev pub KindFails : List ℕ → ℕ → Type 0
KindFails words at = InSome (metric_count words) (λ i. CodeFails words (metric_at words i)) at

abbrev pub IndomReferenceFails : List ℕ → ℕ → ℕ → Type 0
IndomReferenceFails words indom at =
    Fails (has_good_run words indom) (first_offset_in_indom indom) at
    ⊎ (Fails (help_leads words (short_offset_in_indom indom)) (short_offset_in_indom indom) at
    ⊎ Fails (help_leads words (long_offset_in_indom indom)) (long_offset_in_indom indom) at)

abbrev pub InstanceReferenceFails : List ℕ → ℕ → ℕ → Type 0
InstanceReferenceFails words instance at =
    Fails (lies_in_run words instance) instance at
    ⊎ Fails (name_leads words (name_offset_in_instance instance)) (name_offset_in_instance instance) at

abbrev pub MetricReferenceFails : List ℕ → ℕ → ℕ → Type 0
MetricReferenceFails words metric at =
    Fails (name_leads words metric) metric at
    ⊎ (Fails (serial_leads words (serial_in_metric words metric)) (serial_offset_in_metric words metric) at
    ⊎ (Fails (help_leads words (short_offset_in_metric words metric)) (short_offset_in_metric words metric) at
    ⊎ Fails (help_leads words (long_offset_in_metric words metric)) (long_offset_in_metric words metric) at))

-- an instance stands at an offset, and leads to a domain that has a serial
pub record IsInstanceOf (words : List ℕ) (serial offset : ℕ) : Type 0 where
  pub instance : ℕ
  pub known : instance < instance_count words
  pub stands : offset ≡ instance_at words instance
  pub indom : ℕ
  pub counted : indom < indom_count words
  pub leads : domain_in_instance words offset ≡ indom_at words indom
  pub has : serial_in_indom words (indom_at words indom) ≡ serial

-- the instance field of the value at an offset is 0 where its metric has no domain, and else leads to an instance of that domain
abbrev pub HasInstance : List ℕ → ℕ → Type 0
HasInstance words value =
    let serial = serial_in_metric words (metric_of words value) in
    (((serial ≡ 0) ⊎ (serial ≡ 4294967295)) × (instance_in_value words value ≡ 0))
    ⊎ (((serial ≢ 0) × (serial ≢ 4294967295)) × IsInstanceOf words serial (instance_in_value words value))

-- of a value whose metric isn't there only that is looked at
abbrev pub ValueReferenceFails : List ℕ → ℕ → ℕ → Type 0
ValueReferenceFails words value at =
    Fails (leads_to_metric words (metric_of words value)) (metric_offset_in_value value) at
    ⊎ ((leads_to_metric words (metric_of words value) ≡ true)
    × (Fails (choice_leads words value) (extra_offset_in_value value) at
    ⊎ ((HasInstance words value → ⊥) × (at ≡ instance_offset_in_value value))))

abbrev pub ReferenceFails : List ℕ → ℕ → Type 0
ReferenceFails words at =
    (InSome (indom_count words) (λ i. IndomReferenceFails words (indom_at words i)) at
    ⊎ InSome (instance_count words) (λ i. InstanceReferenceFails words (instance_at words i)) at)
    ⊎ (InSome (metric_count words) (λ i. MetricReferenceFails words (metric_at words i)) at
    ⊎ InSome (value_count words) (λ i. ValueReferenceFails words (value_at words i)) at)

abbrev pub DuplicateFails : List ℕ → ℕ → Type 0
DuplicateFails words at =
    (InSome (indom_count words) (λ i. Fails (is_new_indom words i) (indom_at words i)) at
    ⊎ InSome (instance_count words) (λ i. Fails (is_new_instance words i) (instance_at words i)) at)
    ⊎ (InSome (metric_count words) (λ i. Fails (is_new_metric words i) (metric_at words i)) at
    ⊎ InSome (value_count words) (λ i. Fails (is_new_value words i) (value_at words i)) at)

-- a cluster above 4095, a domain's serial of 0 or above 1023, a negative instance number, an item above 1023
abbrev pub SerialFails : List ℕ → ℕ → Type 0
SerialFails words at =
    ((4095 < cluster_in words) × (at ≡ cluster_offset))
    ⊎ (InSome (indom_count words) (λ i at. ((serial_in_indom words (indom_at words i) ≡ 0) ⊎ (1023 < serial_in_indom words (indom_at words i))) × (at ≡ indom_at words i)) at
    ⊎ (InSome (instance_count words) (λ i at. (2147483648 ≤ number_in_instance words (instance_at words i)) × (at ≡ number_offset_in_instance (instance_at words i))) at
    ⊎ InSome (metric_count words) (λ i at. (1023 < item_in_metric words (metric_at words i)) × (at ≡ item_offset_in_metric words (metric_at words i))) at))

-- the first contents entry that isn't good is told by its type, or by 0 where it doesn't lie in the words
pub record IsFirstSection (words : List ℕ) (told : ℕ) : Type 0 where
  pub entry : ℕ
  pub below : entry < contents_in words
  pub before : (j : ℕ) → j < entry → has_good_section words j ≡ true
  pub bad : has_good_section words entry ≡ false
  pub is : ((bytes_in words < entry_at (entry + 1)) × (told ≡ 0)) ⊎ ((entry_at (entry + 1) ≤ bytes_in words) × (told ≡ type_in words entry))

abbrev pub SectionIs : List ℕ → Option ℕ → Type 0
SectionIs words None = (i : ℕ) → i < contents_in words → has_good_section words i ≡ true
SectionIs words (Some told) = IsFirstSection words told

-- words whose header is good but for the cluster
pub record HasHeader (words : List ℕ) : Type 0 where
  pub some : header_size ≤ bytes_in words
  pub few : length words ≤ 65536
  pub magic : has_magic words ≡ true
  pub version : is_version (version_in words) ≡ true
  pub again : first_generation words ≡ second_generation words

-- a fault is told where those before it in the order of the kinds are not
abbrev pub IsTold : List ℕ → ImageFault → Type 0
IsTold words (faults.Short have) = (bytes_in words < header_size) × (have ≡ bytes_in words)
IsTold words (faults.TooLarge n) = (65536 < length words) × (n ≡ length words)
IsTold words faults.Magic = (header_size ≤ bytes_in words) × (length words ≤ 65536) × (has_magic words ≡ false)
IsTold words (faults.Version found) =
    (header_size ≤ bytes_in words) × (length words ≤ 65536) × (has_magic words ≡ true) × (is_version found ≡ false) × (found ≡ version_in words)
IsTold words (faults.Generations g1 g2) =
    (header_size ≤ bytes_in words) × (length words ≤ 65536) × (has_magic words ≡ true) × (is_version (version_in words) ≡ true)
    × (first_generation words ≢ second_generation words) × (g1 ≡ first_generation words) × (g2 ≡ second_generation words)
IsTold words (faults.Section type) = HasHeader words × (section_fault words ≡ Some type)
IsTold words (faults.Offset at) = HasHeader words × (section_fault words ≡ None) × (offset_fault words ≡ Some at)
IsTold words (faults.Name at) = HasHeader words × (section_fault words ≡ None) × (offset_fault words ≡ None) × (name_fault words ≡ Some at)
IsTold words (faults.Kind at) =
    HasHeader words × (section_fault words ≡ None) × (offset_fault words ≡ None) × (name_fault words ≡ None) × (kind_fault words ≡ Some at)
IsTold words (faults.Reference at) =
    HasHeader words × (section_fault words ≡ None) × (offset_fault words ≡ None) × (name_fault words ≡ None) × (kind_fault words ≡ None)
    × (reference_fault words ≡ Some at)
IsTold words (faults.Duplicate at) =
    HasHeader words × (section_fault words ≡ None) × (offset_fault words ≡ None) × (name_fault words ≡ None) × (kind_fault words ≡ None)
    × (reference_fault words ≡ None) × (duplicate_fault words ≡ Some at)
IsTold words (faults.Serial at) =
    HasHeader words × (section_fault words ≡ None) × (offset_fault words ≡ None) × (name_fault words ≡ None) × (kind_fault words ≡ None)
    × (reference_fault words ≡ None) × (duplicate_fault words ≡ None) × (serial_fault words ≡ Some at)
IsTold words faults.NoMemory = ⊥

-- The laws

abbrev pub FirstIsTold : Type 0
FirstIsTold = (words : List ℕ) (fault : ImageFault) → image_fault words ≡ Some fault → IsTold words fault

abbrev pub SectionsInOrder : Type 0
SectionsInOrder = (words : List ℕ) → SectionIs words (section_fault words)

abbrev pub OffsetsAreLowest : Type 0
OffsetsAreLowest = (words : List ℕ) → IsLowest (OffsetFails words) (offset_fault words)

abbrev pub NamesAreLowest : Type 0
NamesAreLowest = (words : List ℕ) → IsLowest (NameFails words) (name_fault words)

abbrev pub KindsAreLowest : Type 0
KindsAreLowest = (words : List ℕ) → IsLowest (KindFails words) (kind_fault words)

abbrev pub ReferencesAreLowest : Type 0
ReferencesAreLowest = (words : List ℕ) → IsLowest (ReferenceFails words) (reference_fault words)

abbrev pub DuplicatesAreLowest : Type 0
DuplicatesAreLowest = (words : List ℕ) → IsLowest (DuplicateFails words) (duplicate_fault words)

abbrev pub SerialsAreLowest : Type 0
SerialsAreLowest = (words : List ℕ) → IsLowest (SerialFails words) (serial_fault words)
