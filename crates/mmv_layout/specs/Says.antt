-- What an image says (mmv(5)), by addresses: which layout has each of its rows at an entry of its section, in
-- section order, with the fields of that entry.
use Rattle.std.specs.Prelude.{◌≡◌, ◌≢◌, ℕ, ℤ, ◌+◌, ◌<◌, ◌≤◌, ◌⊎◌, List, [], ◌∷◌, length, Option, None, Some}
use Rattle.pcp_base.specs.Codes.{code_of_kind, code_of_semantics}
use Rattle.mmv_layout.specs.declared.contents.Section.{Section}
use Rattle.mmv_layout.specs.Fields.{number64, text_at}
use Rattle.mmv_layout.specs.Sizes.{name_width, indom_size, instance_size, metric_size, value_size, string_size}
use Rattle.mmv_layout.specs.EntryFields.{serial_in_indom, count_in_indom, first_in_indom, short_offset_in_indom, long_offset_in_indom, name_offset_in_instance, item_in_metric, type_in_metric, semantics_in_metric, units_in_metric, serial_in_metric, short_offset_in_metric, long_offset_in_metric, extra_in_value, instance_in_value}
use Rattle.mmv_layout.specs.Contents.{version_in, first_generation, second_generation, flags_in, process_in, cluster_in, section_of, process_in}
use Rattle.mmv_layout.specs.Entries.{instance_count, instance_at, metric_count, metric_at, string_count, string_at, metric_of}
use Rattle.mmv_layout.specs.Images.{IsImage}
use Rattle.mmv_layout.specs.declared.rows.IndomRow.{IndomRow}
use Rattle.mmv_layout.specs.declared.rows.MetricRow.{MetricRow}
use Rattle.mmv_layout.specs.declared.rows.ValueRow.{ValueRow}
use Rattle.mmv_layout.specs.declared.rows.Content.{Content}
use Rattle.mmv_layout.specs.declared.rows.Content.TheVariants.{Number, Choice, Raw}
use Rattle.mmv_layout.specs.declared.rows.Layout.{Layout}
use Rattle.mmv_layout.specs.Rows.{number_of, item_of, type_of, domain_of}

-- row k of a list stands at an offset and k times the size of a row
unfoldable pub EachAt : {X : Type 0} → (ℕ → X → Type 0) → ℕ → ℕ → List X → Type 0
EachAt R at size [] = Unit {0}
EachAt R at size (row ∷ rows) = R at row × EachAt R (at + size) size rows

-- so many rows as a section has entries, each at its entry
abbrev pub InSection : {X : Type 0} → (ℕ → X → Type 0) → Section → ℕ → List X → Type 0
InSection R section size rows = (length rows ≡ section.count) × EachAt R section.offset size rows

-- an offset is that of an entry
abbrev pub LeadsTo : ℕ → (ℕ → ℕ) → ℕ → Type 0
LeadsTo count entry offset = (k : ℕ) × (k < count) × (offset ≡ entry k)

-- a string stands at an offset, with this text
abbrev pub StringAt : List ℕ → ℕ → List ℕ → Type 0
StringAt words offset text = LeadsTo (string_count words) (string_at words) offset × (text ≡ text_at words offset string_size)

-- a help field is 0, or leads to a string with this text
abbrev pub HelpAt : List ℕ → ℕ → Option (List ℕ) → Type 0
HelpAt words field None = number64 words field ≡ 0
HelpAt words field (Some text) = (number64 words field ≢ 0) × StringAt words (number64 words field) text

-- a name field holds a name in version 1, and else leads to a string with this text
abbrev pub NameAt : List ℕ → ℕ → List ℕ → Type 0
NameAt words field name =
    ((version_in words ≡ 1) × (name ≡ text_at words field (name_width 1))) ⊎ ((version_in words ≢ 1) × StringAt words (number64 words field) name)

-- an instance's number and its name
abbrev pub InstanceAt : List ℕ → ℕ → ℤ × List ℕ → Type 0
InstanceAt words instance row = (row.0 ≡ number_of words instance) × NameAt words (name_offset_in_instance instance) row.1

-- a domain has as many instances as it counts, the first where its field says, and the others behind it
pub record IndomAt (words : List ℕ) (domain : ℕ) (row : IndomRow) : Type 0 where
  pub serial : row.serial ≡ serial_in_indom words domain
  pub count : length row.instances ≡ count_in_indom words domain
  pub instances : EachAt (InstanceAt words) (first_in_indom words domain) (instance_size (version_in words)) row.instances
  pub short : HelpAt words (short_offset_in_indom domain) row.short
  pub long : HelpAt words (long_offset_in_indom domain) row.long

-- a metric's serial: without a domain 0 or 4294967295, else that of its domain
abbrev pub IsNull : ℕ → Type 0
IsNull serial = (serial ≡ 0) ⊎ (serial ≡ 4294967295)

abbrev pub IsNamed : ℕ → Type 0
IsNamed serial = (serial ≢ 0) × (serial ≢ 4294967295)

abbrev pub SerialIs : ℕ → Option ℕ → Type 0
SerialIs found None = IsNull found
SerialIs found (Some serial) = IsNamed found × (serial ≡ found)

pub record MetricAt (words : List ℕ) (metric : ℕ) (row : MetricRow) : Type 0 where
  pub name : NameAt words metric row.name
  pub item : row.item ≡ item_in_metric words metric
  pub kind : code_of_kind row.kind ≡ type_in_metric words metric
  pub semantics : code_of_semantics row.semantics ≡ semantics_in_metric words metric
  pub units : row.units ≡ units_in_metric words metric
  pub serial : SerialIs (serial_in_metric words metric) row.serial
  pub short : HelpAt words (short_offset_in_metric words metric) row.short
  pub long : HelpAt words (long_offset_in_metric words metric) row.long

-- a value's instance: none where its metric has no domain, else the number of the instance to which its field leads
abbrev pub InstanceOf : List ℕ → ℕ → Option ℤ → Type 0
InstanceOf words value None = IsNull (domain_of words value)
InstanceOf words value (Some number) =
    IsNamed (domain_of words value) × LeadsTo (instance_count words) (instance_at words) (instance_in_value words value)
    × (number ≡ number_of words (instance_in_value words value))

-- a value's content by its metric's type: 0 to 3 the whole value field, 6 the text of the string to which its extra
-- field leads, 4, 5 and 9 both fields
abbrev pub ContentAt : List ℕ → ℕ → Content → Type 0
ContentAt words value (Number number) = (type_of words value ≤ 3) × (number ≡ number64 words value)
ContentAt words value (Choice text) = (type_of words value ≡ 6) × StringAt words (extra_in_value words value) text
ContentAt words value (Raw number extra) =
    ((type_of words value ≡ 4) ⊎ (type_of words value ≡ 5) ⊎ (type_of words value ≡ 9))
    × (number ≡ number64 words value) × (extra ≡ extra_in_value words value)

pub record ValueAt (words : List ℕ) (value : ℕ) (row : ValueRow) : Type 0 where
  pub metric : LeadsTo (metric_count words) (metric_at words) (metric_of words value)
  pub item : row.item ≡ item_of words value
  pub instance : InstanceOf words value row.instance
  pub content : ContentAt words value row.content

-- the text of the string at an offset
abbrev pub TextAt : List ℕ → ℕ → List ℕ → Type 0
TextAt words offset text = text ≡ text_at words offset string_size

-- Words say a layout: the header's fields, of which the generation stands twice, and the rows of each section
pub record Says (words : List ℕ) (layout : Layout) : Type 0 where
  pub version : layout.version ≡ version_in words
  pub generation : layout.generation ≡ first_generation words
  pub again : layout.generation ≡ second_generation words
  pub flags : layout.flags ≡ flags_in words
  pub pid : layout.pid ≡ process_in words
  pub cluster : layout.cluster ≡ cluster_in words
  pub indoms : InSection (IndomAt words) (section_of words 1) indom_size layout.indoms
  pub metrics : InSection (MetricAt words) (section_of words 3) (metric_size (version_in words)) layout.metrics
  pub values : InSection (ValueAt words) (section_of words 4) value_size layout.values
  pub strings : InSection (TextAt words) (section_of words 5) string_size layout.strings

-- an image says exactly one layout
abbrev pub SaysOneLayout : Type 0
SaysOneLayout = (words : List ℕ) → IsImage words → (layout : Layout) × Says words layout × ((other : Layout) → Says words other → other ≡ layout)
