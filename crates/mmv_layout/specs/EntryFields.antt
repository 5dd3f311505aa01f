-- The fields of an image's entries (mmv(5)): what stands in each, by the offset of the entry. A field's own offset has a
-- name where a fault tells it.
use Rattle.std.specs.Prelude.{ℕ, ◌+◌, Bool, if◌then◌else◌, List, bytes_eq}
use Rattle.mmv_layout.specs.Fields.{number32, number64, text_at}
use Rattle.mmv_layout.specs.Sizes.{has_inline_names, name_width, name_room}
use Rattle.mmv_layout.specs.Contents.{version_in}

-- where the name of the name field at an offset begins: with the field, or at the offset that the field has
unfoldable pub name_start : List ℕ → ℕ → ℕ
name_start words field = if has_inline_names (version_in words) then field else number64 words field

-- the name of the name field at an offset
unfoldable pub name_text : List ℕ → ℕ → List ℕ
name_text words field = text_at words (name_start words field) (name_room (version_in words))

-- the name fields at two offsets have one name
unfoldable pub same_name : List ℕ → ℕ → ℕ → Bool
same_name words a b = bytes_eq (name_text words a) (name_text words b)

-- An instance domain: its serial, how many instances it has, where the first stands, and its helps

abbrev pub serial_in_indom : List ℕ → ℕ → ℕ
serial_in_indom words indom = number32 words indom

abbrev pub count_offset_in_indom : ℕ → ℕ
count_offset_in_indom indom = indom + 4

abbrev pub count_in_indom : List ℕ → ℕ → ℕ
count_in_indom words indom = number32 words (count_offset_in_indom indom)

abbrev pub first_offset_in_indom : ℕ → ℕ
first_offset_in_indom indom = indom + 8

abbrev pub first_in_indom : List ℕ → ℕ → ℕ
first_in_indom words indom = number64 words (first_offset_in_indom indom)

abbrev pub short_offset_in_indom : ℕ → ℕ
short_offset_in_indom indom = indom + 16

abbrev pub long_offset_in_indom : ℕ → ℕ
long_offset_in_indom indom = indom + 24

-- An instance: the offset of its domain, its number and its name

abbrev pub domain_in_instance : List ℕ → ℕ → ℕ
domain_in_instance words instance = number64 words instance

abbrev pub number_offset_in_instance : ℕ → ℕ
number_offset_in_instance instance = instance + 12

abbrev pub number_in_instance : List ℕ → ℕ → ℕ
number_in_instance words instance = number32 words (number_offset_in_instance instance)

abbrev pub name_offset_in_instance : ℕ → ℕ
name_offset_in_instance instance = instance + 16

abbrev pub name_in_instance : List ℕ → ℕ → List ℕ
name_in_instance words instance = name_text words (name_offset_in_instance instance)

-- A metric: its name field, at its own offset, its item, its type, its semantics, its units, the serial of its domain, and its helps

abbrev pub name_in_metric : List ℕ → ℕ → List ℕ
name_in_metric words metric = name_text words metric

abbrev pub item_offset_in_metric : List ℕ → ℕ → ℕ
item_offset_in_metric words metric = metric + name_width (version_in words)

abbrev pub item_in_metric : List ℕ → ℕ → ℕ
item_in_metric words metric = number32 words (item_offset_in_metric words metric)

abbrev pub type_offset_in_metric : List ℕ → ℕ → ℕ
type_offset_in_metric words metric = metric + (name_width (version_in words) + 4)

abbrev pub type_in_metric : List ℕ → ℕ → ℕ
type_in_metric words metric = number32 words (type_offset_in_metric words metric)

abbrev pub semantics_offset_in_metric : List ℕ → ℕ → ℕ
semantics_offset_in_metric words metric = metric + (name_width (version_in words) + 8)

abbrev pub semantics_in_metric : List ℕ → ℕ → ℕ
semantics_in_metric words metric = number32 words (semantics_offset_in_metric words metric)

abbrev pub units_offset_in_metric : List ℕ → ℕ → ℕ
units_offset_in_metric words metric = metric + (name_width (version_in words) + 12)

abbrev pub units_in_metric : List ℕ → ℕ → ℕ
units_in_metric words metric = number32 words (units_offset_in_metric words metric)

abbrev pub serial_offset_in_metric : List ℕ → ℕ → ℕ
serial_offset_in_metric words metric = metric + (name_width (version_in words) + 16)

abbrev pub serial_in_metric : List ℕ → ℕ → ℕ
serial_in_metric words metric = number32 words (serial_offset_in_metric words metric)

abbrev pub short_offset_in_metric : List ℕ → ℕ → ℕ
short_offset_in_metric words metric = metric + (name_width (version_in words) + 24)

abbrev pub long_offset_in_metric : List ℕ → ℕ → ℕ
long_offset_in_metric words metric = metric + (name_width (version_in words) + 32)

-- A value: the number, the extra field, the offset of its metric and that of its instance

abbrev pub value_in_value : List ℕ → ℕ → ℕ
value_in_value words value = number64 words value

abbrev pub extra_offset_in_value : ℕ → ℕ
extra_offset_in_value value = value + 8

abbrev pub extra_in_value : List ℕ → ℕ → ℕ
extra_in_value words value = number64 words (extra_offset_in_value value)

abbrev pub metric_offset_in_value : ℕ → ℕ
metric_offset_in_value value = value + 16

abbrev pub metric_in_value : List ℕ → ℕ → ℕ
metric_in_value words value = number64 words (metric_offset_in_value value)

abbrev pub instance_offset_in_value : ℕ → ℕ
instance_offset_in_value value = value + 24

abbrev pub instance_in_value : List ℕ → ℕ → ℕ
instance_in_value words value = number64 words (instance_offset_in_value value)
