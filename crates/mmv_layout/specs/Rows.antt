-- What stands at the offsets of an image, row by row (mmv(5)), as values. It is total: where a code has no
-- meaning, or a reference doesn't lead, it is something, but no image is so.
use Rattle.std.specs.Prelude.{ℕ, zero, suc, ℤ, ◌==◌, nat_le, if◌then◌else◌, List, [], ◌∷◌, ◌++◌, Option, None, Some, unwrap_or}
use Rattle.std.specs.Int.{w32, cast_signed}
use Rattle.pcp_base.specs.Codes.{kind_of_code, semantics_of_code}
use Rattle.pcp_base.specs.declared.kind.Kind.TheVariants.{I32}
use Rattle.pcp_base.specs.declared.kind.Semantics.TheVariants.{Counter}
use Rattle.mmv_layout.specs.Fields.{number64, text_at}
use Rattle.mmv_layout.specs.Sizes.{string_size}
use Rattle.mmv_layout.specs.EntryFields.{serial_in_indom, count_in_indom, short_offset_in_indom, long_offset_in_indom, number_in_instance, name_in_instance, name_in_metric, item_in_metric, type_in_metric, semantics_in_metric, units_in_metric, serial_in_metric, short_offset_in_metric, long_offset_in_metric, extra_in_value, instance_in_value}
use Rattle.mmv_layout.specs.Contents.{version_in, first_generation, flags_in, cluster_in, process_in}
use Rattle.mmv_layout.specs.Entries.{indom_count, indom_at, metric_count, metric_at, value_count, value_at, string_count, string_at, run_at, is_no_domain, metric_of}
use Rattle.mmv_layout.specs.declared.rows.IndomRow.{IndomRow}
use Rattle.mmv_layout.specs.declared.rows.MetricRow.{MetricRow}
use Rattle.mmv_layout.specs.declared.rows.ValueRow.{ValueRow}
use Rattle.mmv_layout.specs.declared.rows.Content.{Content}
use Rattle.mmv_layout.specs.declared.rows.Content.TheVariants.{Number, Choice, Raw}
use Rattle.mmv_layout.specs.declared.rows.Layout.{Layout}

-- what a function gives for each number below n, in order
unfoldable pub list_below : {X : Type 0} → ℕ → (ℕ → X) → List X
list_below zero row = []
list_below (suc n) row = list_below n row ++ row n ∷ []

-- the number of the instance at an offset, with its sign
abbrev pub number_of : List ℕ → ℕ → ℤ
number_of words instance = cast_signed w32 (number_in_instance words instance)

-- the text of the string at an offset
abbrev pub string_text : List ℕ → ℕ → List ℕ
string_text words offset = text_at words offset string_size

-- the help to which a field leads, if it isn't 0
unfoldable pub help_of : List ℕ → ℕ → Option (List ℕ)
help_of words field = if number64 words field == 0 then None else Some (string_text words (number64 words field))

-- the instance at an offset: its number and its name
unfoldable pub instance_row : List ℕ → ℕ → ℤ × List ℕ
instance_row words instance = (number_of words instance, name_in_instance words instance)

-- the instances of the domain at an offset: as many as it counts, from its first instance on
unfoldable pub instances_of : List ℕ → ℕ → List (ℤ × List ℕ)
instances_of words domain = list_below (count_in_indom words domain) (λ k. instance_row words (run_at words domain k))

unfoldable pub indom_row : List ℕ → ℕ → IndomRow
indom_row words domain = record {
  serial = serial_in_indom words domain;
  instances = instances_of words domain;
  short = help_of words (short_offset_in_indom domain);
  long = help_of words (long_offset_in_indom domain);
}

-- the domain that a metric's serial names, if it has one
unfoldable pub serial_of : ℕ → Option ℕ
serial_of serial = if is_no_domain serial then None else Some serial

unfoldable pub metric_row : List ℕ → ℕ → MetricRow
metric_row words metric = record {
  name = name_in_metric words metric;
  item = item_in_metric words metric;
  kind = unwrap_or (kind_of_code (type_in_metric words metric)) I32;
  semantics = unwrap_or (semantics_of_code (semantics_in_metric words metric)) Counter;
  units = units_in_metric words metric;
  serial = serial_of (serial_in_metric words metric);
  short = help_of words (short_offset_in_metric words metric);
  long = help_of words (long_offset_in_metric words metric);
}

-- the item, the type and the serial of the metric of the value at an offset
abbrev pub item_of : List ℕ → ℕ → ℕ
item_of words value = item_in_metric words (metric_of words value)

abbrev pub type_of : List ℕ → ℕ → ℕ
type_of words value = type_in_metric words (metric_of words value)

abbrev pub domain_of : List ℕ → ℕ → ℕ
domain_of words value = serial_in_metric words (metric_of words value)

-- the number of the value's instance, if its metric has a domain
unfoldable pub instance_of : List ℕ → ℕ → Option ℤ
instance_of words value = if is_no_domain (domain_of words value) then None else Some (number_of words (instance_in_value words value))

unfoldable pub content_of : List ℕ → ℕ → Content
content_of words value =
    if nat_le (type_of words value) 3 then Number (number64 words value) else
    if type_of words value == 6 then Choice (string_text words (extra_in_value words value)) else
    Raw (number64 words value) (extra_in_value words value)

unfoldable pub value_row : List ℕ → ℕ → ValueRow
value_row words value = record { item = item_of words value; instance = instance_of words value; content = content_of words value }

-- the rows of each section, in its order

unfoldable pub indoms_of : List ℕ → List IndomRow
indoms_of words = list_below (indom_count words) (λ i. indom_row words (indom_at words i))

unfoldable pub metrics_of : List ℕ → List MetricRow
metrics_of words = list_below (metric_count words) (λ i. metric_row words (metric_at words i))

unfoldable pub values_of : List ℕ → List ValueRow
values_of words = list_below (value_count words) (λ i. value_row words (value_at words i))

unfoldable pub strings_of : List ℕ → List (List ℕ)
strings_of words = list_below (string_count words) (λ i. string_text words (string_at words i))

-- what words say
unfoldable pub layout_of : List ℕ → Layout
layout_of words = record {
  version = version_in words;
  generation = first_generation words;
  flags = flags_in words;
  pid = process_in words;
  cluster = cluster_in words;
  indoms = indoms_of words;
  metrics = metrics_of words;
  values = values_of words;
  strings = strings_of words;
}
