-- Which rows a builder refuses (mmv(5)), each by the first of its rules that the row breaks.
use Rattle.std.specs.Prelude.{ℕ, ℤ, Bool, true, false, not, ◌&&◌, ◌||◌, ◌==◌, nat_le, nat_lt, if◌then◌else◌, List, length, Option, Some, None, bytes_eq}
use Rattle.std.specs.List.{list_any}
use Rattle.std.specs.Int.{is_negative}
use Rattle.std.specs.Ordering.{int_eq}
use Rattle.pcp_base.specs.Codes.{code_of_kind}
use Rattle.pcp_base.specs.Names.{spells}
use Rattle.pcp_base.specs.declared.kind.Kind.{Kind}
use Rattle.mmv_layout.specs.Sizes.{is_version, name_room}
use Rattle.mmv_layout.specs.Entries.{is_serial}
use Rattle.mmv_layout.specs.declared.rows.IndomRow.{IndomRow}
use Rattle.mmv_layout.specs.declared.rows.MetricRow.{MetricRow}
use Rattle.mmv_layout.specs.declared.rows.ValueRow.{ValueRow}
use Rattle.mmv_layout.specs.declared.rows.Content.{Content}
use Rattle.mmv_layout.specs.declared.rows.Content.TheVariants.{Number, Choice, Raw}
use Rattle.mmv_layout.specs.declared.rows.Layout.{Layout}
use Rattle.mmv_writer.specs.declared.fault.BuildFault.{BuildFault}
use Rattle.mmv_writer.specs.declared.fault.BuildFault.TheVariants.{Name, Duplicate, Unknown, Serial, Item}

-- a text of more than 255 bytes
abbrev pub is_long : List ℕ → Bool
is_long text = nat_lt 255 (length text)

abbrev pub is_long_help : Option (List ℕ) → Bool
is_long_help None = false
is_long_help (Some text) = is_long text

-- some domain has a serial
abbrev pub has_domain : List IndomRow → ℕ → Bool
has_domain indoms serial = list_any (λ row. row.serial == serial) indoms

-- a version that is written and a cluster of at most 4095 alone are taken
abbrev pub header_fault : ℕ → ℕ → Option BuildFault
header_fault version cluster = if is_version version && nat_le cluster 4095 then None else Some Serial

-- a domain: long helps, a serial that is there, a serial out of range
unfoldable pub indom_fault : Layout → IndomRow → Option BuildFault
indom_fault draft row =
    if is_long_help row.short || is_long_help row.long then Some Name else
    if has_domain draft.indoms row.serial then Some Duplicate else
    if is_serial row.serial then None else Some Serial

-- a name is short enough for a version, with a zero byte behind it: it has at most 63 bytes in version 1, 255 in version 2
abbrev pub is_short_name : ℕ → List ℕ → Bool
is_short_name version name = nat_lt (length name) (name_room version)

-- an instance's name has some bytes, and isn't too long
abbrev pub is_instance_name : ℕ → List ℕ → Bool
is_instance_name version name = nat_le 1 (length name) && is_short_name version name

-- two instances have one number or one name
abbrev pub is_same_instance : ℤ × List ℕ → ℤ × List ℕ → Bool
is_same_instance a b = int_eq a.0 b.0 || bytes_eq a.1 b.1

-- a domain of this serial has the number or the name
abbrev pub has_same_instance : List IndomRow → ℕ → ℤ × List ℕ → Bool
has_same_instance indoms serial instance =
    list_any (λ row. row.serial == serial && list_any (λ other. is_same_instance other instance) row.instances) indoms

-- an instance: its name, its number or name in its domain, its domain, a negative number
unfoldable pub instance_fault : Layout → ℕ → ℤ → List ℕ → Option BuildFault
instance_fault draft serial id name =
    if not (is_instance_name draft.version name) then Some Name else
    if has_same_instance draft.indoms serial (id, name) then Some Duplicate else
    if not (has_domain draft.indoms serial) then Some (Unknown serial) else
    if is_negative id then Some Serial else None

-- a metric's name is a name that isn't too long
abbrev pub is_metric_name : ℕ → List ℕ → Bool
is_metric_name version name = spells true name && is_short_name version name

-- two metrics have one item or one name
abbrev pub is_same_metric : MetricRow → MetricRow → Bool
is_same_metric a b = a.item == b.item || bytes_eq a.name b.name

-- the serial of which there is no domain
abbrev pub lacks_domain : List IndomRow → Option ℕ → Option ℕ
lacks_domain indoms None = None
lacks_domain indoms (Some serial) = if has_domain indoms serial then None else Some serial

abbrev pub unknown_or : Option ℕ → Option BuildFault → Option BuildFault
unknown_or None fault = fault
unknown_or (Some serial) fault = Some (Unknown serial)

-- a metric: its name and helps, its item or name, its domain, its item's range
unfoldable pub metric_fault : Layout → MetricRow → Option BuildFault
metric_fault draft row =
    if not (is_metric_name draft.version row.name) || (is_long_help row.short || is_long_help row.long) then Some Name else
    if list_any (λ other. is_same_metric other row) draft.metrics then Some Duplicate else
    unknown_or (lacks_domain draft.indoms row.serial) (if nat_le row.item 1023 then None else Some Item)

-- a domain of this serial has the number
abbrev pub has_instance : List IndomRow → ℕ → ℤ → Bool
has_instance indoms serial id =
    list_any (λ row. row.serial == serial && list_any (λ other. int_eq other.0 id) row.instances) indoms

-- a metric without a domain has one value without an instance, and one with a domain values of its instances
abbrev pub fits_instance : List IndomRow → Option ℕ → Option ℤ → Bool
fits_instance indoms None None = true
fits_instance indoms None (Some id) = false
fits_instance indoms (Some serial) None = false
fits_instance indoms (Some serial) (Some id) = has_instance indoms serial id

-- numbers have the codes 0 to 3, texts 6, and the rest are kept raw
abbrev pub fits_kind : Kind → Content → Bool
fits_kind kind (Number n) = nat_le (code_of_kind kind) 3
fits_kind kind (Choice text) = code_of_kind kind == 6
fits_kind kind (Raw value extra) = not (nat_le (code_of_kind kind) 3 || code_of_kind kind == 6)

-- a value is one of a metric
abbrev pub fits_metric : List IndomRow → ValueRow → MetricRow → Bool
fits_metric indoms row metric =
    metric.item == row.item && (fits_instance indoms metric.serial row.instance && fits_kind metric.kind row.content)

abbrev pub fits_some_metric : List IndomRow → List MetricRow → ValueRow → Bool
fits_some_metric indoms metrics row = list_any (λ metric. fits_metric indoms row metric) metrics

abbrev pub is_same_number : Option ℤ → Option ℤ → Bool
is_same_number None None = true
is_same_number None (Some b) = false
is_same_number (Some a) None = false
is_same_number (Some a) (Some b) = int_eq a b

-- two values have one metric and one instance
abbrev pub is_same_value : ValueRow → ValueRow → Bool
is_same_value a b = a.item == b.item && is_same_number a.instance b.instance

abbrev pub is_long_content : Content → Bool
is_long_content (Number n) = false
is_long_content (Choice text) = is_long text
is_long_content (Raw value extra) = false

-- a value: a long text, its item and instance, its metric
unfoldable pub value_fault : Layout → ValueRow → Option BuildFault
value_fault draft row =
    if is_long_content row.content then Some Name else
    if list_any (λ other. is_same_value other row) draft.values then Some Duplicate else
    if fits_some_metric draft.indoms draft.metrics row then None else Some Item

unfoldable pub text_fault : List ℕ → Option BuildFault
text_fault text = if is_long text then Some Name else None
