-- The entries of an image's sections (mmv(5)), and when each is good. Entry i of a section stands at the
-- section's offset and i times the size of such an entry. Each test that fails is a fault at the offset that its comment names.
use Rattle.std.specs.Prelude.{ℕ, ◌+◌, ◌*◌, Bool, true, not, ◌&&◌, ◌||◌, ◌==◌, nat_le, nat_lt, if◌then◌else◌, is_some, List}
use Rattle.pcp_base.specs.Codes.{kind_of_code, semantics_of_code}
use Rattle.pcp_base.specs.Names.{spells}
use Rattle.mmv_layout.specs.Below.{all_below, some_below}
use Rattle.mmv_layout.specs.Fields.{number64, byte_at, has_zero}
use Rattle.mmv_layout.specs.Sizes.{has_inline_names, name_room, indom_size, instance_size, metric_size, value_size, string_size}
use Rattle.mmv_layout.specs.EntryFields.{name_start, name_text, same_name, serial_in_indom, count_in_indom, first_in_indom, short_offset_in_indom, long_offset_in_indom, domain_in_instance, number_in_instance, name_offset_in_instance, item_in_metric, type_in_metric, semantics_in_metric, serial_in_metric, short_offset_in_metric, long_offset_in_metric, extra_in_value, metric_in_value, instance_in_value}
use Rattle.mmv_layout.specs.Contents.{version_in, section_of}

-- an offset is that of one of `count` entries of a size, the first of them at `first`
unfoldable pub leads : ℕ → ℕ → ℕ → ℕ → Bool
leads first count size offset = some_below count (λ k. first + size * k == offset)

-- Instance domains

abbrev pub indom_count : List ℕ → ℕ
indom_count words = (section_of words 1).count

abbrev pub indom_at : List ℕ → ℕ → ℕ
indom_at words i = (section_of words 1).offset + indom_size * i

abbrev pub leads_to_indom : List ℕ → ℕ → Bool
leads_to_indom words offset = leads (section_of words 1).offset (section_of words 1).count indom_size offset

-- Instances

abbrev pub instance_count : List ℕ → ℕ
instance_count words = (section_of words 2).count

abbrev pub instance_at : List ℕ → ℕ → ℕ
instance_at words i = (section_of words 2).offset + instance_size (version_in words) * i

abbrev pub leads_to_instance : List ℕ → ℕ → Bool
leads_to_instance words offset = leads (section_of words 2).offset (section_of words 2).count (instance_size (version_in words)) offset

-- Metrics

abbrev pub metric_count : List ℕ → ℕ
metric_count words = (section_of words 3).count

abbrev pub metric_at : List ℕ → ℕ → ℕ
metric_at words i = (section_of words 3).offset + metric_size (version_in words) * i

abbrev pub leads_to_metric : List ℕ → ℕ → Bool
leads_to_metric words offset = leads (section_of words 3).offset (section_of words 3).count (metric_size (version_in words)) offset

-- Values

abbrev pub value_count : List ℕ → ℕ
value_count words = (section_of words 4).count

abbrev pub value_at : List ℕ → ℕ → ℕ
value_at words i = (section_of words 4).offset + value_size * i

-- Strings

abbrev pub string_count : List ℕ → ℕ
string_count words = (section_of words 5).count

abbrev pub string_at : List ℕ → ℕ → ℕ
string_at words i = (section_of words 5).offset + string_size * i

abbrev pub leads_to_string : List ℕ → ℕ → Bool
leads_to_string words offset = leads (section_of words 5).offset (section_of words 5).count string_size offset

-- the help field at an offset is 0 or leads to a string. Where it doesn't is the fault Reference, at the field
unfoldable pub help_leads : List ℕ → ℕ → Bool
help_leads words field = number64 words field == 0 || leads_to_string words (number64 words field)

-- Names

-- the name field at an offset has its name: in version 1 in itself, in version 2 in a string, to which it leads. Where it
-- leads to none is the fault Reference, at the field
unfoldable pub name_leads : List ℕ → ℕ → Bool
name_leads words field = has_inline_names (version_in words) || leads_to_string words (number64 words field)

-- the name of the name field at an offset has a zero byte behind it
unfoldable pub name_ends : List ℕ → ℕ → Bool
name_ends words field = has_zero words (name_start words field) (name_room (version_in words))

-- in version 2 the name field at an offset leads to no string, or to one without a zero byte: then its name isn't looked
-- at, since that is the fault Reference at the field, or the fault Name at the string
unfoldable pub is_passed_over : List ℕ → ℕ → Bool
is_passed_over words field = not (has_inline_names (version_in words)) && not (name_leads words field && name_ends words field)

-- the name field at an offset has a name that ends and isn't empty. Where it hasn't is the fault Name, at the field
unfoldable pub has_text : List ℕ → ℕ → Bool
has_text words field = is_passed_over words field || (name_ends words field && not (byte_at words (name_start words field) == 0))

-- the name field at an offset has a name that ends and keeps the rule for names. Where it hasn't is the fault Name, at the
-- field
unfoldable pub has_name : List ℕ → ℕ → Bool
has_name words field = is_passed_over words field || (name_ends words field && spells true (name_text words field))

-- an instance stands at an offset and leads to a domain
unfoldable pub is_instance_of : List ℕ → ℕ → ℕ → Bool
is_instance_of words domain instance = leads_to_instance words instance && domain_in_instance words instance == domain

-- instance k of the run of the domain at an offset
abbrev pub run_at : List ℕ → ℕ → ℕ → ℕ
run_at words domain k = first_in_indom words domain + instance_size (version_in words) * k

-- the run of the domain at an offset: as many of its instances as it counts, from its first instance on. Where they
-- aren't is the fault Reference, at the domain's first instance field
unfoldable pub has_good_run : List ℕ → ℕ → Bool
has_good_run words domain =
    all_below (count_in_indom words domain) (λ k. is_instance_of words domain (run_at words domain k))

-- domain i has a serial
unfoldable pub has_serial : List ℕ → ℕ → ℕ → Bool
has_serial words serial i = serial_in_indom words (indom_at words i) == serial

-- no earlier domain has the serial of domain i. Where one has is the fault Duplicate, at the entry
unfoldable pub is_new_indom : List ℕ → ℕ → Bool
is_new_indom words i = all_below i (λ j. not (has_serial words (serial_in_indom words (indom_at words i)) j))

-- a domain's serial is 1 to 1023. Where it isn't is the fault Serial, at the serial
abbrev pub is_serial : ℕ → Bool
is_serial serial = nat_le 1 serial && nat_le serial 1023

unfoldable pub is_good_indom : List ℕ → ℕ → Bool
is_good_indom words i =
    help_leads words (short_offset_in_indom (indom_at words i)) && help_leads words (long_offset_in_indom (indom_at words i))
    && has_good_run words (indom_at words i) && is_new_indom words i && is_serial (serial_in_indom words (indom_at words i))

-- the instance at an offset leads to a domain, in whose run it lies. Where it doesn't is the fault Reference, at the entry's domain field
unfoldable pub lies_in_run : List ℕ → ℕ → Bool
lies_in_run words instance =
    let domain = domain_in_instance words instance in
    leads_to_indom words domain && leads (first_in_indom words domain) (count_in_indom words domain) (instance_size (version_in words)) instance

-- two instances of one domain have one number or one name
unfoldable pub is_same_instance : List ℕ → ℕ → ℕ → Bool
is_same_instance words a b =
    domain_in_instance words a == domain_in_instance words b
    && (number_in_instance words a == number_in_instance words b || same_name words (name_offset_in_instance a) (name_offset_in_instance b))

-- no earlier instance of its domain has the number or the name of instance i. Where one has is the fault Duplicate, at the entry
unfoldable pub is_new_instance : List ℕ → ℕ → Bool
is_new_instance words i = all_below i (λ j. not (is_same_instance words (instance_at words j) (instance_at words i)))

-- an instance's number isn't negative. Where it is is the fault Serial, at the number
abbrev pub is_instance_number : ℕ → Bool
is_instance_number number = nat_lt number 2147483648

unfoldable pub is_good_instance : List ℕ → ℕ → Bool
is_good_instance words i =
    has_text words (name_offset_in_instance (instance_at words i)) && name_leads words (name_offset_in_instance (instance_at words i))
    && lies_in_run words (instance_at words i)
    && is_new_instance words i && is_instance_number (number_in_instance words (instance_at words i))

-- the type and the semantics of the metric at an offset have a meaning. Where one hasn't is the fault Kind, at the code
abbrev pub is_kind : ℕ → Bool
is_kind code = is_some (kind_of_code code)

abbrev pub is_semantics : ℕ → Bool
is_semantics code = is_some (semantics_of_code code)

-- the serial of a metric without a domain
abbrev pub is_no_domain : ℕ → Bool
is_no_domain serial = serial == 0 || serial == 4294967295

-- some domain has a serial
unfoldable pub is_indom_serial : List ℕ → ℕ → Bool
is_indom_serial words serial = some_below (indom_count words) (has_serial words serial)

-- a metric's serial is none or that of a domain. Where it isn't is the fault Reference, at the serial
unfoldable pub serial_leads : List ℕ → ℕ → Bool
serial_leads words serial = is_no_domain serial || is_indom_serial words serial

-- two metrics have one item or one name
unfoldable pub is_same_metric : List ℕ → ℕ → ℕ → Bool
is_same_metric words a b = item_in_metric words a == item_in_metric words b || same_name words a b

-- no earlier metric has the item or the name of metric i. Where one has is the fault Duplicate, at the entry
unfoldable pub is_new_metric : List ℕ → ℕ → Bool
is_new_metric words i = all_below i (λ j. not (is_same_metric words (metric_at words j) (metric_at words i)))

-- an item is at most 1023. Where it isn't is the fault Serial, at the item
abbrev pub is_item : ℕ → Bool
is_item item = nat_le item 1023

-- the metric at an offset has codes with a meaning, references that lead, and an item
unfoldable pub has_good_fields : List ℕ → ℕ → Bool
has_good_fields words metric =
    is_kind (type_in_metric words metric) && is_semantics (semantics_in_metric words metric)
    && serial_leads words (serial_in_metric words metric) && help_leads words (short_offset_in_metric words metric) && help_leads words (long_offset_in_metric words metric)
    && is_item (item_in_metric words metric)

unfoldable pub is_good_metric : List ℕ → ℕ → Bool
is_good_metric words i =
    has_name words (metric_at words i) && name_leads words (metric_at words i) && has_good_fields words (metric_at words i)
    && is_new_metric words i

-- the metric of the value at an offset. Where the field leads to none is the fault Reference, at the field
unfoldable pub metric_of : List ℕ → ℕ → ℕ
metric_of words value = metric_in_value words value

-- the value at an offset has the instance 0 where its metric has no domain, and else an instance that leads to a domain
-- with the metric's serial. Where it hasn't is the fault Reference, at its instance field
unfoldable pub instance_leads : List ℕ → ℕ → Bool
instance_leads words value =
    if is_no_domain (serial_in_metric words (metric_of words value)) then instance_in_value words value == 0
    else (leads_to_instance words (instance_in_value words value)
    && (leads_to_indom words (domain_in_instance words (instance_in_value words value))
    && serial_in_indom words (domain_in_instance words (instance_in_value words value)) == serial_in_metric words (metric_of words value)))

-- a string value leads to a string. Where it doesn't is the fault Reference, at its extra field
unfoldable pub choice_leads : List ℕ → ℕ → Bool
choice_leads words value =
    not (type_in_metric words (metric_of words value) == 6) || leads_to_string words (extra_in_value words value)

-- two values have one metric and one instance
unfoldable pub is_same_value : List ℕ → ℕ → ℕ → Bool
is_same_value words a b = metric_in_value words a == metric_in_value words b && instance_in_value words a == instance_in_value words b

-- no earlier value has the metric and the instance of value i. Where one has is the fault Duplicate, at the entry
unfoldable pub is_new_value : List ℕ → ℕ → Bool
is_new_value words i = all_below i (λ j. not (is_same_value words (value_at words j) (value_at words i)))

unfoldable pub is_good_value : List ℕ → ℕ → Bool
is_good_value words i =
    leads_to_metric words (metric_of words (value_at words i)) && instance_leads words (value_at words i)
    && choice_leads words (value_at words i) && is_new_value words i

-- string i has a zero byte. Where it hasn't is the fault Name, at the string
unfoldable pub is_good_string : List ℕ → ℕ → Bool
is_good_string words i = has_zero words (string_at words i) string_size

-- all entries of each section are good

unfoldable pub indoms_are_good : List ℕ → Bool
indoms_are_good words = all_below (indom_count words) (is_good_indom words)

unfoldable pub instances_are_good : List ℕ → Bool
instances_are_good words = all_below (instance_count words) (is_good_instance words)

unfoldable pub metrics_are_good : List ℕ → Bool
metrics_are_good words = all_below (metric_count words) (is_good_metric words)

unfoldable pub values_are_good : List ℕ → Bool
values_are_good words = all_below (value_count words) (is_good_value words)

unfoldable pub strings_are_good : List ℕ → Bool
strings_are_good words = all_below (string_count words) (is_good_string words)
