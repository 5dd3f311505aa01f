-- The one spelling of a draft as words (mmv(5)): the header, the contents, then the entries of each section
-- in the order in which the rows were given. Word i is the bytes 8i to 8i + 7, the low byte first.
use Rattle.std.specs.Prelude.{ℕ, ℤ, ◌+◌, ◌*◌, ◌==◌, if◌then◌else◌, List, [], ◌∷◌, ◌++◌, take, length, Option, Some, None, find, bytes_eq}
use Rattle.std.specs.List.{list_any, position_or_len, flat_map}
use Rattle.std.specs.Int.{w32, cast_unsigned}
use Rattle.std.specs.Ordering.{int_eq}
use Rattle.pcp_base.specs.Codes.{code_of_kind, code_of_semantics}
use Rattle.mmv_layout.specs.Fields.{first_words}
use Rattle.mmv_layout.specs.declared.rows.IndomRow.{IndomRow}
use Rattle.mmv_layout.specs.declared.rows.MetricRow.{MetricRow}
use Rattle.mmv_layout.specs.declared.rows.ValueRow.{ValueRow}
use Rattle.mmv_layout.specs.declared.rows.Content.{Content}
use Rattle.mmv_layout.specs.declared.rows.Content.TheVariants.{Number, Choice, Raw}
use Rattle.mmv_layout.specs.declared.rows.Layout.{Layout}
use Rattle.mmv_writer.specs.declared.offsets.Counts.{Counts}
use Rattle.mmv_writer.specs.declared.offsets.SectionOffsets.{SectionOffsets}
use Rattle.mmv_writer.specs.Offsets.{instances_in, counts_of, sections_in, section_offsets}
use Rattle.mmv_layout.specs.Sizes.{has_inline_names, indom_size, instance_size, metric_size, string_size}
use Rattle.mmv_writer.specs.Offsets.{name_length, string_length}

-- Strings

abbrev pub texts_of : Option (List ℕ) → List (List ℕ)
texts_of None = []
texts_of (Some text) = text ∷ []

abbrev pub texts_in : Content → List (List ℕ)
texts_in (Number n) = []
texts_in (Choice text) = text ∷ []
texts_in (Raw value extra) = []

-- a name that stands in its field isn't referred to, and in version 2 each is
abbrev pub texts_of_name : ℕ → List ℕ → List (List ℕ)
texts_of_name version name = if has_inline_names version then [] else name ∷ []

abbrev pub texts_of_domain : IndomRow → List (List ℕ)
texts_of_domain row = texts_of row.short ++ texts_of row.long

abbrev pub texts_of_instances : ℕ → IndomRow → List (List ℕ)
texts_of_instances version row = flat_map (λ instance. texts_of_name version instance.1) row.instances

abbrev pub texts_of_metric : ℕ → MetricRow → List (List ℕ)
texts_of_metric version row = texts_of_name version row.name ++ (texts_of row.short ++ texts_of row.long)

-- the texts that references lead to: the helps of all domains, the names of all instances, of each metric its name and
-- its helps, and the string values
abbrev pub reference_texts : Layout → List (List ℕ)
reference_texts draft =
    flat_map texts_of_domain draft.indoms ++ (flat_map (texts_of_instances draft.version) draft.indoms
    ++ (flat_map (texts_of_metric draft.version) draft.metrics ++ flat_map (λ row. texts_in row.content) draft.values))

-- strings, and behind them each text that isn't among those before it
unfoldable pub with_missing : List (List ℕ) → List (List ℕ) → List (List ℕ)
with_missing strings [] = strings
with_missing strings (text ∷ texts) =
    with_missing (if list_any (λ other. bytes_eq other text) strings then strings else strings ++ text ∷ []) texts

-- the strings of an image: those given, and the missing ones
unfoldable pub all_strings : Layout → List (List ℕ)
all_strings draft = with_missing draft.strings (reference_texts draft)

-- References, each the offset of the first entry that is meant

abbrev pub string_offset : SectionOffsets → List (List ℕ) → List ℕ → ℕ
string_offset offsets strings text = offsets.strings + string_size * position_or_len (λ other. bytes_eq other text) strings

abbrev pub help_offset : SectionOffsets → List (List ℕ) → Option (List ℕ) → ℕ
help_offset offsets strings None = 0
help_offset offsets strings (Some text) = string_offset offsets strings text

-- the number of the domain with a serial
abbrev pub domain_of : List IndomRow → ℕ → ℕ
domain_of indoms serial = position_or_len (λ row. row.serial == serial) indoms

abbrev pub domain_offset : SectionOffsets → List IndomRow → ℕ → ℕ
domain_offset offsets indoms serial = offsets.indoms + indom_size * domain_of indoms serial

-- the offset of instance k of the domain with a serial: behind the instances of all earlier domains
abbrev pub instance_offset : SectionOffsets → List IndomRow → ℕ → ℕ → ℕ
instance_offset offsets indoms serial k = offsets.instances + instance_size offsets.version * (instances_in (take (domain_of indoms serial) indoms) + k)

abbrev pub metric_offset : SectionOffsets → List MetricRow → ℕ → ℕ
metric_offset offsets metrics item = offsets.metrics + metric_size offsets.version * position_or_len (λ metric. metric.item == item) metrics

-- Entries

-- a word of two numbers of four bytes
abbrev pub halves : ℕ → ℕ → ℕ
halves low high = low + 4294967296 * high

-- `MMV` and a zero byte, the version, the generation twice, the number of contents entries, the flags, the process and
-- the cluster
unfoldable pub header_words : Layout → ℕ → List ℕ
header_words draft sections =
    halves 5655885 draft.version ∷ draft.generation ∷ draft.generation ∷ halves sections draft.flags ∷ halves draft.pid draft.cluster ∷ []

-- the contents entry of a section that isn't empty
abbrev pub entry_words : ℕ → ℕ → ℕ → List ℕ
entry_words type count offset = if count == 0 then [] else halves type count ∷ offset ∷ []

unfoldable pub contents_words : Counts → SectionOffsets → List ℕ
contents_words counts offsets =
    entry_words 1 counts.indoms offsets.indoms ++ (entry_words 2 counts.instances offsets.instances
    ++ (entry_words 3 counts.metrics offsets.metrics ++ (entry_words 4 counts.values offsets.values ++ entry_words 5 counts.strings offsets.strings)))

-- the first instance of a domain, 0 where it has none
abbrev pub first_instance : SectionOffsets → List IndomRow → IndomRow → ℕ
first_instance offsets indoms row = if length row.instances == 0 then 0 else instance_offset offsets indoms row.serial 0

unfoldable pub domain_words : SectionOffsets → List (List ℕ) → List IndomRow → IndomRow → List ℕ
domain_words offsets strings indoms row =
    halves row.serial (length row.instances) ∷ first_instance offsets indoms row ∷ help_offset offsets strings row.short ∷ help_offset offsets strings row.long ∷ []

-- a name field: the name filled up with zeros, or in version 2 the offset of its string
unfoldable pub name_words : SectionOffsets → List (List ℕ) → List ℕ → List ℕ
name_words offsets strings name =
    if has_inline_names offsets.version then first_words (name_length offsets.version) name else string_offset offsets strings name ∷ []

-- an instance: its domain, a zero, its number and its name
unfoldable pub instance_words : SectionOffsets → List (List ℕ) → ℕ → ℤ × List ℕ → List ℕ
instance_words offsets strings domain instance = domain ∷ halves 0 (cast_unsigned w32 instance.0) ∷ name_words offsets strings instance.1

abbrev pub serial_word : Option ℕ → ℕ
serial_word None = 4294967295
serial_word (Some serial) = serial

unfoldable pub metric_words : SectionOffsets → List (List ℕ) → MetricRow → List ℕ
metric_words offsets strings row =
    name_words offsets strings row.name ++ (halves row.item (code_of_kind row.kind) ∷ halves (code_of_semantics row.semantics) row.units ∷ serial_word row.serial
    ∷ help_offset offsets strings row.short ∷ help_offset offsets strings row.long ∷ [])

abbrev pub value_field : Content → ℕ
value_field (Number n) = n
value_field (Choice text) = 0
value_field (Raw value extra) = value

abbrev pub extra_field : SectionOffsets → List (List ℕ) → Content → ℕ
extra_field offsets strings (Number n) = 0
extra_field offsets strings (Choice text) = string_offset offsets strings text
extra_field offsets strings (Raw value extra) = extra

-- the domain's serial of the metric with an item, if there is one
abbrev pub serial_in : Option MetricRow → Option ℕ
serial_in None = None
serial_in (Some metric) = metric.serial

abbrev pub serial_of : List MetricRow → ℕ → Option ℕ
serial_of metrics item = serial_in (find (λ metric. metric.item == item) metrics)

abbrev pub members_in : Option IndomRow → List (ℤ × List ℕ)
members_in None = []
members_in (Some row) = row.instances

-- which of its domain's instances has a number
abbrev pub member_of : List IndomRow → ℕ → ℤ → ℕ
member_of indoms serial id = position_or_len (λ other. int_eq other.0 id) (members_in (find (λ row. row.serial == serial) indoms))

abbrev pub instance_field : SectionOffsets → List IndomRow → Option ℕ → Option ℤ → ℕ
instance_field offsets indoms None number = 0
instance_field offsets indoms (Some serial) None = 0
instance_field offsets indoms (Some serial) (Some id) = instance_offset offsets indoms serial (member_of indoms serial id)

unfoldable pub value_words : SectionOffsets → List (List ℕ) → List IndomRow → List MetricRow → ValueRow → List ℕ
value_words offsets strings indoms metrics row =
    value_field row.content ∷ extra_field offsets strings row.content ∷ metric_offset offsets metrics row.item
    ∷ instance_field offsets indoms (serial_of metrics row.item) row.instance ∷ []

-- Sections

unfoldable pub domain_section : SectionOffsets → List (List ℕ) → List IndomRow → List ℕ
domain_section offsets strings indoms = flat_map (λ row. domain_words offsets strings indoms row) indoms

unfoldable pub instance_section : SectionOffsets → List (List ℕ) → List IndomRow → List ℕ
instance_section offsets strings indoms =
    flat_map (λ row. flat_map (λ instance. instance_words offsets strings (domain_offset offsets indoms row.serial) instance) row.instances) indoms

unfoldable pub metric_section : SectionOffsets → List (List ℕ) → List MetricRow → List ℕ
metric_section offsets strings metrics = flat_map (λ row. metric_words offsets strings row) metrics

unfoldable pub value_section : SectionOffsets → List (List ℕ) → List IndomRow → List MetricRow → List ValueRow → List ℕ
value_section offsets strings indoms metrics values = flat_map (λ row. value_words offsets strings indoms metrics row) values

unfoldable pub string_section : List (List ℕ) → List ℕ
string_section strings = flat_map (λ text. first_words string_length text) strings

-- the sections of a draft, in the order of their types
unfoldable pub sections_words : Layout → List (List ℕ) → SectionOffsets → List ℕ
sections_words draft strings offsets =
    domain_section offsets strings draft.indoms ++ (instance_section offsets strings draft.indoms ++ (metric_section offsets strings draft.metrics
    ++ (value_section offsets strings draft.indoms draft.metrics draft.values ++ string_section strings)))

-- an image of a draft with these strings
unfoldable pub image_with_strings : Layout → List (List ℕ) → List ℕ
image_with_strings draft strings =
    header_words draft (sections_in (counts_of draft strings))
    ++ (contents_words (counts_of draft strings) (section_offsets (counts_of draft strings)) ++ sections_words draft strings (section_offsets (counts_of draft strings)))

unfoldable pub image_words : Layout → List ℕ
image_words draft = image_with_strings draft (all_strings draft)
