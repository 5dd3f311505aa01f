-- Where the sections of a spelled image stand: behind the header and the contents, in the order of their types and
-- without gaps. Offsets are bytes from the image's start.
use Rattle.std.specs.Prelude.{ℕ, ◌+◌, ◌*◌, ◌/◌, ◌≤◌, ◌==◌, if◌then◌else◌, List, length, sum_by}
use Rattle.mmv_layout.specs.declared.rows.IndomRow.{IndomRow}
use Rattle.mmv_layout.specs.declared.rows.Layout.{Layout}
use Rattle.mmv_writer.specs.declared.offsets.Counts.{Counts}
use Rattle.mmv_writer.specs.declared.offsets.SectionOffsets.{SectionOffsets}
use Rattle.mmv_layout.specs.Sizes.{name_width, header_size, entry_size, indom_size, instance_size, metric_size, value_size, string_size}

-- how many words a name field and each part take
abbrev pub name_length : ℕ → ℕ
name_length version = name_width version / 8

abbrev pub header_length : ℕ
header_length = header_size / 8

abbrev pub entry_length : ℕ
entry_length = entry_size / 8

abbrev pub indom_length : ℕ
indom_length = indom_size / 8

abbrev pub instance_length : ℕ → ℕ
instance_length version = instance_size version / 8

abbrev pub metric_length : ℕ → ℕ
metric_length version = metric_size version / 8

abbrev pub value_length : ℕ
value_length = value_size / 8

abbrev pub string_length : ℕ
string_length = string_size / 8

-- how many instances domains have together
abbrev pub instances_in : List IndomRow → ℕ
instances_in rows = sum_by (λ row. length row.instances) rows

-- the version of a draft, and how many entries each section has with these strings
abbrev pub counts_of : Layout → List (List ℕ) → Counts
counts_of draft strings = record {
  version = draft.version;
  indoms = length draft.indoms;
  instances = instances_in draft.indoms;
  metrics = length draft.metrics;
  values = length draft.values;
  strings = length strings;
}

abbrev pub one_if_some : ℕ → ℕ
one_if_some count = if count == 0 then 0 else 1

-- how many sections aren't empty
unfoldable pub sections_in : Counts → ℕ
sections_in counts =
    one_if_some counts.indoms + one_if_some counts.instances + one_if_some counts.metrics + one_if_some counts.values + one_if_some counts.strings

-- the offset behind the contents
abbrev pub contents_end : Counts → ℕ
contents_end counts = header_size + entry_size * sections_in counts

abbrev pub section_offsets : Counts → SectionOffsets
section_offsets counts = record {
  version = counts.version;
  indoms = contents_end counts;
  instances = contents_end counts + indom_size * counts.indoms;
  metrics = contents_end counts + indom_size * counts.indoms + instance_size counts.version * counts.instances;
  values = contents_end counts + indom_size * counts.indoms + instance_size counts.version * counts.instances + metric_size counts.version * counts.metrics;
  strings = contents_end counts + indom_size * counts.indoms + instance_size counts.version * counts.instances + metric_size counts.version * counts.metrics + value_size * counts.values;
}

-- how many words an image with these counts has
abbrev pub words_in : Counts → ℕ
words_in counts =
    header_length + entry_length * sections_in counts + indom_length * counts.indoms + instance_length counts.version * counts.instances + metric_length counts.version * counts.metrics + value_length * counts.values + string_length * counts.strings

-- offsets of an image of at most 65,536 words, and what its references count
pub record AreSmall (offsets : SectionOffsets) : Type 0 where
  pub indoms : offsets.indoms ≤ 1048576
  pub instances : offsets.instances ≤ 1048576
  pub metrics : offsets.metrics ≤ 1048576
  pub values : offsets.values ≤ 1048576
  pub strings : offsets.strings ≤ 1048576
