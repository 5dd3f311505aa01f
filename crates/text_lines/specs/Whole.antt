-- All lines of a layout: its header, the strings, each domain with its instances behind it, the metrics, the values.
use Rattle.std.specs.Prelude.{◌≡◌, ℕ, ℤ, ◌==◌, Bool, if◌then◌else◌, List, [], ◌∷◌, ◌++◌, Option, Some, None}
use Rattle.std.specs.Ordering.{nat_cmp}
use Rattle.std.specs.BTreeMap.{BTreeMap, get}
use Rattle.pcp_base.specs.declared.kind.Kind.{Kind}
use Rattle.pcp_base.specs.declared.kind.Kind.TheVariants as kinds
use Rattle.mmv_layout.specs.declared.rows.IndomRow.{IndomRow}
use Rattle.mmv_layout.specs.declared.rows.MetricRow.{MetricRow}
use Rattle.mmv_layout.specs.declared.rows.ValueRow.{ValueRow}
use Rattle.mmv_layout.specs.declared.rows.Layout.{Layout}
use Rattle.text_lines.specs.declared.layout_line.Line.TheVariants as lines
use Rattle.text_lines.specs.Contents.{written_of}
use Rattle.text_lines.specs.LayoutSpelling.{full_line}

abbrev pub strings_text : List (List ℕ) → List ℕ
strings_text [] = []
strings_text (text ∷ texts) = full_line (lines.String text) ++ strings_text texts

abbrev pub instances_text : ℕ → List (ℤ × List ℕ) → List ℕ
instances_text serial [] = []
instances_text serial (row ∷ rows) = full_line (lines.Instance serial row.0 row.1) ++ instances_text serial rows

unfoldable pub indom_text : IndomRow → List ℕ
indom_text row = full_line (lines.Indom row.serial row.short row.long) ++ instances_text row.serial row.instances

abbrev pub indoms_text : List IndomRow → List ℕ
indoms_text [] = []
indoms_text (row ∷ rows) = indom_text row ++ indoms_text rows

abbrev pub metrics_text : List MetricRow → List ℕ
metrics_text [] = []
metrics_text (row ∷ rows) = full_line (lines.Metric row) ++ metrics_text rows

-- the kind of the first metric with this item; without one a number is written as it stands
abbrev pub kind_of_item : ℕ → List MetricRow → Kind
kind_of_item item [] = kinds.U64
kind_of_item item (row ∷ rows) = if row.item == item then row.kind else kind_of_item item rows

-- the same, where there is one
abbrev pub kind_in : ℕ → List MetricRow → Option Kind
kind_in item [] = None
kind_in item (row ∷ rows) = if row.item == item then Some row.kind else kind_in item rows

-- a map has the kind of the first metric with each item
abbrev pub AreKinds : BTreeMap ℕ Kind → List MetricRow → Type 0
AreKinds found metrics = (item : ℕ) → get nat_cmp found item ≡ kind_in item metrics

-- what is kept of a key, or else a new value where the key is its own
abbrev pub kept_or : {X : Type 0} → Option X → Bool → X → Option X
kept_or (Some x) here y = Some x
kept_or None here y = if here then Some y else None

unfoldable pub value_text : List MetricRow → ValueRow → List ℕ
value_text metrics row = full_line (lines.Value row.item row.instance (written_of (kind_of_item row.item metrics) row.content))

abbrev pub values_text : List MetricRow → List ValueRow → List ℕ
values_text metrics [] = []
values_text metrics (row ∷ rows) = value_text metrics row ++ values_text metrics rows

unfoldable pub layout_text : Layout → List ℕ
layout_text layout =
    full_line (lines.Mmv layout.version layout.generation layout.flags layout.pid layout.cluster)
    ++ (strings_text layout.strings ++ (indoms_text layout.indoms ++ (metrics_text layout.metrics ++ values_text layout.metrics layout.values)))
